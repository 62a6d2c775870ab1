use Rattle.std.proofs.Common.{◌<◌, length, arith, ap, ◌∙◌}
use Rattle.seal.specs.Tree as tree
use Rattle.seal.proofs.Parents.{length-pair_up, root_pair_up}
use Rattle.seal.proofs.levels.root.Goals as goal

pub loop-level-smaller : goal.loop-level-smaller
loop-level-smaller c = omega (arith, ap length c.pair_level.ensures, length-pair_up c.loop-level.level.items)

pub loop-level-preserved : goal.loop-level-preserved
loop-level-preserved c =
    let more : 1 < length c.loop-level.level.items = omega arith in
    ap tree.root c.pair_level.ensures ∙ root_pair_up c.loop-level.level.items more ∙ c.loop-level.invariant
