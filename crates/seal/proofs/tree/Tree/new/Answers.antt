use Rattle.std.proofs.Common.{◌≡◌, length, take, drop, arith, ap, sym, ◌∙◌, length-append}
use Rattle.std.proofs.lemmas.List.{length-drop}
use Rattle.seal.specs.Tree.{pair_up, all_levels}
use Rattle.seal.proofs.Parents.{length-pair_up}
use Rattle.seal.proofs.AllLevels.{take_all_levels, length-all_levels}
use Rattle.seal.proofs.Pushes.{level_pushed, level_ended}
use Rattle.seal.proofs.tree.Tree.new.Goals as goal

pub loop-level_start-smaller : goal.loop-level_start-smaller
loop-level_start-smaller c =
    let l = c.loop-level_start in
    let level = drop l.level_start l.nodes.items in
    omega (arith, ap length c.in_ok-push_parents.ensures, length-append l.nodes.items (pair_up level), length-pair_up level, length-drop l.level_start l.nodes.items)

pub loop-level_start-preserved : goal.loop-level_start-preserved
loop-level_start-preserved c =
    let l = c.loop-level_start in
    let level = drop l.level_start l.nodes.items in (
      omega (arith, ap length c.in_ok-push_parents.ensures, length-append l.nodes.items (pair_up level)),
      level_pushed l.nodes.items _ c.args.hashes.now l.level_start _ (omega (arith, c.len-next_start.ensures)) l.invariant.0 (omega (arith, c.len.ensures, c.loop-level_start-test.true)) c.in_ok-push_parents.ensures l.invariant.1,
    )

pub invariant_of-result : goal.invariant_of-result
invariant_of-result c =
    let l = c.loop-level_start in
    let all = level_ended l.nodes.items c.args.hashes.now l.level_start (omega (arith, c.len.ensures, c.loop-level_start-test.false)) l.invariant.1 in
    let front : take (length c.args.hashes.now) l.nodes.items ≡ c.args.hashes.now = ap (take (length c.args.hashes.now)) all ∙ take_all_levels c.args.hashes.now in
    (omega (arith, ap length all, length-all_levels c.args.hashes.now), all ∙ ap all_levels (sym front))

pub returns : goal.returns
returns c =
    let l = c.loop-level_start in
    ap (take (length c.args.hashes.now)) (level_ended l.nodes.items c.args.hashes.now l.level_start (omega (arith, c.len.ensures, c.loop-level_start-test.false)) l.invariant.1) ∙ take_all_levels c.args.hashes.now
