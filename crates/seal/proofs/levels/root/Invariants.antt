use Rattle.std.proofs.Common.{◌≡◌, length}
use Rattle.seal.specs.Tree as tree
use Rattle.seal.proofs.levels.root.Given as goal

-- the level reached so far has the same root as the leaf hashes
abbrev pub invariant-loop-level : goal.invariant-loop-level
invariant-loop-level l = tree.root l.level.items ≡ tree.root l.hashes

abbrev pub decreases-loop-level : goal.decreases-loop-level
decreases-loop-level l = length l.level.items
