use Rattle.std.proofs.Common.{◌≡◌, ◌≤◌, ◌-◌, ◌++◌, length, take, drop}
use Rattle.seal.specs.Tree.{all_levels}
use Rattle.seal.proofs.tree.Tree.new.Given as goal

-- the levels before the last one, followed by all levels from the last one up, are all levels of the tree
abbrev pub invariant-loop-level_start : goal.invariant-loop-level_start
invariant-loop-level_start l =
    (l.level_start ≤ length l.nodes.items)
    × (take l.level_start l.nodes.items ++ all_levels (drop l.level_start l.nodes.items) ≡ all_levels l.hashes)

abbrev pub decreases-loop-level_start : goal.decreases-loop-level_start
decreases-loop-level_start l = length l.nodes.items - l.level_start
