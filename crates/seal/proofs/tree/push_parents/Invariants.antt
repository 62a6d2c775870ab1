use Rattle.std.proofs.Common.{◌≡◌, ◌+◌, ◌*◌, ◌++◌, length, drop}
use Rattle.seal.specs.Tree.{pair_up}
use Rattle.seal.proofs.tree.push_parents.Given as goal

-- the parents pushed so far, followed by the parents of the remaining nodes, are the level above
abbrev pub invariant-loop-k : goal.invariant-loop-k
invariant-loop-k l =
    (l.level_start + l.node_count ≡ length l.fn.nodes.items)
    × (length l.nodes.items ≡ length l.fn.nodes.items + l.k)
    × (l.nodes.items ++ pair_up (drop (l.level_start + 2 * l.k) l.fn.nodes.items)
    ≡ l.fn.nodes.items ++ pair_up (drop l.level_start l.fn.nodes.items))
