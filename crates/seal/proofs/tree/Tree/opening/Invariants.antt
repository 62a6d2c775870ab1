use Rattle.std.proofs.Common.{take}
use Rattle.seal.specs.Tree.{path_of}
use Rattle.seal.proofs.Openings.{IsRead}
use Rattle.seal.proofs.tree.Tree.opening.Given as goal

-- the nodes not read yet are all levels from this level up, and the rest of the path starts in this level
abbrev pub invariant-loop-node_count : goal.invariant-loop-node_count
invariant-loop-node_count l =
    IsRead l.self-inside.nodes.items l.path.items (path_of l.leaf_index (take l.self-inside.leaf_count l.self-inside.nodes.items)) l.level_start l.node_count l.place

abbrev pub decreases-loop-node_count : goal.decreases-loop-node_count
decreases-loop-node_count l = l.node_count
