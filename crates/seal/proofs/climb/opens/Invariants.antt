use Rattle.std.proofs.Common.{◌≡◌, ◌<◌, ◌≤◌, length, drop}
use Rattle.seal.specs.Tree.{sides_from, climb_by}
use Rattle.seal.proofs.climb.opens.Given as goal

-- the remaining climb from the hash reached so far ends like the whole climb
abbrev pub invariant-loop-nodes : goal.invariant-loop-nodes
invariant-loop-nodes l =
    (l.place < l.nodes) × (l.used_hashes ≤ length l.path)
    × (climb_by (sides_from l.nodes l.place l.nodes) l.hash (drop l.used_hashes l.path) ≡ climb_by (sides_from l.leaf_count l.leaf_index l.leaf_count) l.leaf l.path)

abbrev pub decreases-loop-nodes : goal.decreases-loop-nodes
decreases-loop-nodes l = l.nodes
