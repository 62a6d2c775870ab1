use Rattle.std.proofs.Common.{◌≡◌, ◌*◌, ◌++◌, length, take, drop}
use Rattle.seal.specs.Tree.{pair_up}
use Rattle.seal.proofs.levels.pair_level.Given as goal

-- the pairs made so far, followed by the pairs of the remaining nodes, are the level above
abbrev pub invariant-loop-k : goal.invariant-loop-k
invariant-loop-k l =
    (length l.level.items ≡ l.hash_count)
    × (take l.k l.level.items ++ pair_up (drop (2 * l.k) l.level.items) ≡ pair_up l.fn.level.items)
