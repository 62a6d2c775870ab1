use Rattle.std.proofs.Common.{ℕ, List, [], ◌+◌, take, set, get_or}
use Rattle.match_model.specs.Owners.{AreStepped}
use Rattle.match_model.proofs.owners.enter.Given as goal

abbrev pub invariant-loop-item : goal.invariant-loop-item
invariant-loop-item l = record {
  entered : AreStepped [] (λ (x : ℕ) (row : List ℕ). set row (get_or l.fn.counts x 0) l.owner) (take l.item-index l.items) l.fn.rows.rows l.rows.rows;
  counted : AreStepped 0 (λ (x n : ℕ). n + 1) (take l.item-index l.items) l.fn.counts l.counts;
}
