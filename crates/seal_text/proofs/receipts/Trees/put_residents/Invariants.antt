use Rattle.std.specs.List.{flat_map, range_with_len}
use Rattle.records.specs.Lines.{Grows}
use Rattle.seal_text.specs.Grown.{lists_in, results_in}
use Rattle.seal_text.specs.Sealed.{resident_receipt}
use Rattle.seal_text.proofs.receipts.Trees.put_residents.Given as goal

abbrev pub invariant-loop-r : goal.invariant-loop-r
invariant-loop-r l = Grows l.fn.rows_text l.rows_text (flat_map (resident_receipt l.secret l.docket (lists_in l.self) (results_in l.self)) (range_with_len 0 l.r))
