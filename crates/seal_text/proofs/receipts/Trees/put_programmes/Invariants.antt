use Rattle.std.specs.List.{flat_map, range_with_len}
use Rattle.records.specs.Lines.{Grows}
use Rattle.seal_text.specs.Grown.{lists_in, results_in}
use Rattle.seal_text.specs.Sealed.{programme_receipt}
use Rattle.seal_text.proofs.receipts.Trees.put_programmes.Given as goal

abbrev pub invariant-loop-p : goal.invariant-loop-p
invariant-loop-p l = Grows l.fn.rows_text l.rows_text (flat_map (programme_receipt l.secret l.docket (lists_in l.self) (results_in l.self)) (range_with_len 0 l.p))
