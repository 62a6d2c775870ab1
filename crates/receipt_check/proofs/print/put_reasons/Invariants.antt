use Rattle.std.specs.List.{flat_map, range_with_len}
use Rattle.receipt_check.specs.Rows.{Grows, line}
use Rattle.receipt_check.specs.Receipt.{reason_row}
use Rattle.receipt_check.specs.Shown.{content}
use Rattle.receipt_check.proofs.print.put_reasons.Given as goal

abbrev pub invariant-loop-k : goal.invariant-loop-k
invariant-loop-k l = Grows l.fn.rows_text l.rows_text (flat_map (λ k. line (reason_row (content l.contents) k)) (range_with_len 0 l.k))
