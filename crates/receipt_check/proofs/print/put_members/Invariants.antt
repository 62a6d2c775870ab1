use Rattle.std.proofs.Common.{take}
use Rattle.std.specs.List.{flat_map}
use Rattle.receipt_check.specs.Rows.{Grows, text_at, line}
use Rattle.receipt_check.specs.Receipt.{member_row}
use Rattle.receipt_check.specs.Shown.{rows_in}
use Rattle.receipt_check.proofs.print.put_members.Given as goal

abbrev pub invariant-loop-k : goal.invariant-loop-k
invariant-loop-k l = Grows l.fn.rows_text l.rows_text (flat_map (λ row. line (member_row l.contents.name.now (text_at row 1))) (take l.k (rows_in l.contents.detail_rows.now)))
