use Rattle.std.proofs.Common.{take}
use Rattle.receipt_check.specs.Rows.{Grows, more_fields}
use Rattle.receipt_check.specs.Shown.{fields_in}
use Rattle.receipt_check.proofs.print.put_more_fields.Given as goal

abbrev pub invariant-loop-k : goal.invariant-loop-k
invariant-loop-k l = Grows l.fn.rows_text l.rows_text (more_fields (take l.k (fields_in l.fields)))
