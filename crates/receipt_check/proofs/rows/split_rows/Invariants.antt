use Rattle.std.proofs.Common.{◌≡◌, map, take}
use Rattle.receipt_check.specs.Rows.{pieces}
use Rattle.receipt_check.specs.Shown.{fields_in, rows_in}
use Rattle.receipt_check.proofs.rows.split_rows.Given as goal

abbrev pub invariant-loop-k : goal.invariant-loop-k
invariant-loop-k l = rows_in l.rows.items ≡ map (pieces 44) (take l.k (fields_in l.lines.items))
