use Rattle.std.proofs.Common.{◌≡◌, map, take}
use Rattle.receipt_check.specs.Held.{bytes_in, rows_of}
use Rattle.receipt_check.specs.Rows.{split_rows}
use Rattle.receipt_check.proofs.pairs.rows_in.Given as goal

abbrev pub invariant-loop-k : goal.invariant-loop-k
invariant-loop-k l = rows_of l.rows.items ≡ map split_rows (take l.k (bytes_in l.receipt_texts))
