use Rattle.std.proofs.Common.{◌≡◌, map, take}
use Rattle.receipt_check.specs.Rows.{text_at}
use Rattle.receipt_check.specs.Shown.{fields_in, rows_in}
use Rattle.receipt_check.proofs.faults.members_in.Given as goal

abbrev pub invariant-loop-k : goal.invariant-loop-k
invariant-loop-k l = fields_in l.member_names.items ≡ map (λ row. text_at row 1) (take l.k (rows_in l.contents.detail_rows.now))
