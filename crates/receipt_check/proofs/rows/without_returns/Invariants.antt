use Rattle.std.proofs.Common.{◌≡◌, ◌++◌, drop}
use Rattle.receipt_check.specs.Rows.{without_returns}
use Rattle.receipt_check.proofs.rows.without_returns.Given as goal

abbrev pub invariant-loop-i : goal.invariant-loop-i
invariant-loop-i l = l.text.items ++ without_returns (drop l.i l.bytes) ≡ without_returns l.bytes
