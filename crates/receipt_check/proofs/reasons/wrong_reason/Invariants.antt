use Rattle.std.proofs.Common.{◌≡◌, None}
use Rattle.receipt_check.specs.Faults.{first_in, reason_at}
use Rattle.receipt_check.specs.Shown.{content}
use Rattle.receipt_check.proofs.reasons.wrong_reason.Given as goal

abbrev pub invariant-loop-k : goal.invariant-loop-k
invariant-loop-k l = first_in (reason_at (content l.contents) l.own_choice) l.k ≡ None
