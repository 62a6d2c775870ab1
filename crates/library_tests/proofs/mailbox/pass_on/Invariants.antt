use Rattle.std.proofs.Common.{◌≡◌}
use Rattle.library_tests.proofs.mailbox.pass_on.Given as goal

abbrev pub invariant-loop : goal.invariant-loop
invariant-loop g l = (l.take.mailbox ≡ l.initial.take.mailbox) × (l.put.mailbox ≡ l.initial.put.mailbox)
