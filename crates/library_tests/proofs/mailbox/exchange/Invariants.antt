use Rattle.std.proofs.Common.{◌≡◌}
use Rattle.library_tests.proofs.mailbox.exchange.Given as goal

abbrev pub invariant-loop : goal.invariant-loop
invariant-loop g l = (l.put.mailbox ≡ l.initial.put.mailbox) × (l.take.mailbox ≡ l.initial.take.mailbox)
