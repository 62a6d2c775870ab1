use Rattle.std.proofs.Common.{◌≡◌}
use Rattle.library_tests.proofs.mailbox.take_all.Given as goal

abbrev pub invariant-loop : goal.invariant-loop
invariant-loop g l = l.take.mailbox ≡ l.initial.take.mailbox
