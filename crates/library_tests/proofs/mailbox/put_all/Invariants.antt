use Rattle.std.proofs.Common.{◌≡◌}
use Rattle.library_tests.proofs.mailbox.put_all.Given as goal

abbrev pub invariant-loop : goal.invariant-loop
invariant-loop g l = l.put.mailbox ≡ l.initial.put.mailbox
