use Rattle.std.proofs.Common.{◌≡◌, ℕ, [], Some}
use Rattle.std.specs.Prelude.{slice_get}
use Rattle.mailbox_rule.specs.Lists.{PutList}
use Rattle.library_tests.proofs.ledger.memory_ends.Given as goal

abbrev pub invariant-loop : goal.invariant-loop
invariant-loop g l = (i : ℕ) (end : PutList g.row.M.Denot) → slice_get l.ends.items i ≡ Some end → end.puts ≡ []
