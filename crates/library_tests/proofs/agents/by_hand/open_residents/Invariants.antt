use Rattle.std.proofs.Common.{◌≡◌, []}
use Rattle.std.specs.List.{All}
use Rattle.library_tests.proofs.agents.by_hand.open_residents.Given as goal

-- no sending end made so far has put a message
abbrev pub invariant-loop-resident : goal.invariant-loop-resident
invariant-loop-resident g l = All (λ end. end.puts ≡ []) l.puts.items
