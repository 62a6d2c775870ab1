use Rattle.std.proofs.Common.{◌≡◌, []}
use Rattle.std.specs.List.{All}
use Rattle.library_tests.proofs.agents.by_hand.open_programmes.Given as goal

-- no sending end made so far has put a message
abbrev pub invariant-loop-programme : goal.invariant-loop-programme
invariant-loop-programme g l = All (λ end. end.puts ≡ []) l.puts.items
