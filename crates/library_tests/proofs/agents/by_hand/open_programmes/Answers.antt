use Rattle.std.proofs.Common.{◌≡◌, []}
use Rattle.std.proofs.lemmas.List.Elements.{All-push}
use Rattle.library_tests.proofs.agents.by_hand.open_programmes.Goals as goal

pub loop-programme-preserved : goal.loop-programme-preserved
loop-programme-preserved g c = rw c.in-Ok-Ok.ensures.items (All-push (λ end. end.puts ≡ []) c.loop-programme.puts.items c.in_ok-put.put c.loop-programme.invariant c.in_ok-put.ensures)
