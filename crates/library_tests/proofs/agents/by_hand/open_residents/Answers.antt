use Rattle.std.proofs.Common.{◌≡◌, []}
use Rattle.std.proofs.lemmas.List.Elements.{All-push}
use Rattle.library_tests.proofs.agents.by_hand.open_residents.Goals as goal

pub loop-resident-preserved : goal.loop-resident-preserved
loop-resident-preserved g c = rw c.in-Ok-Ok.ensures.items (All-push (λ end. end.puts ≡ []) c.loop-resident.puts.items c.in_ok-put.put c.loop-resident.invariant c.in_ok-put.ensures)
