use Rattle.match_pool.specs.Done.{Each}
use Rattle.match_pool.specs.Rooms.{offer_room_of, IsNew}
use Rattle.match_pool.proofs.open.RunStart.residents.Given as goal

-- each sending end made so far has put no message, and has the room that it should have
abbrev pub invariant-loop-r : goal.invariant-loop-r
invariant-loop-r g l = Each l.offer_puts.items l.r (IsNew g.M.OfferPut.PutEnd.puts g.M.Mailboxes.offer_room (offer_room_of g.J.ExchangeIdentity.inst g.J.ExchangeIdentity.cap))
