use Rattle.match_pool.specs.Done.{Each}
use Rattle.match_pool.specs.Rooms.{answer_room_of, IsNew}
use Rattle.match_pool.proofs.open.RunStart.programmes.Given as goal

-- each sending end made so far has put no message, and has the room that it should have
abbrev pub invariant-loop-p : goal.invariant-loop-p
invariant-loop-p g l = Each l.answer_puts.items l.p (IsNew g.M.AnswerPut.PutEnd.puts g.M.Mailboxes.answer_room (answer_room_of g.J.ExchangeIdentity.inst g.J.ExchangeIdentity.cap))
