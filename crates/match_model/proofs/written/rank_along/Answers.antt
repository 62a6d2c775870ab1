use Rattle.std.proofs.Common.{arith}
use Rattle.match_model.proofs.Rankings.{rank_found, rank_none}
use Rattle.match_model.proofs.written.rank_along.Goals as goal

pub returns-then-list-i : goal.returns-then-list-i
returns-then-list-i c = rank_found c.args.list.now c.args.number c.loop-i.i (omega arith) c.if-list-i.true c.loop-i.invariant

pub returns : goal.returns
returns c = rank_none c.args.list.now c.args.number (λ k l. c.loop-i.invariant k (omega arith))
