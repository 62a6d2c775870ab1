use Rattle.std.proofs.Common.{arith}
use Rattle.std.proofs.lemmas.Iterator.Adapters.{YieldsList-from_vec}
use Rattle.std.proofs.lemmas.Iterator.Consumers.{YieldsList-turn}
use Rattle.match_pool.proofs.drive.start_all.Goals as goal

pub push_reserved-requires : goal.push_reserved-requires
push_reserved-requires g c =
    let all = YieldsList-from_vec c.args.tallies.items (cc) (cc) in
    let turn = YieldsList-turn all c.loop-tally.yielded c.loop-tally.tally-iterator c.loop-tally.yielded_by c.next.result c.next.new.self c.in-Some.tally c.in-Some.is c.next.ensures.steps in
    omega (arith, turn.0, c.loop-tally.invariant.0, c.loop-tally.invariant.1)
