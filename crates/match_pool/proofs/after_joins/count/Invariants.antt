use Rattle.match_pool.proofs.WorkerCounts.{AreSoFar}
use Rattle.match_pool.proofs.after_joins.count.Given as goal

-- the counts are those of the events walked over so far
abbrev pub invariant-loop-worker : goal.invariant-loop-worker
invariant-loop-worker g l = AreSoFar g.J.ExchangeIdentity.workers l.who l.entered.items l.worker-index
