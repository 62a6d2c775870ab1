use Rattle.std.proofs.Common.{◌<◌, take, get_or, arith}
use Rattle.std.proofs.lemmas.List.{take_all, take_more}
use Rattle.std.proofs.lemmas.List.Elements.{All-push}
use Rattle.library_tests.proofs.audit.counts_are.Goals as goal

pub loop-worker-preserved : goal.loop-worker-preserved
loop-worker-preserved c =
    rw (take_more c.args.event_workers.now c.loop-worker.worker-index 0 (omega arith))
    (All-push (λ w. w < c.in-Ok.workers) (take c.loop-worker.worker-index c.args.event_workers.now) (get_or c.args.event_workers.now c.loop-worker.worker-index 0) c.loop-worker.invariant (omega arith))

pub counts-requires : goal.counts-requires
counts-requires c = let all = take_all c.loop-worker.worker-index c.args.event_workers.now (omega arith) in rw all at c.loop-worker.invariant
