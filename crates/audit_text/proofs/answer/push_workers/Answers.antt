use Rattle.audit_text.proofs.CountRows.{workers_none, workers_next}
use Rattle.audit_text.proofs.answer.push_workers.Goals as goal

pub loop-worker-init : goal.loop-worker-init
loop-worker-init g c = workers_none g.W.Write.contents c.args.rows.now

pub loop-worker-preserved : goal.loop-worker-preserved
loop-worker-preserved g c =
    workers_next g.W.Write.contents c.args.event_counts.now c.args.rows.now c.loop-worker.rows c.push_worker.new.rows c.loop-worker.worker c.loop-worker-test.true c.loop-worker.invariant c.in_ok-push_worker.ensures
