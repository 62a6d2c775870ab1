use Rattle.std.proofs.Common.{take}
use Rattle.records.specs.RowText.{Adds}
use Rattle.audit_text.specs.Answer.{worker_rows}
use Rattle.audit_text.proofs.answer.push_workers.Given as goal

abbrev pub invariant-loop-worker : goal.invariant-loop-worker
invariant-loop-worker g l =
    Adds g.W.Write.contents l.fn.rows l.rows (worker_rows 0 (take l.worker l.event_counts))
