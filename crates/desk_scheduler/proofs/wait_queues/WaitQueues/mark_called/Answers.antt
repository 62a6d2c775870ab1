use Rattle.desk_scheduler.proofs.Queues.{marked}
use Rattle.desk_scheduler.proofs.wait_queues.WaitQueues.mark_called.Goals as goal

pub invariant_of-self : goal.invariant_of-self
invariant_of-self c = marked _ c.self.inside.waiting_count _ c.self.invariant
