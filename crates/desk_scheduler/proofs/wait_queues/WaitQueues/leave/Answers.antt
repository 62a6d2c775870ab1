use Rattle.std.proofs.Common.{sym, ap, ◌∙◌, subst, arith}
use Rattle.desk_scheduler.specs.Waits.{Waits, AreQueues, without}
use Rattle.desk_scheduler.proofs.QueueRows.{nobody}
use Rattle.desk_scheduler.proofs.wait_queues.WaitQueues.leave.Goals as goal

pub returns-else-self-gt0-clause-queues : goal.returns-else-self-gt0-clause-queues
returns-else-self-gt0-clause-queues c =
    let are : AreQueues c.args.self.now c.self.inside.waiting_count = subst (λ (w : Waits). AreQueues w c.self.inside.waiting_count) c.self.view_is c.self.invariant in
    λ m. let none = nobody c.args.self.now c.self.inside.waiting_count are (omega (arith, c.if-self-gt0.false)) m in none ∙ ap (without c.args.desk) (sym none)
