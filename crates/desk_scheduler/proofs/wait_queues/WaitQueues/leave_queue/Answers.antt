use Rattle.std.proofs.Common.{◌≡◌, None, sym, ◌∙◌, subst, rules}
use Rattle.desk_scheduler.specs.Waits.{Waits, AreQueues, linked_at}
use Rattle.desk_scheduler.proofs.QueueRows.{none_some, not_in}
use Rattle.desk_scheduler.proofs.wait_queues.WaitQueues.leave_queue.Goals as goal

pub returns-in_default-clause-queues : goal.returns-in_default-clause-queues
returns-in_default-clause-queues c =
    let none : linked_at c.args.self.now.mailbox c.args.desk ≡ None = search rules in
    let are : AreQueues c.args.self.now c.self.inside.waiting_count = subst (λ (w : Waits). AreQueues w c.self.inside.waiting_count) c.self.view_is c.self.invariant in
    λ m. sym (not_in c.args.self.now c.self.inside.waiting_count are c.args.desk m (λ at. none_some m (sym none ∙ at)))
