use Rattle.std.proofs.Common.{◌≡◌, ℕ, ◌∷◌, List, Some, sym, ap, ◌∙◌, subst, rules}
use Rattle.desk_scheduler.specs.Waits.{Waits, AreQueues, linked_at, queue_of}
use Rattle.desk_scheduler.proofs.QueueRows.{not_in, some_same}
use Rattle.desk_scheduler.proofs.Queues.{called_first}
use Rattle.desk_scheduler.proofs.wait_queues.WaitQueues.call_waiting.Goals as goal

pub returns-clause-queue : goal.returns-clause-queue
returns-clause-queue c =
    let are : AreQueues c.args.self.now c.self.inside.waiting_count = subst (λ (w : Waits). AreQueues w c.self.inside.waiting_count) c.self.view_is c.self.invariant in
    let first : linked_at c.args.self.now.first c.args.mailbox ≡ Some c.in-Some.desk = search rules in
    let called = called_first c.args.self.now c.self.inside.waiting_count c.args.mailbox c.in-Some.desk are first in
    called.0 ∙ ap (λ (ds : List ℕ). c.in-Some.desk ∷ ds) (sym (c.leave.ensures.queues c.args.mailbox) ∙ sym (ap (λ (w : Waits). queue_of w c.args.mailbox) c.mark_called.ensures))

pub returns-clause-elsewhere : goal.returns-clause-elsewhere
returns-clause-elsewhere c =
    let are : AreQueues c.args.self.now c.self.inside.waiting_count = subst (λ (w : Waits). AreQueues w c.self.inside.waiting_count) c.self.view_is c.self.invariant in
    let first : linked_at c.args.self.now.first c.args.mailbox ≡ Some c.in-Some.desk = search rules in
    let called = called_first c.args.self.now c.self.inside.waiting_count c.args.mailbox c.in-Some.desk are first in
    λ m apart. ap (λ (w : Waits). queue_of w m) c.mark_called.ensures
    ∙ (c.leave.ensures.queues m ∙ not_in c.args.self.now c.self.inside.waiting_count are c.in-Some.desk m (λ at. apart (some_same m c.args.mailbox (sym at ∙ called.1))))
