use Rattle.std.proofs.Common.{◌≡◌, ℕ, ◌∷◌, ◌++◌, [], List, Some, sym, ap, ◌∙◌, subst, arith, rules}
use Rattle.desk_scheduler.specs.Waits.{Waits, AreQueues, linked_at}
use Rattle.desk_scheduler.proofs.QueueRows.{not_in, some_same}
use Rattle.desk_scheduler.proofs.wait_queues.WaitQueues.join.Goals as goal

pub returns-then-waits_for-clause-elsewhere : goal.returns-then-waits_for-clause-elsewhere
returns-then-waits_for-clause-elsewhere c =
    let are : AreQueues c.args.self.now c.self.inside.waiting_count = subst (λ (w : Waits). AreQueues w c.self.inside.waiting_count) c.self.view_is c.self.invariant in
    let here : linked_at c.args.self.now.mailbox c.args.desk ≡ Some c.args.mailbox = search rules in
    λ m l apart. sym (not_in c.args.self.now c.self.inside.waiting_count are c.args.desk m (λ at. apart (some_same m c.args.mailbox (sym at ∙ here))))

pub returns-clause-behind_all : goal.returns-clause-behind_all
returns-clause-behind_all c =
    let are : AreQueues c.args.self.now c.self.inside.waiting_count = subst (λ (w : Waits). AreQueues w c.self.inside.waiting_count) c.self.view_is c.self.invariant in
    λ l waits_not within.
    c.join_behind.ensures.behind_all (omega (arith, within, c.leave.ensures.desks.1))
    ∙ ap (λ (ds : List ℕ). ds ++ c.args.desk ∷ []) (c.leave.ensures.queues c.args.mailbox ∙ not_in c.args.self.now c.self.inside.waiting_count are c.args.desk c.args.mailbox waits_not)
