use Rattle.std.proofs.Common.{◌≡◌, ℕ, ◌-◌, ◌≤◌, Some, sym, subst, arith, rules}
use Rattle.desk_scheduler.specs.Waits.{Waits, AreQueues, left_rows, linked_at, queue_of, without}
use Rattle.desk_scheduler.proofs.Queues.{left_queues, left_without, some_waits}
use Rattle.desk_scheduler.proofs.wait_queues.WaitQueues.unlink.Goals as goal

-- the call's condition, for the rows that the definitions see
required : (now view : Waits) (d m : ℕ) → view ≡ now → linked_at now.mailbox d ≡ Some m → linked_at view.mailbox d ≡ Some m
required now view d m is waits = subst (λ (w : Waits). linked_at w.mailbox d ≡ Some m) (sym is) waits

pub overflow_sub-self : goal.overflow_sub-self
overflow_sub-self c =
    let s = c.self.inside in
    let w : Waits = record { first = s.first_desks.items; last = s.last_desks.items; mailbox = s.awaited_mailboxes.items; before = s.desks_before.items; behind = s.desks_behind.items; called = s.called_desks.items } in
    let waits = required c.args.self.now w c.args.desk c.args.mailbox c.self.view_is c.requires.waits in
    omega (arith, some_waits w s.waiting_count c.args.mailbox c.args.desk c.self.invariant waits)

pub invariant_of-self : goal.invariant_of-self
invariant_of-self c =
    let s = c.self.inside in
    let w : Waits = record { first = s.first_desks.items; last = s.last_desks.items; mailbox = s.awaited_mailboxes.items; before = s.desks_before.items; behind = s.desks_behind.items; called = s.called_desks.items } in
    let waits = required c.args.self.now w c.args.desk c.args.mailbox c.self.view_is c.requires.waits in
    let new : Waits = record { first = c.relink.new.queue_ends.items; last = c.relink-2.new.queue_ends.items; mailbox = c.link.new.links.items; before = c.relink-2.new.links.items; behind = c.relink.new.links.items; called = s.called_desks.items } in
    let rows : new ≡ left_rows w c.args.mailbox c.args.desk = search rules in
    let some : 1 ≤ s.waiting_count = some_waits w s.waiting_count c.args.mailbox c.args.desk c.self.invariant waits in
    subst (λ (v : Waits). AreQueues v (s.waiting_count - 1)) (sym rows) (left_queues w s.waiting_count c.args.mailbox c.args.desk c.self.invariant waits (s.waiting_count - 1) (omega (arith, some)))

pub returns-clause-queues : goal.returns-clause-queues
returns-clause-queues c =
    let s = c.self.inside in
    let w : Waits = record { first = s.first_desks.items; last = s.last_desks.items; mailbox = s.awaited_mailboxes.items; before = s.desks_before.items; behind = s.desks_behind.items; called = s.called_desks.items } in
    let waits = required c.args.self.now w c.args.desk c.args.mailbox c.self.view_is c.requires.waits in
    let new : Waits = record { first = c.relink.new.queue_ends.items; last = c.relink-2.new.queue_ends.items; mailbox = c.link.new.links.items; before = c.relink-2.new.links.items; behind = c.relink.new.links.items; called = s.called_desks.items } in
    let rows : new ≡ left_rows w c.args.mailbox c.args.desk = search rules in
    subst (λ (u : Waits). (m : ℕ) → queue_of new m ≡ without c.args.desk (queue_of u m)) c.self.view_is
    (subst (λ (v : Waits). (m : ℕ) → queue_of v m ≡ without c.args.desk (queue_of w m)) (sym rows)
    (left_without w s.waiting_count c.args.mailbox c.args.desk c.self.invariant waits))
