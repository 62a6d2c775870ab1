use Rattle.std.proofs.Common.{◌≡◌, ◌≢◌, ℕ, ◌+◌, ◌<◌, ◌∷◌, ◌++◌, [], None, length, refl, sym, subst, arith, rules}
use Rattle.desk_scheduler.specs.Waits.{Waits, AreQueues, joined_rows, linked_at, queue_of}
use Rattle.desk_scheduler.proofs.Queues.{joined_queues, joined_last, joined_others}
use Rattle.desk_scheduler.proofs.Waiting.{fewer_wait}
use Rattle.desk_scheduler.proofs.wait_queues.WaitQueues.join_behind.Goals as goal

-- the call's conditions, for the rows that the definitions see
required : (now view : Waits) (d : ℕ) → view ≡ now → (d < length now.mailbox) → linked_at now.mailbox d ≡ None
    → (d < length view.mailbox) × (linked_at view.mailbox d ≡ None)
required now view d is within waits_not =
    subst (λ (w : Waits). (d < length w.mailbox) × (linked_at w.mailbox d ≡ None)) (sym is) (within, waits_not)

pub overflow_add-self : goal.overflow_add-self
overflow_add-self c =
    let s = c.self.inside in
    let need = required _ _ c.args.desk c.self.view_is c.requires.within c.requires.waits_not in
    omega (arith, fewer_wait s.awaited_mailboxes.items c.args.desk need.0 need.1, s.awaited_mailboxes.ok.0, s.awaited_mailboxes.small, c.self.invariant.counted)

pub invariant_of-self : goal.invariant_of-self
invariant_of-self c =
    let s = c.self.inside in
    let w : Waits = record { first = s.first_desks.items; last = s.last_desks.items; mailbox = s.awaited_mailboxes.items; before = s.desks_before.items; behind = s.desks_behind.items; called = s.called_desks.items } in
    let need = required c.args.self.now w c.args.desk c.self.view_is c.requires.within c.requires.waits_not in
    let rows : record { first = c.relink.new.queue_ends.items; last = c.link.new.links.items; mailbox = c.link-4.new.links.items; before = c.link-2.new.links.items; behind = c.link-3.new.links.items; called = s.called_desks.items } ≡ joined_rows w c.args.mailbox c.args.desk = search rules in
    subst (λ (v : Waits). AreQueues v (s.waiting_count + 1)) (sym rows) (joined_queues w s.waiting_count c.args.mailbox c.args.desk c.self.invariant need.0 need.1 (s.waiting_count + 1) refl)

pub returns-clause-behind_all : goal.returns-clause-behind_all
returns-clause-behind_all c =
    let s = c.self.inside in
    let w : Waits = record { first = s.first_desks.items; last = s.last_desks.items; mailbox = s.awaited_mailboxes.items; before = s.desks_before.items; behind = s.desks_behind.items; called = s.called_desks.items } in
    let need = required c.args.self.now w c.args.desk c.self.view_is c.requires.within c.requires.waits_not in
    let new : Waits = record { first = c.relink.new.queue_ends.items; last = c.link.new.links.items; mailbox = c.link-4.new.links.items; before = c.link-2.new.links.items; behind = c.link-3.new.links.items; called = s.called_desks.items } in
    let rows : new ≡ joined_rows w c.args.mailbox c.args.desk = search rules in
    subst (λ (u : Waits). c.args.mailbox < length u.last → queue_of new c.args.mailbox ≡ queue_of u c.args.mailbox ++ c.args.desk ∷ []) c.self.view_is
    (subst (λ (v : Waits). c.args.mailbox < length w.last → queue_of v c.args.mailbox ≡ queue_of w c.args.mailbox ++ c.args.desk ∷ []) (sym rows)
    (λ l. joined_last w s.waiting_count c.args.mailbox c.args.desk c.self.invariant need.0 need.1 (omega (arith, l, c.self.invariant.rows.last))))

pub returns-clause-elsewhere : goal.returns-clause-elsewhere
returns-clause-elsewhere c =
    let s = c.self.inside in
    let w : Waits = record { first = s.first_desks.items; last = s.last_desks.items; mailbox = s.awaited_mailboxes.items; before = s.desks_before.items; behind = s.desks_behind.items; called = s.called_desks.items } in
    let need = required c.args.self.now w c.args.desk c.self.view_is c.requires.within c.requires.waits_not in
    let new : Waits = record { first = c.relink.new.queue_ends.items; last = c.link.new.links.items; mailbox = c.link-4.new.links.items; before = c.link-2.new.links.items; behind = c.link-3.new.links.items; called = s.called_desks.items } in
    let rows : new ≡ joined_rows w c.args.mailbox c.args.desk = search rules in
    subst (λ (u : Waits). (m : ℕ) → m ≢ c.args.mailbox → queue_of new m ≡ queue_of u m) c.self.view_is
    (subst (λ (v : Waits). (m : ℕ) → m ≢ c.args.mailbox → queue_of v m ≡ queue_of w m) (sym rows)
    (joined_others w s.waiting_count c.args.mailbox c.args.desk c.self.invariant need.0 need.1))
