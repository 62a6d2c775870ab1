-- What a run gives at its end.
use Rattle.exchange_core.specs.Shown.{is_capacity}
use Rattle.std.specs.List.{All}
use Rattle.std.specs.Prelude.{◌≡◌, ◌⊎◌, ◌<◌, ◌≤◌, ◌==◌, ℕ, sum, count_by, Bool, true, false, ◌↔◌, List, ◌∷◌, [], ◌++◌, length, slice_get, Some, Option}
use Rattle.match_model.specs.Instance.{Instance}
use Rattle.exchange_core.specs.declared.event.Event.{Event}
use Rattle.exchange_core.specs.declared.event.Event.TheVariants.{Take, Hear, Close}
use Rattle.exchange_core.specs.declared.event.Capacity.{Capacity}
use Rattle.exchange_core.specs.Mail.{Answered, offers_to, answers_to, takes, hears}
use Rattle.exchange_core.specs.Legal.{IsLegal, IsClosed, IsAtRest, MayFollow}
use Rattle.exchange_core.specs.Left.{given}
use Rattle.settle_law.specs.Orderly.{IsOrderly}
use Rattle.settle_law.specs.Stable.{IsStable, IsSettled}
use Rattle.match_pool.specs.declared.done.Done.{Done}
use Rattle.match_pool.specs.declared.done.Ending.TheVariants.{Closed, Stopped}
use Rattle.match_pool.specs.declared.fault.RunFault.{RunFault}
use Rattle.match_pool.specs.declared.fault.RunFault.TheVariants.{BadWorkers, BadCapacity, Memory, Thread, OutOfStep, Torn, MailGone}

-- there is one item for each number below the count, and each item has this property
pub record Each {X : Type 0} (xs : List X) (count : ℕ) (property : ℕ → X → Type 0) : Type 0 where
  pub one_each : length xs ≡ count
  pub has : (i : ℕ) (x : X) → slice_get xs i ≡ Some x → property i x

-- before the close everything is at rest, and the close is the last event
pub record ClosesAtRest (inst : Instance) (journal : List Event) : Type 0 where
  pub before : List Event
  pub close_is_last : journal ≡ before ++ Close ∷ []
  pub at_rest : IsAtRest inst before

-- The journal is orderly. Before the close everything is at rest. The assignment is stable and settled.
pub record IsSettledRun (inst : Instance) (journal : List Event) (assignment : List (Option ℕ)) : Type 0 where
  pub orderly : IsOrderly inst journal
  pub closes_at_rest : ClosesAtRest inst journal
  pub stable : IsStable inst assignment
  pub settled : IsSettled inst assignment

-- Each event has the number of the worker who made it, and this number is below the number of workers. Each worker has
-- a count of its events, and the counts add up to the number of all events.
pub record AreCounted (workers : ℕ) (journal : List Event) (who entered : List ℕ) : Type 0 where
  pub one_worker_each : length who ≡ length journal
  pub among_the_workers : All (λ w. w < workers) who
  pub counted : Each entered workers (λ w n. n ≡ count_by (λ v. v == w) who)
  pub all_counted : sum entered ≡ length journal

-- The result of a run with this many workers. `may_stop` says whether the run's gate may stop it. The journal is legal,
-- and closed exactly if the run closed. Each desk's ends have put the journal's messages, and each agent's log has the
-- journal's receipts. The assignment is the one that the journal gives, and is settled if the run closed. Each event
-- has its worker.
pub record IsRunOf {M P T Q U : Type 0} (done : Done M P T Q U) (offers_put : P → List ℕ) (offers_taken : T → List ℕ)
    (answers_put : Q → List Answered) (answers_taken : U → List Answered) (inst : Instance) (cap : Capacity) (workers : ℕ) (may_stop : Bool) : Type 0 where
  pub legal : IsLegal inst cap done.journal.items
  pub closed : (done.ending ≡ Closed) ↔ IsClosed done.journal.items
  pub offers_are_put : Each done.ends.offer_puts.items (length inst.resident_lists) (λ r end. offers_put end ≡ offers_to r done.journal.items)
  pub offers_are_taken : Each done.ends.residents.items (length inst.resident_lists)
      (λ r desk. (desk.resident ≡ r) × (desk.taken ≡ takes r done.journal.items) × (offers_taken desk.end ≡ takes r done.journal.items))
  pub answers_are_put : Each done.ends.answer_puts.items (length inst.quotas) (λ p end. answers_put end ≡ answers_to p done.journal.items)
  pub answers_are_heard : Each done.ends.programmes.items (length inst.quotas)
      (λ p desk. (desk.programme ≡ p) × (desk.heard ≡ hears p done.journal.items) × (answers_taken desk.end ≡ hears p done.journal.items))
  pub stopped : done.ending ≡ Stopped → may_stop ≡ true
  pub assigned : done.assignment ≡ given inst done.journal.items
  pub settled : done.ending ≡ Closed → IsSettledRun inst done.journal.items done.assignment
  pub counts : AreCounted workers done.journal.items done.who.items done.entered.items

-- the event is a receipt: a take of an offer, or a hear of an answer
abbrev pub IsReceipt : Event → Type 0
IsReceipt (Take r p) = Unit {0}
IsReceipt (Hear p r k) = Unit {0}
IsReceipt e = ⊥

-- The fault is not a wrong number of workers or a wrong capacity. `OutOfStep` has a legal journal and a receipt that
-- may not follow it. Of other faults nothing is said.
abbrev pub IsFault : Instance → Capacity → RunFault → Type 0
IsFault inst cap BadWorkers = ⊥
IsFault inst cap BadCapacity = ⊥
IsFault inst cap Memory = Unit {0}
IsFault inst cap Thread = Unit {0}
IsFault inst cap (OutOfStep journal event) = IsLegal inst cap journal.items × IsReceipt event × (MayFollow inst cap journal.items event → ⊥)
IsFault inst cap (Torn desk) = Unit {0}
IsFault inst cap (MailGone desk) = Unit {0}

-- A wrong number of workers, which has to be 1 to 8, comes before a wrong capacity, and both come before any fault of
-- the run.
abbrev pub IsRunFault : Instance → Capacity → ℕ → RunFault → Type 0
IsRunFault inst cap workers BadWorkers = (workers ≡ 0) ⊎ (8 < workers)
IsRunFault inst cap workers BadCapacity = (1 ≤ workers) × (workers ≤ 8) × (is_capacity cap ≡ false)
IsRunFault inst cap workers fault = (1 ≤ workers) × (workers ≤ 8) × (is_capacity cap ≡ true) × IsFault inst cap fault
