-- What the ledger's lock protects.
use Rattle.std.specs.Option.{ForSome}
use Rattle.std.specs.Prelude.{◌≡◌, ℕ, ◌+◌, Bool, true, Option, Some, None, length, min}
use Rattle.match_model.specs.Instance.{Instance}
use Rattle.desk_scheduler.specs.Waits.{Waits, linked_at}
use Rattle.exchange_core.specs.declared.event.Event.{Event}
use Rattle.exchange_core.specs.declared.event.Event.TheVariants.{Offer, Take, Answer, Hear, Close}
use Rattle.exchange_core.specs.declared.event.Capacity.{Capacity}
use Rattle.exchange_core.specs.declared.event.Refused.TheVariants.{MailboxFull}
use Rattle.exchange_core.specs.Legal.{MayFollow}
use Rattle.offer_ledger.specs.Ledger.{Entries}
use Rattle.offer_ledger.specs.declared.fault.EntryRefused.{EntryRefused}
use Rattle.offer_ledger.specs.declared.fault.EntryRefused.TheVariants.{Spoiled, Step, PutRefused}
use Rattle.offer_ledger.specs.declared.fault.PutRefusal.TheVariants.{Full, Gone}
use Rattle.match_pool.specs.Done.{IsReceipt}
use Rattle.match_pool.specs.declared.exchange.Entry.{Entry}
use Rattle.match_pool.specs.declared.exchange.Entry.TheVariants as entry
use Rattle.match_pool.specs.declared.exchange.Found.{Found}
use Rattle.match_pool.specs.declared.exchange.Found.TheVariants as found

-- the ledger, the receipt that the ledger's core refused (if there was one), and the queues of desks that wait
-- for room
pub record Exchanged (P Q : Type 0) : Type 0 where
  pub ledger : Entries P Q
  pub out_of_step : Option Event
  pub waits : Waits

-- if the event was entered, `told` holds for the two parts of the reply: whether the desk's mailbox has more
-- messages, and which desk was woken
abbrev pub IfMade : Entry → (Bool → Option ℕ → Type 0) → Type 0
IfMade (entry.Made more woken) told = told more woken
IfMade other told = Unit {0}

-- if a desk was found for a worker that asked for something to do, this property holds of the desk
abbrev pub IfDesk : {C : Type 0} → Found C → (ℕ → Type 0) → Type 0
IfDesk (found.Desk desk) property = property desk
IfDesk other property = Unit {0}

-- the reply to a put that was refused for this cause
abbrev pub refused_put : EntryRefused → Entry
refused_put Spoiled = entry.Ended
refused_put (Step MailboxFull) = entry.Later
refused_put (Step cause) = entry.Refused
refused_put (PutRefused Full) = entry.Missed
refused_put (PutRefused Gone) = entry.Gone

-- The reply to a receipt that was refused for this cause. A receipt puts no message, so no mailbox refuses a receipt.
abbrev pub refused_receipt : EntryRefused → Entry
refused_receipt Spoiled = entry.Ended
refused_receipt (Step cause) = entry.Refused
refused_receipt (PutRefused cause) = entry.Refused

-- the number of a programme's desk, up to the greatest number of 32 bits; all residents' desks have smaller
-- numbers
abbrev pub number_of_programme : Instance → ℕ → ℕ
number_of_programme inst p = min (length inst.resident_lists + p) 4294967295

-- the number of the desk that makes the event; none for a close
abbrev pub number_of_desk : Instance → Event → Option ℕ
number_of_desk inst (Offer p r) = Some (number_of_programme inst p)
number_of_desk inst (Take r p) = Some r
number_of_desk inst (Answer r p k) = Some r
number_of_desk inst (Hear p r k) = Some (number_of_programme inst p)
number_of_desk inst Close = None

-- an event of this desk may follow
pub record HasEvent {P Q : Type 0} (inst : Instance) (cap : Capacity) (ledger : Entries P Q) (desk : ℕ) : Type 0 where
  pub event : Event
  pub may_follow : MayFollow inst cap ledger.journal event
  pub of_desk : number_of_desk inst event ≡ Some desk

module _ {P Q : Type 0} where
  -- the ledger accepts no more events, and the receipt may not follow the ledger's journal
  pub record IsOutOfStep (inst : Instance) (cap : Capacity) (ledger : Entries P Q) (receipt : Event) : Type 0 where
    pub spoiled : ledger.spoiled ≡ true
    pub is_receipt : IsReceipt receipt
    pub may_not_follow : MayFollow inst cap ledger.journal receipt → ⊥

  -- if there is a receipt that was refused, it is out of step
  abbrev pub IsRefusedForGood : Instance → Capacity → Entries P Q → Option Event → Type 0
  IsRefusedForGood inst cap ledger out_of_step = ForSome out_of_step (λ receipt. IsOutOfStep inst cap ledger receipt)
