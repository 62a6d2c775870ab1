-- Whether a run ends, and which fault is reported after trouble.
use Rattle.std.specs.Prelude.{Bool, true, ◌||◌, Option, Some, None}
use Rattle.exchange_core.specs.declared.event.Desk.{Desk}
use Rattle.exchange_core.specs.declared.event.Desk.TheVariants as desk
use Rattle.exchange_core.specs.declared.event.Pending.{Pending}
use Rattle.exchange_core.specs.declared.event.Pending.TheVariants.{Offers, Due, Answers, Wish}
use Rattle.match_pool.specs.declared.fault.RunFault.{RunFault}
use Rattle.match_pool.specs.declared.fault.RunFault.TheVariants as fault
use Rattle.match_pool.specs.declared.fault.Trouble.{Trouble}
use Rattle.match_pool.specs.declared.fault.Trouble.TheVariants.{Torn, MailGone, Thread, OutOfStep}

-- whether the run ends: the close is entered, the gate stopped the run, or a fault is noted
abbrev pub is_told : {X : Type 0} → Bool → Bool → Option X → Bool
is_told closed stopped (Some trouble) = true
is_told closed stopped None = closed || stopped

-- The fault that is reported for what ended a run early. For a receipt out of step it is none, since that report
-- also needs the journal.
abbrev pub fault_of : Option Trouble → Option RunFault
fault_of (Some (Torn desk)) = Some (fault.Torn desk)
fault_of (Some (MailGone desk)) = Some (fault.MailGone desk)
fault_of (Some Thread) = Some fault.Thread
fault_of (Some OutOfStep) = None
fault_of None = None

-- the desk at which something is pending
abbrev pub desk_of : Pending → Desk
desk_of (Offers resident) = desk.Resident resident
desk_of (Due resident) = desk.Resident resident
desk_of (Answers programme) = desk.Programme programme
desk_of (Wish programme) = desk.Programme programme
