-- How the calls of a scheduler change the schedule.
use Rattle.std.specs.Prelude.{ℕ, ◌+◌, ◌-◌, Bool, true, false, Option, Some, None, length, nat_lt, ◌||◌}
use Rattle.desk_scheduler.specs.declared.scheduler.Next.{Next}
use Rattle.desk_scheduler.specs.declared.wake.Wake.{Wake}
use Rattle.desk_scheduler.specs.declared.scheduler.Next.TheVariants.{Desk, Nothing, Ended}
use Rattle.desk_scheduler.specs.declared.side.Place.{Place}
use Rattle.desk_scheduler.specs.declared.side.Place.TheVariants.{Idle, Listed, InHand, InHandAgain}
use Rattle.desk_scheduler.specs.Desks.{Desks, place_of, moved, listing, is_listed, taken}
use Rattle.desk_scheduler.specs.Schedule.{Schedule}

-- the schedule after this change to desk d; the first flag says that d is a resident's desk, the second that d is a
-- programme's desk
abbrev pub at_side : (Desks → ℕ → Desks) → Schedule → ℕ → Bool → Bool → Schedule
at_side change s d true b = record { residents = change s.residents d; programmes = s.programmes; waiting = s.waiting; ended = s.ended }
at_side change s d false true = record { residents = s.residents; programmes = change s.programmes (d - length s.residents.places); waiting = s.waiting; ended = s.ended }
at_side change s d false false = s

-- the schedule after this change to desk d; residents' desks come first, and a number past the programmes' changes
-- nothing
abbrev pub at_desk : (Desks → ℕ → Desks) → Schedule → ℕ → Schedule
at_desk change s d = at_side change s d (nat_lt d (length s.residents.places)) (nat_lt (d - length s.residents.places) (length s.programmes.places))

-- the schedule after the desk with this number is woken
abbrev pub woken_by : Schedule → ℕ × Wake → Schedule
woken_by s (d, wake) = at_desk (λ desks n. listing desks n wake) s d

-- What a worker gets, and the schedule after it: no desk when the run ends, else a listed desk of a resident, else
-- one of a programme, else none.
abbrev pub next_from : Schedule → Bool → Option (ℕ × Desks) → Option (ℕ × Desks) → Next × Schedule
next_from s true rs ps = (Ended, s)
next_from s false (Some (r, rs)) ps = (Desk r, record { residents = rs; programmes = s.programmes; waiting = s.waiting; ended = s.ended })
next_from s false None (Some (p, ps)) = (Desk (length s.residents.places + p), record { residents = s.residents; programmes = ps; waiting = s.waiting; ended = s.ended })
next_from s false None None = (Nothing, s)

abbrev pub next_of : Schedule → Next × Schedule
next_of s = next_from s s.ended (taken s.residents) (taken s.programmes)

-- the state of desk d; the first flag says that d is a resident's desk, the second that d is a programme's desk; a
-- number past the last desk counts as held
abbrev pub place_of_side : Schedule → ℕ → Bool → Bool → Place
place_of_side s d true b = place_of s.residents d
place_of_side s d false true = place_of s.programmes (d - length s.residents.places)
place_of_side s d false false = InHand

abbrev pub place_at : Schedule → ℕ → Place
place_at s d = place_of_side s d (nat_lt d (length s.residents.places)) (nat_lt (d - length s.residents.places) (length s.programmes.places))

-- the desks after a worker gets this desk
abbrev pub in_hand : Desks → ℕ → Desks
in_hand desks d = moved desks d InHand

-- whether any desk is listed
abbrev pub any_ready : Schedule → Bool
any_ready s = is_listed s.residents || is_listed s.programmes

-- What a worker gets that asks for desk d, which has this state: when the run ends, none; if the desk is idle, this
-- desk; else the next listed desk.
abbrev pub claimed_from : Schedule → ℕ → Bool → Place → Next × Schedule
claimed_from s d true place = (Ended, s)
claimed_from s d false Idle = (Desk d, at_desk in_hand s d)
claimed_from s d false Listed = next_of s
claimed_from s d false InHand = next_of s
claimed_from s d false InHandAgain = next_of s

abbrev pub claim_or_next_of : Schedule → ℕ → Next × Schedule
claim_or_next_of s d = claimed_from s d s.ended (place_at s d)

-- the schedule with this many workers waiting
abbrev pub waiting_now : Schedule → ℕ → Schedule
waiting_now s n = record { residents = s.residents; programmes = s.programmes; waiting = n; ended = s.ended }

-- the schedule once the run ends
abbrev pub ended_now : Schedule → Schedule
ended_now s = record { residents = s.residents; programmes = s.programmes; waiting = s.waiting; ended = true }

-- a desk with this state is held by a worker
abbrev pub IsInHandAt : Place → Type 0
IsInHandAt Idle = ⊥
IsInHandAt Listed = ⊥
IsInHandAt InHand = Unit {0}
IsInHandAt InHandAgain = Unit {0}

-- a worker holds desk d, or d is past the last desk
abbrev pub IsInHand : Schedule → ℕ → Type 0
IsInHand s d = IsInHandAt (place_at s d)
