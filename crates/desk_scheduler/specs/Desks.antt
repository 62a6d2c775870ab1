-- Which desks a worker holds, and which desks may have work.
use Rattle.std.specs.Prelude.{◌≡◌, ℕ, Bool, true, false, ◌||◌, ◌+◌, List, Option, Some, None, [], ◌∷◌, length, nat_lt, sum_by, slice_index_or, slice_set, cond, ◌==◌, ◌≤◌}
use Rattle.desk_scheduler.specs.declared.side.Place.{Place}
use Rattle.desk_scheduler.specs.declared.wake.Wake.{Wake}
use Rattle.desk_scheduler.specs.declared.wake.Wake.TheVariants.{Work, Hold}
use Rattle.desk_scheduler.specs.declared.side.Place.TheVariants.{Idle, Listed, InHand, InHandAgain}

-- The state of each desk of one side, a `Place`: idle, listed or held. Two lists have the desks that may have work,
-- the next desk first. The second list has desks that were woken only by an answer `hold`, and is used when the first
-- is empty.
pub record Desks : Type 0 where
  pub places : List Place
  pub ready : List ℕ
  pub behind : List ℕ

-- the state of a desk; a number past the last desk counts as idle
abbrev pub place_of : Desks → ℕ → Place
place_of desks d = slice_index_or desks.places d Idle

-- the desks, after this desk got this state
abbrev pub moved : Desks → ℕ → Place → Desks
moved desks d place = record { places = slice_set desks.places d place; ready = desks.ready; behind = desks.behind }

-- the desks after this desk was listed, as the first of the first list
abbrev pub on_top : Desks → ℕ → Desks
on_top desks d = record { places = slice_set desks.places d Listed; ready = d ∷ desks.ready; behind = desks.behind }

-- the desks after this desk was listed, as the first of the second list
abbrev pub on_top_behind : Desks → ℕ → Desks
on_top_behind desks d = record { places = slice_set desks.places d Listed; ready = desks.ready; behind = d ∷ desks.behind }

-- the desks after this desk was listed: in the second list if an answer `hold` woke it, else in the
-- first list
abbrev pub listed_for : Desks → ℕ → Wake → Desks
listed_for desks d Work = on_top desks d
listed_for desks d Hold = on_top_behind desks d

-- The desks after a desk with this state is woken. An idle desk is listed. A held desk is marked, so that it is
-- listed when its worker lets go. A desk that is listed or marked stays so.
abbrev pub listed_from : Desks → ℕ → Wake → Place → Desks
listed_from desks d wake Idle = listed_for desks d wake
listed_from desks d wake InHand = moved desks d InHandAgain
listed_from desks d wake Listed = desks
listed_from desks d wake InHandAgain = desks

-- the desks after this desk is woken
abbrev pub listing : Desks → ℕ → Wake → Desks
listing desks d wake = listed_from desks d wake (place_of desks d)

-- The desks after a worker lets go of a desk with this state. The desk is listed if it may have work again or was
-- marked, else it becomes idle. A desk that no worker holds keeps its state.
abbrev pub let_go_from : Desks → ℕ → Bool → Place → Desks
let_go_from desks d again InHandAgain = on_top desks d
let_go_from desks d true InHand = on_top desks d
let_go_from desks d false InHand = moved desks d Idle
let_go_from desks d again Idle = desks
let_go_from desks d again Listed = desks

-- the desks after a worker lets go of this desk; `again` says whether it may have work again
abbrev pub letting_go : Desks → ℕ → Bool → Desks
letting_go desks d again = let_go_from desks d again (place_of desks d)

-- whether any desk is listed
abbrev pub is_listed : Desks → Bool
is_listed desks = nat_lt 0 (length desks.ready) || nat_lt 0 (length desks.behind)

-- The next desk, and the desks after a worker took it. It comes from the second list only if the first is empty.
-- `taken` uses the desks' own lists.
abbrev pub taken_from : Desks → List ℕ → List ℕ → Option (ℕ × Desks)
taken_from desks (d ∷ ready) behind = Some (d, record { places = slice_set desks.places d InHand; ready = ready; behind = behind })
taken_from desks [] (d ∷ behind) = Some (d, record { places = slice_set desks.places d InHand; ready = []; behind = behind })
taken_from desks [] [] = None

abbrev pub taken : Desks → Option (ℕ × Desks)
taken desks = taken_from desks desks.ready desks.behind

-- how often a desk with this state is listed: once or never
abbrev pub times : Place → ℕ
times Idle = 0
times Listed = 1
times InHand = 0
times InHandAgain = 0

-- 1 for this desk, 0 for any other desk
abbrev pub one_for : ℕ → ℕ → ℕ
one_for d x = cond (x == d) 1 0

-- A desk whose state is `Listed` stands once in the two lists together, and any other desk in neither. The two lists
-- together have as many desks as have this state. Each list has room for all desks.
pub record AreListed (places : List Place) (listed behind : List ℕ) (reserved reserved_behind : ℕ) : Type 0 where
  pub once : (d : ℕ) → sum_by (one_for d) listed + sum_by (one_for d) behind ≡ times (slice_index_or places d Idle)
  pub as_many : length listed + length behind ≡ sum_by times places
  pub room : length places ≤ reserved
  pub room_behind : length places ≤ reserved_behind
