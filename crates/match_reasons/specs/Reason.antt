-- Why a placement doesn't give a programme to a resident, by the two members' lists as they were written.
use Rattle.std.specs.Prelude.{◌≡◌, ℕ, ◌<◌, ◌≤◌, ◌⊎◌, true, Option, Some, None, List, slice_get}
use Rattle.match_model.specs.Ranking.{place, IsBefore, IsListed}
use Rattle.match_model.specs.Instance.{Instance, IsProgramme, Acceptable, is_withdrawn, list_at, list_of_resident, quota as quota_of, rank as rank_in}
use Rattle.match_model.specs.Placement.{programme_of, IsMemberOf, member_count}
use Rattle.match_model.specs.Written.{Written}
use Rattle.settle_law.specs.Stable.{Prefers, Blocks}
use Rattle.match_reasons.specs.declared.taken.Taken.{Taken}
use Rattle.match_reasons.specs.declared.reason.Why.{Why}
use Rattle.match_reasons.specs.declared.reason.Why.TheVariants.{Withdrawn, NotListed, NotRanked, Matched, PrefersOwn, Full, Blocking}

-- r has a programme that stands before p in r's list; the ranks are the positions of these two programmes
pub record HasBetter (mine : List ℕ) (m : List (Option ℕ)) (r p own own_rank rank : ℕ) : Type 0 where
  pub has_own : IsMemberOf m r own
  pub own_ranked : rank_in mine own ≡ Some own_rank
  pub ranked : rank_in mine p ≡ Some rank
  pub before : own_rank < rank

-- the last position in p's list that a member of p has; none if p has no members
abbrev pub IsLastPlace : List ℕ → List (Option ℕ) → ℕ → Option ℕ → Type 0
IsLastPlace theirs m p None = (s : ℕ) → ¬ IsMemberOf m s p
IsLastPlace theirs m p (Some k) =
    ((s : ℕ) × IsMemberOf m s p × (place theirs s ≡ k))
    × ((s : ℕ) → IsMemberOf m s p → place theirs s ≤ k)

-- how many members p has, and the last position in p's list that one of them has
pub record IsTaken (theirs : List ℕ) (m : List (Option ℕ)) (p : ℕ) (taken : Taken) : Type 0 where
  pub members : taken.members ≡ member_count m p
  pub last : IsLastPlace theirs m p taken.last

-- entry p says how many members programme p has, and the last of their positions
abbrev pub AreTaken : Written → List (Option ℕ) → List Taken → Type 0
AreTaken written m takens = (p : ℕ) (t : Taken) → slice_get takens p ≡ Some t → IsTaken (list_at written.programme_lists p) m p t

-- All places of p went to residents who stand before r in p's list. The numbers are r's position, the last position of
-- those residents, and p's quota.
pub record IsFullBefore (inst : Instance) (theirs : List ℕ) (m : List (Option ℕ)) (r p rank : ℕ) (last_rank : Option ℕ) (quota : ℕ) : Type 0 where
  pub ranked : rank_in theirs r ≡ Some rank
  pub last : IsLastPlace theirs m p last_rank
  pub has_quota : quota_of inst p ≡ quota
  pub all_taken : quota_of inst p ≤ member_count m p
  pub all_before : (s : ℕ) → IsMemberOf m s p → IsBefore theirs s r

-- r or p is withdrawn
abbrev pub HasWithdrawn : Instance → ℕ → ℕ → Type 0
HasWithdrawn inst r p = (is_withdrawn inst.residents_withdrawn r ≡ true) ⊎ (is_withdrawn inst.programmes_withdrawn p ≡ true)

-- the answer is true of r and p; `mine` is r's list and `theirs` is p's list
abbrev pub Holds : Instance → List ℕ → List ℕ → List (Option ℕ) → ℕ → ℕ → Why → Type 0
Holds inst mine theirs m r p Withdrawn = HasWithdrawn inst r p
Holds inst mine theirs m r p NotListed = ¬ IsListed mine p
Holds inst mine theirs m r p NotRanked = ¬ IsListed theirs r
Holds inst mine theirs m r p Matched = IsMemberOf m r p
Holds inst mine theirs m r p (PrefersOwn own own_rank rank) = HasBetter mine m r p own own_rank rank
Holds inst mine theirs m r p (Full rank last_rank quota) = IsFullBefore inst theirs m r p rank last_rank quota
Holds inst mine theirs m r p Blocking = Blocks inst m r p

-- the turn at which an answer is tried, from 0
abbrev pub turn : Why → ℕ
turn Withdrawn = 0
turn NotListed = 1
turn NotRanked = 2
turn Matched = 3
turn (PrefersOwn own own_rank rank) = 4
turn (Full rank last_rank quota) = 5
turn Blocking = 6

-- the answer is the first, in their order, that is true of r and p
pub record IsFirst (inst : Instance) (mine theirs : List ℕ) (m : List (Option ℕ)) (r p : ℕ) (answer : Why) : Type 0 where
  pub holds : Holds inst mine theirs m r p answer
  pub none_before : (other : Why) → turn other < turn answer → ¬ Holds inst mine theirs m r p other

-- r and p rank each other, r is not with p, and r would rather have p than its own programme, or has none
pub record Wants (inst : Instance) (m : List (Option ℕ)) (r p : ℕ) : Type 0 where
  pub acceptable : Acceptable inst r p
  pub not_placed : ¬ IsMemberOf m r p
  pub would : Prefers (list_of_resident inst r) p (programme_of m r)

-- the answer is `Full`: all places went to residents who stand before the one who asks
abbrev pub TellsFull : Why → Type 0
TellsFull Withdrawn = ⊥
TellsFull NotListed = ⊥
TellsFull NotRanked = ⊥
TellsFull Matched = ⊥
TellsFull (PrefersOwn own own_rank rank) = ⊥
TellsFull (Full rank last_rank quota) = Unit {0}
TellsFull Blocking = ⊥

-- the placement gives only programmes of the instance
abbrev pub GivesProgrammes : Instance → List (Option ℕ) → Type 0
GivesProgrammes inst m = (s q : ℕ) → IsMemberOf m s q → IsProgramme inst q

-- if the answer names a programme, it is a programme of the instance
abbrev pub NamesProgramme : Instance → Why → Type 0
NamesProgramme inst Withdrawn = Unit {0}
NamesProgramme inst NotListed = Unit {0}
NamesProgramme inst NotRanked = Unit {0}
NamesProgramme inst Matched = Unit {0}
NamesProgramme inst (PrefersOwn own own_rank rank) = IsProgramme inst own
NamesProgramme inst (Full rank last_rank quota) = Unit {0}
NamesProgramme inst Blocking = Unit {0}

-- if the answer names a programme, the placement gives this programme to r
abbrev pub NamesOwn : List (Option ℕ) → ℕ → Why → Type 0
NamesOwn m r Withdrawn = Unit {0}
NamesOwn m r NotListed = Unit {0}
NamesOwn m r NotRanked = Unit {0}
NamesOwn m r Matched = Unit {0}
NamesOwn m r (PrefersOwn own own_rank rank) = IsMemberOf m r own
NamesOwn m r (Full rank last_rank quota) = Unit {0}
NamesOwn m r Blocking = Unit {0}

-- r and p rank each other, r would rather have p, and none of the five answers that are tried first is true
pub record Asks (inst : Instance) (mine theirs : List ℕ) (m : List (Option ℕ)) (r p : ℕ) : Type 0 where
  pub wants : Wants inst m r p
  pub none_yet : (other : Why) → turn other < 5 → ¬ Holds inst mine theirs m r p other

-- there is a last position, and it is this position or after it
abbrev pub StandsPast : Option ℕ → ℕ → Type 0
StandsPast None rank = ⊥
StandsPast (Some last) rank = rank ≤ last

-- the programme has fewer members than places, or its last member stands at this position or after it
abbrev pub HasRoomAt : Taken → ℕ → ℕ → Type 0
HasRoomAt taken quota rank = (taken.members < quota) ⊎ StandsPast taken.last rank
