-- What the receipts of all members tell, by the members' numbers, and when a resident's and a programme's receipts agree.
use Rattle.std.specs.Prelude.{◌≡◌, ◌↔◌, ℕ, ◌+◌, ◌<◌, ◌≤◌, Option, Some, None, List, length}
use Rattle.match_model.specs.Ranking.{place, IsBefore, IsListed, HasNoRepeats}
use Rattle.match_model.specs.Instance.{Instance, IsInstance, list_at, quota as quota_of, rank as rank_in}
use Rattle.match_model.specs.Written.{AreWritten, Written}
use Rattle.match_model.specs.Placement.{programme_of, IsMemberOf}
use Rattle.settle_law.specs.Stable.{Prefers, IsStable}
use Rattle.match_reasons.specs.Reason.{HasWithdrawn, IsFirst}
use Rattle.match_reasons.specs.declared.reason.Why.{Why}
use Rattle.match_reasons.specs.declared.reason.Why.TheVariants.{Withdrawn, NotRanked, Matched, PrefersOwn, Full}

-- Of one receipt.

-- what the answer `full` says of the programme's places: the programme has none, or its last member
-- ranks before the resident
abbrev pub IsLastTold : ℕ → Option ℕ → ℕ → Type 0
IsLastTold rank None quota = quota ≡ 0
IsLastTold rank (Some last) quota = last < rank

-- the reason is possible for a programme that the resident would rather have: `Withdrawn`, `NotRanked`, or `Full`
-- with all places gone to other residents
abbrev pub IsPassed : Why → Type 0
IsPassed Withdrawn = Unit {0}
IsPassed NotRanked = Unit {0}
IsPassed (Full rank last quota) = IsLastTold rank last quota
IsPassed other = ⊥

-- the reason is possible for a programme that comes after the resident's own programme: `Withdrawn`,
-- `NotRanked` or `PrefersOwn`
abbrev pub IsPast : Why → Type 0
IsPast Withdrawn = Unit {0}
IsPast NotRanked = Unit {0}
IsPast (PrefersOwn own own_rank rank) = Unit {0}
IsPast other = ⊥

-- the reason for programme p is possible in the receipt of a resident with this list, whose own programme
-- is `own`
pub record CanStandFor (mine : List ℕ) (own : Option ℕ) (p : ℕ) (why : Why) : Type 0 where
  pub at : own ≡ Some p → why ≡ Matched
  pub before : Prefers mine p own → (own ≡ Some p → ⊥) → IsPassed why
  pub after : (q : ℕ) → own ≡ Some q → IsBefore mine q p → IsPast why

-- what a good receipt shows of a resident with this list: the resident's own programme is on the list, and each
-- reason is possible
pub record IsGoodResident (mine : List ℕ) (own : Option ℕ) (why : ℕ → Why) : Type 0 where
  pub own_listed : (q : ℕ) → own ≡ Some q → IsListed mine q
  pub reasons : (p : ℕ) → IsListed mine p → CanStandFor mine own p (why p)

-- what a good receipt shows of a programme with this list and this quota: at most as many members as the quota, all
-- of them different and on the list
pub record IsGoodProgramme (theirs members : List ℕ) (quota : ℕ) : Type 0 where
  pub fits : length members ≤ quota
  pub none_twice : HasNoRepeats members
  pub listed : (s : ℕ) → IsListed members s → IsListed theirs s

-- Of a pair.

-- the rank of the last of these members on the list; none if there are no members
abbrev pub IsLastOfMembers : List ℕ → List ℕ → Option ℕ → Type 0
IsLastOfMembers theirs members None = (s : ℕ) → ¬ IsListed members s
IsLastOfMembers theirs members (Some last) =
    ((s : ℕ) × IsListed members s × (place theirs s ≡ last)) × ((s : ℕ) → IsListed members s → place theirs s ≤ last)

-- the answer `full` fits the programme's receipt: it has r's rank, the last member's rank and the quota, and all places
-- are filled
pub record FitsFull (theirs members : List ℕ) (places r rank : ℕ) (last : Option ℕ) (quota : ℕ) : Type 0 where
  pub ranked : rank_in theirs r ≡ Some rank
  pub last_is : IsLastOfMembers theirs members last
  pub quota_is : quota ≡ places
  pub all_filled : length members ≡ places

-- the reason in resident r's receipt for programme p fits p's receipt
abbrev pub Fits : Instance → List ℕ → List ℕ → ℕ → ℕ → Why → Type 0
Fits inst theirs members r p Withdrawn = HasWithdrawn inst r p
Fits inst theirs members r p NotRanked = ¬ IsListed theirs r
Fits inst theirs members r p Matched = IsListed members r
Fits inst theirs members r p (PrefersOwn own own_rank rank) = Unit {0}
Fits inst theirs members r p (Full rank last quota) = FitsFull theirs members (quota_of inst p) r rank last quota
Fits inst theirs members r p other = ⊥

-- the receipts of resident r and programme p agree
pub record Agree (inst : Instance) (mine theirs members : List ℕ) (r p : ℕ) (why : Why) : Type 0 where
  pub fits : IsListed mine p → Fits inst theirs members r p why
  pub withdrawn : IsListed mine p → HasWithdrawn inst r p → why ≡ Withdrawn
  pub unranked : IsListed mine p → ¬ IsListed theirs r → ¬ HasWithdrawn inst r p → why ≡ NotRanked
  pub member : IsListed members r → IsListed mine p × (why ≡ Matched)

-- If each member's receipt is good and each pair's receipts agree, the placement in these receipts is stable for the
-- lists in these receipts.
abbrev pub PairsLaw : Type 0
PairsLaw =
    (inst : Instance) (written : Written) (m : List (Option ℕ)) (members : ℕ → List ℕ) (why : ℕ → ℕ → Why) →
    IsInstance inst → AreWritten inst written → length m ≡ length inst.resident_lists →
    ((r : ℕ) → IsGoodResident (list_at written.resident_lists r) (programme_of m r) (why r)) →
    ((p : ℕ) → IsGoodProgramme (list_at written.programme_lists p) (members p) (quota_of inst p)) →
    ((r p : ℕ) → Agree inst (list_at written.resident_lists r) (list_at written.programme_lists p) (members p) r p (why r p)) →
    IsStable inst m

-- these are the members whom the placement gives to programme p, each once
pub record AreMembersOf (m : List (Option ℕ)) (p : ℕ) (members : List ℕ) : Type 0 where
  pub are : (s : ℕ) → IsListed members s ↔ IsMemberOf m s p
  pub none_twice : HasNoRepeats members

-- for this placement, each resident's and each programme's receipt is good, and each pair's receipts agree
pub record AllAgree (inst : Instance) (written : Written) (m : List (Option ℕ)) (members : ℕ → List ℕ) (why : ℕ → ℕ → Why) : Type 0 where
  pub residents : (r : ℕ) → IsGoodResident (list_at written.resident_lists r) (programme_of m r) (why r)
  pub programmes : (p : ℕ) → IsGoodProgramme (list_at written.programme_lists p) (members p) (quota_of inst p)
  pub pairs : (r p : ℕ) → Agree inst (list_at written.resident_lists r) (list_at written.programme_lists p) (members p) r p (why r p)

-- If a placement is stable, and each reason is the first answer that is true, all receipts are good and agree.
abbrev pub HonestLaw : Type 0
HonestLaw =
    (inst : Instance) (written : Written) (m : List (Option ℕ)) (members : ℕ → List ℕ) (why : ℕ → ℕ → Why) →
    IsInstance inst → AreWritten inst written → IsStable inst m →
    ((p : ℕ) → AreMembersOf m p (members p)) →
    ((r p : ℕ) → IsFirst inst (list_at written.resident_lists r) (list_at written.programme_lists p) m r p (why r p)) →
    AllAgree inst written m members why

-- If an answer `full` with a last rank fits a programme's good receipt, the programme's list has at least as many
-- ranks up to this last rank as the programme has places.
abbrev pub RoomLaw : Type 0
RoomLaw =
    (theirs members : List ℕ) (places r rank last quota : ℕ) →
    IsGoodProgramme theirs members places → FitsFull theirs members places r rank (Some last) quota → quota ≤ last + 1
