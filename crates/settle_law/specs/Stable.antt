-- Stable and settled placements. These definitions speak of the instance and of placements only, and not of offers,
-- steps or messages.
use Rattle.std.specs.Prelude.{◌≡◌, ℕ, ◌<◌, ◌⊎◌, ◌↔◌, Option, Some, None, List, length}
use Rattle.std.specs.List.{All}
use Rattle.match_model.specs.Ranking.{IsBefore, HasNoRepeats}
use Rattle.match_model.specs.Instance.{Instance, IsResident, Acceptable, quota, list_of_programme, list_of_resident}
use Rattle.match_model.specs.Placement.{programme_of, IsMemberOf, member_count, IsAssignment}

-- the owner of this ranking would rather have p: the owner has no programme, or p stands before the owner's
-- programme
abbrev pub Prefers : List ℕ → ℕ → Option ℕ → Type 0
Prefers ranking p None = Unit {0}
Prefers ranking p (Some q) = IsBefore ranking p q

-- p has fewer members than its quota, or has a member that stands after r in p's list
abbrev pub HasRoomFor : Instance → List (Option ℕ) → ℕ → ℕ → Type 0
HasRoomFor inst m p r =
    (member_count m p < quota inst p) ⊎ ((s : ℕ) × IsMemberOf m s p × IsBefore (list_of_programme inst p) r s)

-- r and p are a blocking pair: they rank each other, r is not with p, and each would rather have the other
pub record Blocks (inst : Instance) (m : List (Option ℕ)) (r p : ℕ) : Type 0 where
  pub acceptable : Acceptable inst r p
  pub not_placed : ¬ IsMemberOf m r p
  pub resident_would : Prefers (list_of_resident inst r) p (programme_of m r)
  pub programme_would : HasRoomFor inst m p r

-- the placement is an assignment without a blocking pair
pub record IsStable (inst : Instance) (m : List (Option ℕ)) : Type 0 where
  pub is_assignment : IsAssignment inst m
  pub nothing_blocks : (r p : ℕ) → ¬ Blocks inst m r p

-- some stable assignment gives p to r
pub record IsAchievable (inst : Instance) (r p : ℕ) : Type 0 where
  pub matching : List (Option ℕ)
  pub is_stable : IsStable inst matching
  pub has_both : IsMemberOf matching r p

-- s is achievable for p, and stands before r in p's list
pub record ComesFirst (inst : Instance) (p r s : ℕ) : Type 0 where
  pub before : IsBefore (list_of_programme inst p) s r
  pub achievable : IsAchievable inst s p

-- r is achievable for p, and fewer residents than p's quota are both achievable for p and before r in p's list
pub record IsBest (inst : Instance) (p r : ℕ) : Type 0 where
  pub achievable : IsAchievable inst r p
  pub no_quota_first : (first : List ℕ) → HasNoRepeats first → length first ≡ quota inst p → ¬ All (ComesFirst inst p r) first

-- this is the last programme of r's list that is achievable for r; none if no programme is achievable for r
abbrev pub IsWorst : Instance → ℕ → Option ℕ → Type 0
IsWorst inst r None = (p : ℕ) → ¬ IsAchievable inst r p
IsWorst inst r (Some p) =
    IsAchievable inst r p × ((q : ℕ) → IsAchievable inst r q → (q ≡ p) ⊎ IsBefore (list_of_resident inst r) q p)

-- Each resident has one place in the list. Each programme's members are its best achievable residents, up to its
-- quota. Each resident has its worst achievable programme.
pub record IsSettled (inst : Instance) (m : List (Option ℕ)) : Type 0 where
  pub one_place_each : length m ≡ length inst.resident_lists
  pub members_are_best : (p r : ℕ) → IsMemberOf m r p ↔ IsBest inst p r
  pub residents_have_worst : (r : ℕ) → IsResident inst r → IsWorst inst r (programme_of m r)
