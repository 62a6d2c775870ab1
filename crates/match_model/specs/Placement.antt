-- A placement gives each resident one programme or none. A placement is a list with one entry for each resident.
use Rattle.std.specs.Prelude.{◌≡◌, ℕ, ◌≤◌, ◌==◌, Bool, false, Option, Some, None, List, length, slice_index_or}
use Rattle.std.specs.List.{count_by}
use Rattle.match_model.specs.Instance.{Instance, Acceptable, quota}

-- the programme that r has in the placement, or none
abbrev pub programme_of : List (Option ℕ) → ℕ → Option ℕ
programme_of m r = slice_index_or m r None

-- r is one of the members of p
abbrev pub IsMemberOf : List (Option ℕ) → ℕ → ℕ → Type 0
IsMemberOf m r p = programme_of m r ≡ Some p

-- whether this entry of the placement is p
abbrev pub holds : ℕ → Option ℕ → Bool
holds p None = false
holds p (Some q) = q == p

-- how many members p has: the number of entries that are p
abbrev pub member_count : List (Option ℕ) → ℕ → ℕ
member_count m p = count_by (holds p) m

-- each resident has an entry in the list, each pair is acceptable, and no programme has more members than its quota
pub record IsAssignment (inst : Instance) (m : List (Option ℕ)) : Type 0 where
  pub one_place_each : length m ≡ length inst.resident_lists
  pub pairs_acceptable : (r p : ℕ) → IsMemberOf m r p → Acceptable inst r p
  pub quotas_kept : (p : ℕ) → member_count m p ≤ quota inst p
