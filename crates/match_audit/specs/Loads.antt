-- What one walk over a placement notes for each programme.
use Rattle.std.specs.Prelude.{◌≡◌, ℕ, ◌<◌, ◌↔◌, Some, Option, List, length, slice_get}
use Rattle.match_model.specs.Ranking.{place}
use Rattle.match_model.specs.Instance.{Instance, list_of_programme}
use Rattle.match_model.specs.Placement.{IsMemberOf, member_count}
use Rattle.match_audit.specs.declared.load.Load.{Load}

-- how many members p has, and the last of their positions in p's list, counted from 0; 0 if p has
-- no members
pub record IsLoadOf (inst : Instance) (m : List (Option ℕ)) (p : ℕ) (load : Load) : Type 0 where
  pub members : load.members ≡ member_count m p
  pub worst_rank : (k : ℕ) → (k < load.worst_rank) ↔ ((s : ℕ) × IsMemberOf m s p × (k < place (list_of_programme inst p) s))

-- entry p of the table is the load of programme p
pub record AreLoads (inst : Instance) (m : List (Option ℕ)) (loads : List Load) : Type 0 where
  pub one_each : length loads ≡ length inst.quotas
  pub each : (p : ℕ) (load : Load) → slice_get loads p ≡ Some load → IsLoadOf inst m p load
