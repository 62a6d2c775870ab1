-- The walk over a resident's list finds exactly the programmes that form a blocking pair with the resident.
use Rattle.std.proofs.Common.{◌≡◌, ℕ, List, arith, subst}
use Rattle.std.specs.Prelude.{Option, Some, ◌↔◌}
use Rattle.match_model.specs.Ranking.{IsListed, IsBefore}
use Rattle.match_model.specs.Instance.{Instance, IsInstance, IsProgramme, list_of_resident}
use Rattle.match_model.specs.Placement.{programme_of}
use Rattle.match_model.proofs.Instances.{acceptable_programme}
use Rattle.settle_law.specs.Stable.{Blocks, Prefers, HasRoomFor}

-- a number on a resident's list is a programme
pub listed_by_resident : (inst : Instance) → IsInstance inst → (r p : ℕ) → IsListed (list_of_resident inst r) p → IsProgramme inst p
listed_by_resident inst is r p l = acceptable_programme inst is r p ((is.both_rank p r).1 l)

not_preferred_itself : (ranking : List ℕ) (p : ℕ) (held : Option ℕ) → held ≡ Some p → Prefers ranking p held → ⊥
not_preferred_itself ranking p held e h =
    let same : IsBefore ranking p p = subst (Prefers ranking p) e h in omega arith

-- a pair blocks if the resident lists and prefers the programme, and the programme has room for the resident
pub blocks_where : (inst : Instance) → IsInstance inst → (m : List (Option ℕ)) (r p : ℕ) →
    ((IsListed (list_of_resident inst r) p × Prefers (list_of_resident inst r) p (programme_of m r)) × HasRoomFor inst m p r) ↔ Blocks inst m r p
blocks_where inst is m r p = (
  λ (c : (IsListed (list_of_resident inst r) p × Prefers (list_of_resident inst r) p (programme_of m r)) × HasRoomFor inst m p r). record {
    acceptable = (is.both_rank p r).1 c.0.0;
    not_placed = λ e. not_preferred_itself (list_of_resident inst r) p (programme_of m r) e c.0.1;
    resident_would = c.0.1;
    programme_would = c.1;
  },
  λ (b : Blocks inst m r p). (((is.both_rank p r).0 b.acceptable, b.resident_would), b.programme_would),
)
