-- What a report about a placement says.
use Rattle.std.specs.Prelude.{◌≡◌, ℕ, ◌<◌, ◌↔◌, Bool, IsTrue, Option, List, length}
use Rattle.match_model.specs.Instance.{Instance, IsInstance, IsProgramme, Acceptable, quota}
use Rattle.match_model.specs.Placement.{IsMemberOf, member_count}
use Rattle.settle_law.specs.Stable.{Blocks, IsStable}
use Rattle.match_audit.specs.Listing.{Lists}
use Rattle.match_audit.specs.declared.report.AuditReport.{AuditReport}

-- the placement gives p to r, and r and p don't rank each other
abbrev pub IsUnacceptable : Instance → List (Option ℕ) → ℕ → ℕ → Type 0
IsUnacceptable inst m r p = IsMemberOf m r p × ¬ Acceptable inst r p

-- p is a programme of the instance and has n members, more than its quota
abbrev pub IsOver : Instance → List (Option ℕ) → ℕ → ℕ → Type 0
IsOver inst m p n = IsProgramme inst p × (member_count m p ≡ n) × (quota inst p < n)

-- the report lists exactly the unacceptable pairs, the programmes over their quotas, and the
-- blocking pairs of the placement
pub record Reports (inst : Instance) (m : List (Option ℕ)) (report : AuditReport) : Type 0 where
  pub is_instance : IsInstance inst
  pub one_place_each : length m ≡ length inst.resident_lists
  pub unacceptable : Lists (IsUnacceptable inst m) report.unacceptable.items
  pub over : Lists (IsOver inst m) report.over.items
  pub blocking : Lists (Blocks inst m) report.blocking.items

-- the answer says whether a placement with this report is stable
abbrev pub TellsStability : AuditReport → Bool → Type 0
TellsStability report answer = (inst : Instance) (m : List (Option ℕ)) → Reports inst m report → IsTrue answer ↔ IsStable inst m
