-- The report of an audit names only members of the docket, and says whether the docket's sheet is stable.
use Rattle.std.proofs.Common.{◌≡◌, ℕ, ◌<◌, inl, inr, Bool, true, false, Option, Some, List, [], length, refl, arith}
use Rattle.std.specs.List.{All, Contains}
use Rattle.std.proofs.lemmas.List.{get_or_past}
use Rattle.std.proofs.lemmas.List.Elements.{All-contains_itself, All-weaker}
use Rattle.std.proofs.lemmas.Bool.{cases_lt}
use Rattle.match_model.specs.Ranking.{place}
use Rattle.match_model.specs.Instance.{Instance, IsInstance, IsProgramme, IsResident, Acceptable}
use Rattle.settle_law.specs.Stable.{Blocks}
use Rattle.settle_law.proofs.Placements.{member_within}
use Rattle.docket.specs.Contents.{Contents}
use Rattle.docket.specs.Whole.{IsWhole}
use Rattle.match_audit.specs.Listing.{Lists}
use Rattle.match_audit.specs.Report.{IsUnacceptable, IsOver, Reports, TellsStability}
use Rattle.match_audit.specs.declared.report.AuditReport.{AuditReport}
use Rattle.audit_text.specs.declared.status.Status.{Status}
use Rattle.audit_text.specs.declared.status.Status.TheVariants.{Stable, Unstable}
use Rattle.audit_text.specs.Report.{IsPairOf, IsReportOf}
use Rattle.audit_text.specs.Serving.{TellsStable}

-- if some resident is acceptable for p, then p is a programme
pub programme_of_acceptable : (inst : Instance) (r p : ℕ) → IsInstance inst → Acceptable inst r p → IsProgramme inst p
programme_of_acceptable inst r p instance listed = elim (cases_lt p (length inst.programme_lists)) [
  | inl below ↦ omega (arith, instance.one_list_each)
  | inr past ↦
      let nobody = get_or_past inst.programme_lists p [] past in
      let none : place [] r < length {A = ℕ} [] = rw nobody at listed in
      absurd (omega arith)
]

-- if some programme is acceptable for r, then r is a resident
resident_of_acceptable : (inst : Instance) (r p : ℕ) → IsInstance inst → Acceptable inst r p → IsResident inst r
resident_of_acceptable inst r p instance listed = elim (cases_lt r (length inst.resident_lists)) [
  | inl below ↦ below
  | inr past ↦
      let nobody = get_or_past inst.resident_lists r [] past in
      let none : place [] p < length {A = ℕ} [] = rw nobody at ((instance.both_rank p r).0 listed) in
      absurd (omega arith)
]

-- if each pair for which R holds has a property, all pairs in the list of these pairs have it
all_listed : (R : ℕ → ℕ → Type 0) (P : ℕ × ℕ → Type 0) (pairs : List (ℕ × ℕ)) → Lists R pairs → ((a b : ℕ) → R a b → P (a, b)) → All P pairs
all_listed R P pairs lists h =
    All-weaker (Contains pairs) P (λ x k. h x.0 x.1 ((lists.each x.0 x.1).0 k)) pairs (All-contains_itself pairs)

pub report_of_docket : (d : Contents) (m : List (Option ℕ)) (report : AuditReport) → IsWhole d → d.sheet ≡ Some m → IsInstance d.instance →
    Reports d.instance m report → IsReportOf d report
report_of_docket d m report whole is_sheet instance reports = record {
  unacceptable = all_listed (IsUnacceptable d.instance m) (IsPairOf d) report.unacceptable.items reports.unacceptable
      (λ r p h. (omega (arith, member_within m r p h.0, reports.one_place_each), omega (arith, (whole.sheet m is_sheet).members r p h.0, whole.programmes)));
  over = all_listed (IsOver d.instance m) (λ over. IsProgramme d.instance over.0) report.over.items reports.over (λ p n h. h.0);
  blocking = all_listed (Blocks d.instance m) (IsPairOf d) report.blocking.items reports.blocking
      (λ r p h. (resident_of_acceptable d.instance r p instance h.acceptable, programme_of_acceptable d.instance r p instance h.acceptable));
}

-- the status that says whether a sheet is stable
abbrev pub stability : Bool → Status
stability true = Stable
stability false = Unstable

pub tells_stable : (inst : Instance) (m : List (Option ℕ)) (report : AuditReport) (answer : Bool) → Reports inst m report →
    TellsStability report answer → TellsStable inst m (stability answer)
tells_stable inst m report true reports tells = record { either = inl refl; stable = (λ h. (tells inst m reports).0 refl, λ h. refl) }
tells_stable inst m report false reports tells =
    record { either = inr refl; stable = (λ h. absurd (cc h), λ h. absurd (cc ((tells inst m reports).1 h))) }
