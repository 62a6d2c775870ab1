-- The rows of an audit's report, written one after another.
use Rattle.std.proofs.Common.{◌≡◌, ℕ, ◌==◌, ◌&&◌, Bool, true, false, List, [], ◌∷◌, Option, length, codes, refl, arith}
use Rattle.std.specs.List.{flat_map}
use Rattle.std.proofs.lemmas.Bool.{eqb-true}
use Rattle.docket.specs.Contents.{Contents}
use Rattle.records.specs.RowText.{row, Adds}
use Rattle.records.specs.declared.writer.RowWriter.{RowWriter}
use Rattle.records.proofs.RowTextFacts.{adds_both}
use Rattle.match_audit.specs.declared.report.AuditReport.{AuditReport}
use Rattle.audit_text.specs.Report.{finds_nothing, stability_row, pair_row, over_row, report_text}

-- the report has no finding
abbrev pub IsEmpty : AuditReport → Type 0
IsEmpty report = (report.unacceptable.items ≡ []) × (report.over.items ≡ []) × (report.blocking.items ≡ [])

pub stability_row-stable : (report : AuditReport) → IsEmpty report → stability_row report ≡ row (codes "S" ∷ codes "stable" ∷ [])
unfolding stability_row
stability_row-stable report h = rw (h.0, h.1, h.2)

both : (a b : Bool) → (a && b) ≡ true → (a ≡ true) × (b ≡ true)
both true b h = (refl, h)
both false b h = absurd (cc h)

none_of : {X : Type 0} (xs : List X) → (length xs == 0) ≡ true → xs ≡ []
none_of [] h = refl
none_of (x ∷ xs) h = let e = eqb-true (length (x ∷ xs)) 0 h in absurd (omega arith)

is_nothing : (report : AuditReport) → finds_nothing report ≡ true → IsEmpty report
is_nothing report h =
    let most = both _ (length report.blocking.items == 0) h in
    let two = both (length report.unacceptable.items == 0) (length report.over.items == 0) most.0 in
    (none_of report.unacceptable.items two.0, none_of report.over.items two.1, none_of report.blocking.items most.1)

pub stability_row-unstable : (report : AuditReport) → (IsEmpty report → ⊥) → stability_row report ≡ row (codes "S" ∷ codes "unstable" ∷ [])
unfolding stability_row
stability_row-unstable report h = by_test (finds_nothing report) refl
  where
    by_test : (b : Bool) → finds_nothing report ≡ b → stability_row report ≡ row (codes "S" ∷ codes "unstable" ∷ [])
    by_test true e = absurd (h (is_nothing report e))
    by_test false e = rw e

-- the rows of a report are the row about stability and the rows of the three lists
pub report_text-rows : {W : Type 0} (contents : W → Option (List ℕ)) (d : Contents) (report : AuditReport)
    (none start unacceptable over whole : RowWriter W) → Adds contents none start (stability_row report)
    → Adds contents start unacceptable (flat_map (pair_row d (codes "X")) report.unacceptable.items)
    → Adds contents unacceptable over (flat_map (over_row d) report.over.items)
    → Adds contents over whole (flat_map (pair_row d (codes "B")) report.blocking.items) → Adds contents none whole (report_text d report)
unfolding report_text
report_text-rows contents d report none start unacceptable over whole b c e f =
    adds_both contents none over whole _ _ (adds_both contents none unacceptable over _ _ (adds_both contents none start unacceptable _ _ b c) e) f
