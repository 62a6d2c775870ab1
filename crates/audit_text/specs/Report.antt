-- The rows that an audit writes.
use Rattle.std.specs.Prelude.{ℕ, ◌==◌, ◌&&◌, Bool, if◌then◌else◌, List, [], ◌∷◌, ◌++◌, length, codes}
use Rattle.std.specs.List.{flat_map}
use Rattle.match_model.specs.Instance.{IsResident, IsProgramme}
use Rattle.docket.specs.Contents.{Contents}
use Rattle.records.specs.RowText.{row}
use Rattle.docket.specs.Texts.{programme_name, programme_row, resident_name}
use Rattle.match_audit.specs.declared.report.AuditReport.{AuditReport}
use Rattle.std.specs.List.{All}

-- whether the report has no unacceptable pair, no programme over its quota, and no blocking pair
abbrev pub finds_nothing : AuditReport → Bool
finds_nothing report =
    (length report.unacceptable.items == 0) && (length report.over.items == 0) && (length report.blocking.items == 0)

-- the row `S,stable` or `S,unstable`
unfoldable pub stability_row : AuditReport → List ℕ
stability_row report = row (codes "S" ∷ (if finds_nothing report then codes "stable" else codes "unstable") ∷ [])

-- the row with this letter for a resident and a programme
unfoldable pub pair_row : Contents → List ℕ → ℕ × ℕ → List ℕ
pair_row d kind pair = row (kind ∷ resident_name d pair.0 ∷ programme_name d pair.1 ∷ [])

-- the row `O,programme,filled,quota`
abbrev pub over_row : Contents → ℕ × ℕ → List ℕ
over_row d over = programme_row d (codes "O") over.0 over.1

-- The rows of a report: whether the sheet is stable, the unacceptable pairs, the programmes over their quota, and the
-- blocking pairs.
unfoldable pub report_text : Contents → AuditReport → List ℕ
report_text d report =
    stability_row report
    ++ flat_map (pair_row d (codes "X")) report.unacceptable.items
    ++ flat_map (over_row d) report.over.items
    ++ flat_map (pair_row d (codes "B")) report.blocking.items

-- the pair is that of a resident and a programme of the docket
abbrev pub IsPairOf : Contents → ℕ × ℕ → Type 0
IsPairOf d pair = IsResident d.instance pair.0 × IsProgramme d.instance pair.1

-- the report names only members of the docket
pub record IsReportOf (d : Contents) (report : AuditReport) : Type 0 where
  pub unacceptable : All (IsPairOf d) report.unacceptable.items
  pub over : All (λ over. IsProgramme d.instance over.0) report.over.items
  pub blocking : All (IsPairOf d) report.blocking.items
