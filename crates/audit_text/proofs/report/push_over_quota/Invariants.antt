use Rattle.std.proofs.Common.{take}
use Rattle.std.specs.List.{flat_map}
use Rattle.records.specs.RowText.{Adds}
use Rattle.audit_text.specs.Report.{over_row}
use Rattle.audit_text.proofs.report.push_over_quota.Given as goal

abbrev pub invariant-loop-programme : goal.invariant-loop-programme
invariant-loop-programme g l =
    Adds g.W.Write.contents l.fn.rows l.rows (flat_map (over_row l.docket) (take l.programme-index l.over_quota))
