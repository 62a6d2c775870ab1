use Rattle.std.proofs.Common.{take}
use Rattle.std.specs.List.{flat_map}
use Rattle.records.specs.RowText.{Adds}
use Rattle.audit_text.specs.Report.{pair_row}
use Rattle.audit_text.proofs.report.push_pairs.Given as goal

abbrev pub invariant-loop-resident : goal.invariant-loop-resident
invariant-loop-resident g l =
    Adds g.W.Write.contents l.fn.rows l.rows (flat_map (pair_row l.docket l.letter) (take l.resident-index l.pairs))
