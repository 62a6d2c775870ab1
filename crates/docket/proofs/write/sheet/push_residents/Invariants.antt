use Rattle.std.specs.List.{flat_map, range_with_len}
use Rattle.docket.specs.Texts.{resident_row}
use Rattle.records.specs.RowText.{Adds}
use Rattle.docket.proofs.write.sheet.push_residents.Given as goal

abbrev pub invariant-loop-r : goal.invariant-loop-r
invariant-loop-r g l =
    Adds g.W.Write.contents l.fn.rows l.rows (flat_map (resident_row l.docket l.assignment) (range_with_len 0 l.r))
