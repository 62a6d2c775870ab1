use Rattle.std.proofs.Common.{List, [], length, drop}
use Rattle.records.specs.Reading.{Fields}
use Rattle.docket.specs.Known.{AreKnown}
use Rattle.docket.specs.SheetRows.{AreSheetRows}
use Rattle.docket.specs.SheetMarks.{IsMarked, IsSized}
use Rattle.docket.proofs.SheetWalkFacts.{IsReached, IsMarkedSo}
use Rattle.docket.proofs.passes.sheet.Marks.add_rows.Given as goal

abbrev pub invariant-loop-sheet_row : goal.invariant-loop-sheet_row
invariant-loop-sheet_row l = record {
  sizes : IsSized l.self (length l.programmes) (length l.residents);
  walk : (texts : Fields) (all : List Fields) (h : AreSheetRows texts l.rows all) → AreKnown texts l.programmes l.residents all → IsMarked l.initial.self all []
      → IsReached texts h.front (drop l.sheet_row-index l.rows) (IsMarkedSo l.self all);
}
