use Rattle.std.proofs.Common.{◌≡◌, List, [], ℕ, None, drop}
use Rattle.records.specs.Reading.{Fields}
use Rattle.docket.specs.Contents.{quotas_of}
use Rattle.docket.specs.Known.{AreKnown}
use Rattle.docket.specs.Passes.{first_from, mark_fault}
use Rattle.docket.specs.SheetRows.{AreSheetRows}
use Rattle.docket.specs.SheetMarks.{IsMarked}
use Rattle.docket.proofs.SheetWalkFacts.{IsReached, IsRightSo}
use Rattle.docket.proofs.passes.sheet.Marks.check_filled.Given as goal

abbrev pub invariant-loop-sheet_row : goal.invariant-loop-sheet_row
invariant-loop-sheet_row l =
    (texts : Fields) (residents : List ℕ) (all : List Fields) (h : AreSheetRows texts l.rows all) → AreKnown texts l.programmes residents all → IsMarked l.self all all
    → l.instance.quotas ≡ quotas_of all → first_from (mark_fault all) [] all ≡ None → IsReached texts h.front (drop l.sheet_row-index l.rows) (IsRightSo all)
