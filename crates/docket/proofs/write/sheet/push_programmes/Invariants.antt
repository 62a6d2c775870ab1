use Rattle.std.proofs.Common.{ℕ, List, Option, length}
use Rattle.std.specs.List.{flat_map, range_with_len}
use Rattle.docket.specs.Texts.{filled_row, AreCountsOf}
use Rattle.records.specs.RowText.{Adds}
use Rattle.docket.proofs.write.sheet.push_programmes.Given as goal

abbrev pub invariant-loop-p : goal.invariant-loop-p
invariant-loop-p g l =
    (m : List (Option ℕ)) → AreCountsOf m l.filled_counts (length l.docket.programmes)
    → Adds g.W.Write.contents l.fn.rows l.rows (flat_map (filled_row l.docket m) (range_with_len 0 l.p))
