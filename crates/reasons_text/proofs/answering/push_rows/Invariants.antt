use Rattle.std.proofs.Common.{ℕ, take}
use Rattle.std.specs.List.{enumerate_from, flat_map, zip}
use Rattle.match_reasons.specs.declared.reason.Why.{Why}
use Rattle.records.specs.RowText.{Adds}
use Rattle.reasons_text.specs.Naming.{naming_of}
use Rattle.reasons_text.specs.Table.{answer_row}
use Rattle.reasons_text.proofs.answering.push_rows.Given as goal

abbrev pub invariant-loop-row_index : goal.invariant-loop-row_index
invariant-loop-row_index g l =
    Adds g.W.Write.contents l.fn.rows l.rows
    (flat_map (λ (told : ℕ × (ℕ × Why)). answer_row (naming_of l.manner.names) l.manner.without_ranks l.resident told.0 told.1.0 told.1.1)
    (take l.row_index (enumerate_from 1 (zip l.programmes l.reasons))))
