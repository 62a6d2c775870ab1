use Rattle.reasons_text.specs.Naming.{naming_of}
use Rattle.reasons_text.specs.Texts.{AddsRows}
use Rattle.reasons_text.proofs.answering.push_all_rows.Given as goal

abbrev pub invariant-loop-r : goal.invariant-loop-r
invariant-loop-r g l =
    AddsRows g.W.Write.contents l.case (naming_of l.manner.names) l.manner.without_ranks l.r l.fn.rows l.rows
