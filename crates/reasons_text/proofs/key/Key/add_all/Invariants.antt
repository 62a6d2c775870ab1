use Rattle.reasons_text.specs.Naming.{both_of}
use Rattle.reasons_text.proofs.KeyInvariant.{HasAdded}
use Rattle.reasons_text.proofs.key.Key.add_all.Given as goal

abbrev pub invariant-loop-rows_before : goal.invariant-loop-rows_before
invariant-loop-rows_before l = HasAdded l.numbers.docket.now l.key_bytes (both_of l.initial.self) (both_of l.self) l.reader l.rows_before
