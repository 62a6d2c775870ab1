use Rattle.std.proofs.Common.{◌≡◌, map}
use Rattle.std.specs.List.{range_with_len}
use Rattle.docket.specs.Texts.{filled_row}
use Rattle.seal_text.specs.Grown.{texts_of}
use Rattle.seal_text.proofs.texts.filled_rows.Given as goal

abbrev pub invariant-loop-p : goal.invariant-loop-p
invariant-loop-p l = texts_of l.leaf_texts.items ≡ map (filled_row l.case.docket l.case.sheet) (range_with_len 0 l.p)
