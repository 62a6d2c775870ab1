use Rattle.std.specs.List.{flat_map, range_with_len}
use Rattle.receipt_check.specs.Rows.{Grows}
use Rattle.receipt_check.specs.Told.{reason_text}
use Rattle.receipt_check.specs.Shown.{content}
use Rattle.receipt_check.proofs.told.put_reasons.Given as goal

abbrev pub invariant-loop-k : goal.invariant-loop-k
invariant-loop-k l = Grows l.fn.sentences l.sentences (flat_map (reason_text (content l.contents)) (range_with_len 0 l.k))
