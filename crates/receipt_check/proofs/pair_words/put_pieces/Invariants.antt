use Rattle.std.proofs.Common.{take}
use Rattle.receipt_check.specs.Rows.{Grows}
use Rattle.receipt_check.specs.Shown.{fields_in}
use Rattle.receipt_check.specs.Pair.{joined}
use Rattle.receipt_check.proofs.pair_words.put_pieces.Given as goal

abbrev pub invariant-loop-k : goal.invariant-loop-k
invariant-loop-k l = Grows l.fn.sentence l.sentence (joined (take l.k (fields_in l.pieces)))
