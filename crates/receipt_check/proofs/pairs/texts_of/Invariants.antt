use Rattle.std.proofs.Common.{◌≡◌, map, take}
use Rattle.receipt_check.specs.Held.{bytes_in}
use Rattle.receipt_check.specs.Pair.{short_text}
use Rattle.receipt_check.proofs.pairs.texts_of.Given as goal

abbrev pub invariant-loop-k : goal.invariant-loop-k
invariant-loop-k l = bytes_in l.receipt_texts.items ≡ map short_text (take l.k (bytes_in l.receipt_files))
