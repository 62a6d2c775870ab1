use Rattle.std.proofs.Common.{◌≡◌, [], map, replicate}
use Rattle.std.specs.Prelude.{string_bytes}
use Rattle.reasons_text.proofs.key.empty_texts.Given as goal

abbrev pub invariant-loop-n : goal.invariant-loop-n
invariant-loop-n l = map string_bytes l.texts.items ≡ replicate l._n []
