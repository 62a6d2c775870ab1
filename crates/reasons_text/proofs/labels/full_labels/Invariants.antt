use Rattle.std.proofs.Common.{◌≡◌, map}
use Rattle.std.specs.List.{range_with_len}
use Rattle.std.specs.Prelude.{string_bytes}
use Rattle.reasons_text.specs.Naming.{side_of}
use Rattle.reasons_text.specs.Numbers.{full_label}
use Rattle.reasons_text.proofs.labels.full_labels.Given as goal

abbrev pub invariant-loop-number : goal.invariant-loop-number
invariant-loop-number l = map string_bytes l.labels.items ≡ map (full_label (side_of l.side_key)) (range_with_len 0 l.number)
