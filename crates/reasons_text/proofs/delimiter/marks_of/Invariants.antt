use Rattle.std.proofs.Common.{◌≡◌, drop}
use Rattle.reasons_text.specs.Delimiter.{marks_of, no_marks}
use Rattle.reasons_text.proofs.delimiter.marks_of.Given as goal

abbrev pub invariant-loop-byte : goal.invariant-loop-byte
invariant-loop-byte l = marks_of no_marks l.key_bytes ≡ marks_of l.marks (drop l.byte-index l.key_bytes)
