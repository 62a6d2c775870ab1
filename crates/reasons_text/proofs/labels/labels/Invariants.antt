use Rattle.std.proofs.Common.{map}
use Rattle.std.specs.Prelude.{string_bytes}
use Rattle.reasons_text.specs.Keys.{AreLabelsBelow}
use Rattle.reasons_text.specs.Naming.{side_of}
use Rattle.reasons_text.proofs.labels.labels.Given as goal

abbrev pub invariant-loop-number : goal.invariant-loop-number
invariant-loop-number l = AreLabelsBelow l.docket l.fn.side (side_of l.side_key) l.number (map string_bytes l.labels.items)
