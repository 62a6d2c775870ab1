use Rattle.std.proofs.Common.{List, ℕ}
use Rattle.reasons_text.specs.Naming.{IsMeantBelow, is_meant, side_of}
use Rattle.reasons_text.specs.Numbers.{owner_in}
use Rattle.reasons_text.proofs.labels.owners.Given as goal

abbrev pub invariant-loop-number : goal.invariant-loop-number
invariant-loop-number l = (text : List ℕ) → IsMeantBelow (is_meant l.docket l.side (side_of l.side_key) text) l.number (owner_in l.owners text)
