use Rattle.reasons_text.specs.Naming.{IsMeantBelow, means, naming_of}
use Rattle.reasons_text.proofs.names.Names.meant.Given as goal

abbrev pub invariant-loop-number : goal.invariant-loop-number
invariant-loop-number l = IsMeantBelow (means (naming_of l.self) l.side l.text) l.number l.meant
