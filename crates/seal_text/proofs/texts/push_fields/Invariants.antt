use Rattle.std.proofs.Common.{take}
use Rattle.csv.specs.Records.{fields_of}
use Rattle.seal_text.specs.Texts.{Extends}
use Rattle.seal_text.proofs.texts.push_fields.Given as goal

abbrev pub invariant-loop-k : goal.invariant-loop-k
invariant-loop-k l = Extends l.initial.row l.row (take l.k (fields_of l.fields))
