use Rattle.std.proofs.Common.{map, take}
use Rattle.docket.specs.Texts.{resident_name}
use Rattle.seal_text.specs.Texts.{Extends}
use Rattle.seal_text.proofs.texts.push_residents.Given as goal

abbrev pub invariant-loop-k : goal.invariant-loop-k
invariant-loop-k l = Extends l.initial.row l.row (take l.k (map (resident_name l.docket) l.list))
