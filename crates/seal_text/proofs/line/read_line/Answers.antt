use Rattle.std.proofs.Common.{rules, inr, subst, List, Option}
use Rattle.clap.specs.Words.{Row, Text}
use Rattle.seal_text.specs.Line.{OrdersNothing}
use Rattle.seal_text.proofs.line.read_line.Goals as goal

pub returns-clause-refused : goal.returns-clause-refused
returns-clause-refused g c =
    inr (subst (λ (found : Option (Text × List Row)). OrdersNothing found) c.in-Ok.ensures.found (c.in-None.ensures.none (search rules)), c.nothing_named.ensures)
