use Rattle.docket_names.proofs.NameFacts.{name_at}
use Rattle.docket_names.proofs.texts.Texts.known.Goals as goal

pub returns-clause-named : goal.returns-clause-named
returns-clause-named c = λ on. name_at c.args.self.now c.in_ok-number.number c.args.text.now (rw c.self.view_is at c.self.invariant.0) c.in_ok-number.ensures
