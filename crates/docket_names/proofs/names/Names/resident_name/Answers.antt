use Rattle.std.proofs.Common.{ap, length}
use Rattle.docket_names.specs.Texts.{NamesBySide}
use Rattle.docket_names.proofs.TextFacts.{place_of_number}
use Rattle.docket_names.proofs.names.Names.resident_name.Goals as goal

pub name_of-requires-clause-member : goal.name_of-requires-clause-member
name_of-requires-clause-member c =
    place_of_number c.self.inside.texts c.self.inside.residents c.args.number (rw (ap (λ (v : NamesBySide). length v.residents) c.self.view_is) c.requires)
