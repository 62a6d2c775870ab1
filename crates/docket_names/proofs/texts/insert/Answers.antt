use Rattle.docket_names.proofs.TextFacts.{key_found, starts_insert, names_insert, joined_insert}
use Rattle.docket_names.proofs.texts.insert.Goals as goal

pub returns-clause-number : goal.returns-clause-number
returns-clause-number c =
    let stored = c.in_ok-number.ensures.stored in
    key_found c.insert_full.new.self.keys stored.0 c.args.name c.in_ok-number.number stored.1 stored.2

pub returns-clause-kept : goal.returns-clause-kept
returns-clause-kept c = rw c.in_ok-number.ensures.keys (starts_insert c.args.seen_names.now.keys c.args.name _)

pub returns-clause-names : goal.returns-clause-names
returns-clause-names c = rw c.in_ok-number.ensures.keys (names_insert c.args.seen_names.now.keys c.args.name _ c.requires.names c.requires.name)

pub returns-clause-joined : goal.returns-clause-joined
returns-clause-joined c = joined_insert c.args.seen_names.now.keys _ c.args.name _ c.in_ok-number.ensures.keys
