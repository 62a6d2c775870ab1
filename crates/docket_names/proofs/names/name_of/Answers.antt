use Rattle.docket_names.proofs.NameFacts.{IsUtf8-is_name}
use Rattle.docket_names.proofs.TextFacts.{name_there}
use Rattle.docket_names.proofs.names.name_of.Goals as goal

pub text-requires-2 : goal.text-requires-2
text-requires-2 c = rw c.text.ensures (c.requires.names.within c.args.number 0 c.requires.member)

pub unreachable-requires : goal.unreachable-requires
unreachable-requires c =
    let at = rw c.text.ensures at c.text-2.ensures in
    let there = name_there c.args.texts.now c.args.members.now c.args.number c.text-2.result.now c.requires.member c.requires.names at in
    c.in-Err.ensures.cases.0 (IsUtf8-is_name c.text-2.result.now there.1)

pub returns : goal.returns
returns c =
    let at = rw c.text.ensures at c.text-2.ensures in
    let there = name_there c.args.texts.now c.args.members.now c.args.number c.text-2.result.now c.requires.member c.requires.names at in
    rw c.in-Ok.ensures.cases.0 there.0
