use Rattle.std.proofs.Common.{◌≤◌, rules}
use Rattle.docket.specs.declared.vocabulary.TheConstants.{MOST_NAMES}
use Rattle.docket.proofs.ListWalkFacts.{walked_past, walked_name}
use Rattle.docket.proofs.store.lists.add_name.Goals as goal

pub returns-then-is_some-clause-walked : goal.returns-then-is_some-clause-walked
returns-then-is_some-clause-walked c named =
    rw c.known.ensures.kept (walked_past c.args.name_texts.now c.args.name_numbers.now.items c.args.new_names.now c.args.text.now (search (rules, c.if-new_names-gt-MOST_NAMES.true)))

pub returns-else-is_some-clause-walked : goal.returns-else-is_some-clause-walked
returns-else-is_some-clause-walked c named =
    rw c.known.ensures.kept (walked_past c.args.name_texts.now c.args.name_numbers.now.items c.args.new_names.now c.args.text.now (search (rules, c.if-new_names-gt-MOST_NAMES.true)))

pub returns-clause-walked : goal.returns-clause-walked
returns-clause-walked c named =
    let few : c.args.new_names.now ≤ MOST_NAMES = search (rules, c.if-new_names-gt-MOST_NAMES.false) in
    rw c.in_ok-push_number.ensures.pushed (walked_name c.args.name_texts.now c.args.name_numbers.now.items c.args.new_names.now c.number_name.new.name_texts c.number_name.new.new_names c.in-Some.number c.args.text.now few
    (rw c.in-Some.is at c.in_ok-number.ensures.number) c.in_ok-number.ensures.joined (c.in_ok-number.ensures.counted few))
