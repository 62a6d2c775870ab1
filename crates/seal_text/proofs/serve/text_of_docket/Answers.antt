use Rattle.seal_text.proofs.ServeFacts.{lists_counted}
use Rattle.seal_text.proofs.serve.text_of_docket.Goals as goal

pub text_of-requires-clause-lists : goal.text_of-requires-clause-lists
text_of-requires-clause-lists c =
    let has = c.requires in
    lists_counted c.args.docket.now has.draft c.args.real_names.now c.in_ok-lists.lists.items (c.in_ok-lists.ensures has.draft has.are_of)
