use Rattle.std.proofs.Common.{refl}
use Rattle.seal_text.proofs.ServeFacts.{lists_counted, results_counted}
use Rattle.seal_text.proofs.serve.text_of_case.Goals as goal

pub text_of-requires-clause-lists : goal.text_of-requires-clause-lists
text_of-requires-clause-lists c =
    let has = c.requires.lists in
    let texts = rw c.docket.ensures at (c.in_ok-lists.ensures has.draft (rw c.written.ensures has.are_of)) in
    rw c.docket-2.ensures (lists_counted c.args.case.now.docket has.draft c.args.real_names.now c.in_ok-lists.lists.items texts)

pub text_of-requires-clause-outcome : goal.text_of-requires-clause-outcome
text_of-requires-clause-outcome c =
    rw c.docket-2.ensures (results_counted c.args.case.now c.in_ok-outcome.outcome.items c.in_ok-outcome.ensures)
