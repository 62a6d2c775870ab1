use Rattle.docket.proofs.PartFacts.{given_in_files, lists_in_files}
use Rattle.docket.proofs.parts.read_parts_with_lists.Goals as goal

pub returns-clause-read : goal.returns-clause-read
returns-clause-read g c =
    lists_in_files c.args.limits c.args.docket.now c.args.sheet.now c.args.journal.now _ _ _ _ c.in-Some.is c.in_ok-docket.ensures.docket c.in_ok-docket.ensures.lists

pub returns-clause-given : goal.returns-clause-given
returns-clause-given g c =
    given_in_files c.args.limits c.args.docket.now c.args.sheet.now c.args.journal.now _ _ _ _ c.in-Some.is c.in_ok-docket.ensures.docket c.in_ok-docket.ensures.lists
