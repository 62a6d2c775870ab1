use Rattle.std.proofs.Common.{arith, false}
use Rattle.docket_names.proofs.MemberFacts.{padded}
use Rattle.docket_names.proofs.name_set.reach.Goals as goal

pub returns-clause-kept : goal.returns-clause-kept
returns-clause-kept c = λ n. rw c.in_ok-resize.ensures.items (padded false _ _ _ n (omega arith))
