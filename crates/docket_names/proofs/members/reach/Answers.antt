use Rattle.std.proofs.Common.{arith}
use Rattle.docket_names.proofs.MemberFacts.{found_wider}
use Rattle.docket_names.proofs.members.reach.Goals as goal

pub returns-clause-kept : goal.returns-clause-kept
returns-clause-kept c = λ texts h. rw c.in_ok-resize.ensures.items (found_wider _ texts _ _ h (omega arith))
