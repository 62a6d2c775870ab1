use Rattle.docket_names.proofs.MemberFacts.{found_none}
use Rattle.docket_names.proofs.members.Members.new.Goals as goal

pub invariant_of-result : goal.invariant_of-result
invariant_of-result c = rw (c.new.ensures.items, c.new-2.ensures.items) found_none
