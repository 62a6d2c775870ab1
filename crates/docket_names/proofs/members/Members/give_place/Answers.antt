use Rattle.std.proofs.Common.{rules}
use Rattle.docket_names.proofs.MemberFacts.{found_more}
use Rattle.docket_names.proofs.members.Members.give_place.Goals as goal

pub invariant_of-self : goal.invariant_of-self
invariant_of-self c = c.reach.ensures.kept _ c.self.invariant

pub invariant_of-self-2 : goal.invariant_of-self-2
invariant_of-self-2 c =
    rw c.in_ok-push.ensures.items
    (found_more c.reach.new.by_text.items c.self.inside.texts.items c.args.text c.in-Ok.member (c.reach.ensures.kept _ c.self.invariant) c.in_ok-reach.ensures.within
    (rw c.self.view_is c.requires) (search (rules, c.in-Ok.ensures, c.len.ensures)))
