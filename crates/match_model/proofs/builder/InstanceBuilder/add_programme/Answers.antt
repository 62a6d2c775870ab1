use Rattle.std.proofs.Common.{arith}
use Rattle.match_model.proofs.Drafts.{IsDraft-with_programme}
use Rattle.match_model.proofs.builder.InstanceBuilder.add_programme.Goals as goal

pub invariant_of-self-in-Ok-add_member : goal.invariant_of-self-in-Ok-add_member
invariant_of-self-in-Ok-add_member c =
    rw (c.in_ok-push.ensures.items, c.in-Ok.ensures.items, c.in-Ok-add_member.ensures.added) (IsDraft-with_programme _ _ c.self.invariant (omega (arith, c.if-number-programmes.false, c.programmes.ensures.number, c.len-number.ensures)) (omega arith))
