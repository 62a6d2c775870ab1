use Rattle.std.proofs.Common.{arith}
use Rattle.match_model.proofs.Drafts.{IsDraft-with_resident}
use Rattle.match_model.proofs.builder.InstanceBuilder.add_resident.Goals as goal

pub invariant_of-self-in-Ok : goal.invariant_of-self-in-Ok
invariant_of-self-in-Ok c =
    rw (c.in_ok-push.ensures.items, c.in-Ok.ensures.added) (IsDraft-with_resident _ c.self.invariant (omega (arith, c.if-number-residents.false, c.residents.ensures.number, c.len-number.ensures)))
