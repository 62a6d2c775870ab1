use Rattle.std.proofs.Common.{ℕ, List, subst, arith}
use Rattle.std.specs.Prelude.{vec_capacity}
use Rattle.desk_scheduler.specs.Desks.{AreListed}
use Rattle.desk_scheduler.proofs.Listed.{top_within, top_taken}
use Rattle.desk_scheduler.proofs.side.Side.next.Goals as goal

pub index_mut-requires : goal.index_mut-requires
index_mut-requires c =
    let are = subst (λ (ns : List ℕ). AreListed c.self.inside.places.items ns c.self.inside.second_tier.items (vec_capacity c.self.inside.first_tier) (vec_capacity c.self.inside.second_tier)) c.in-Some.ensures.items c.self.invariant in
    omega (arith, top_within _ _ _ _ _ _ are)

pub invariant_of-self : goal.invariant_of-self
invariant_of-self c =
    let are = subst (λ (ns : List ℕ). AreListed c.self.inside.places.items ns c.self.inside.second_tier.items (vec_capacity c.self.inside.first_tier) (vec_capacity c.self.inside.second_tier)) c.in-Some.ensures.items c.self.invariant in
    let taken = top_taken _ _ _ _ _ _ are in
    record { once = taken.once; as_many = taken.as_many; room = omega (arith, taken.room, c.in-Some.ensures.capacity); room_behind = taken.room_behind }
