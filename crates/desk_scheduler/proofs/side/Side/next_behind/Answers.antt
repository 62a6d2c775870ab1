use Rattle.std.proofs.Common.{ℕ, List, subst, arith}
use Rattle.std.specs.Prelude.{vec_capacity}
use Rattle.desk_scheduler.specs.Desks.{AreListed}
use Rattle.desk_scheduler.proofs.Listed.{swapped, top_within, top_taken}
use Rattle.desk_scheduler.proofs.side.Side.next_behind.Goals as goal

pub index_mut-requires : goal.index_mut-requires
index_mut-requires c =
    let are = subst (λ (ns : List ℕ). AreListed c.self.inside.places.items c.self.inside.first_tier.items ns (vec_capacity c.self.inside.first_tier) (vec_capacity c.self.inside.second_tier)) c.in_ok-desk.ensures.items c.self.invariant in
    omega (arith, top_within _ _ _ _ _ _ (swapped _ _ _ _ _ are))

pub invariant_of-self-2 : goal.invariant_of-self-2
invariant_of-self-2 c =
    let are = subst (λ (ns : List ℕ). AreListed c.self.inside.places.items c.self.inside.first_tier.items ns (vec_capacity c.self.inside.first_tier) (vec_capacity c.self.inside.second_tier)) c.in_ok-desk.ensures.items c.self.invariant in
    let kept = swapped _ _ _ _ _ (top_taken _ _ _ _ _ _ (swapped _ _ _ _ _ are)) in
    record { once = kept.once; as_many = kept.as_many; room = kept.room; room_behind = omega (arith, kept.room_behind, c.in_ok-desk.ensures.capacity) }
