use Rattle.std.proofs.Common.{◌≡◌, ◌<◌, length, sym, subst, arith}
use Rattle.desk_scheduler.specs.Desks.{Desks, place_of, times}
use Rattle.desk_scheduler.proofs.Listed.{has_room}
use Rattle.desk_scheduler.proofs.side.Side.put.Goals as goal

pub push_reserved-requires : goal.push_reserved-requires
push_reserved-requires c =
    let none = subst (λ (s : Desks). times (place_of s c.args.desk) ≡ 0) (sym c.self.view_is) c.requires.unlisted in
    let within = subst (λ (s : Desks). c.args.desk < length s.places) (sym c.self.view_is) c.requires.within in
    omega (arith, has_room c.self.inside.places.items c.self.inside.first_tier.items c.self.inside.second_tier.items _ _ c.args.desk c.self.invariant within none)
