use Rattle.std.proofs.Common.{inl, inr, arith, refl}
use Rattle.match_audit.proofs.Loads.{room_at}
use Rattle.match_audit.proofs.findings.has_room_for.Goals as goal

pub returns-then-has_fewer_than : goal.returns-then-has_fewer_than
returns-then-has_fewer_than c = λ m h.
    let room = room_at c.args.inst.now m c.args.programme c.args.resident c.programme.inside.0 c.args.loads.now (record { members = 0; worst_rank = 0 }) h c.requires.member c.programme.view_is in
    let free = c.has_fewer_than.ensures.0 c.if-has_fewer_than.true in
    let quota = c.quota.ensures in
    (λ t. room.0 (inl (omega arith)), λ k. refl)

pub returns : goal.returns
returns c = λ m h.
    let room = room_at c.args.inst.now m c.args.programme c.args.resident c.programme.inside.0 c.args.loads.now (record { members = 0; worst_rank = 0 }) h c.requires.member c.programme.view_is in
    let quota = c.quota.ensures in
    let place = c.rank_or_length.ensures in
    let after = c.has_member_after.ensures in (
      λ t. let later = after.0 t in room.0 (inr (omega arith)),
      λ k. elim (room.1 k) [
        | inl free ↦ let t = c.has_fewer_than.ensures.1 (omega arith) in let f = c.if-has_fewer_than.false in absurd (cc)
        | inr later ↦ after.1 (omega arith)
      ],
    )
