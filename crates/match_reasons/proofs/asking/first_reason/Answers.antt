use Rattle.std.proofs.Common.{◌≡◌, ℕ, Option, sym, ap, ◌∙◌, subst}
use Rattle.match_model.specs.Instance.{Instance, list_at, quota, rank}
use Rattle.match_model.specs.Written.{Written}
use Rattle.match_reasons.specs.Reason.{IsFirst, HasRoomAt}
use Rattle.match_reasons.specs.declared.reason.Why.TheVariants.{Full}
use Rattle.match_reasons.proofs.Ranks.{unranked}
use Rattle.match_reasons.proofs.Kept.{lists_of_pair, written_parts}
use Rattle.match_reasons.proofs.Firsts.{first_blocking, first_full}
use Rattle.match_reasons.proofs.asking.first_reason.Goals as goal

-- a fact about an instance or lists holds for an equal instance or equal lists
quota_is : (i j : Instance) (p n : ℕ) → i ≡ j → n ≡ quota i p → n ≡ quota j p
quota_is i j p n e f = f ∙ ap (λ (k : Instance). quota k p) e

rank_written : (v w : Written) (p r : ℕ) (o : Option ℕ) → v ≡ w → o ≡ rank (list_at v.programme_lists p) r → o ≡ rank (list_at w.programme_lists p) r
rank_written v w p r o e f = f ∙ ap (λ (x : Written). rank (list_at x.programme_lists p) r) e

-- a resident who gets `Full` or `Blocking` has a rank on the programme's list
pub returns-in_default-rank_of_resident-clause-first : goal.returns-in_default-rank_of_resident-clause-first
returns-in_default-rank_of_resident-clause-first c =
    let w = lists_of_pair c.args.listed.now.instance c.args.listed.now.written c.args.resident c.args.programme c.instance-inst.ensures.lists in
    let listed = (written_parts c.args.listed.now.instance c.args.resident c.args.programme (list_at c.args.listed.now.written.resident_lists c.args.resident) (list_at c.args.listed.now.written.programme_lists c.args.programme) w c.in_default.ensures.first.wants.acceptable).1 in
    absurd (unranked (list_at c.args.listed.now.written.programme_lists c.args.programme) c.args.resident (sym c.in_default-rank_of_resident.is ∙ rank_written _ _ _ _ _ c.lists-written_lists.ensures c.rank_of_resident.ensures) listed)

pub returns-then-has_room-clause-first : goal.returns-then-has_room-clause-first
returns-then-has_room-clause-first c =
    let w = lists_of_pair c.args.listed.now.instance c.args.listed.now.written c.args.resident c.args.programme c.instance-inst.ensures.lists in
    let room = subst (λ q. HasRoomAt c.args.taken.now q c.in-Some-rank_of_resident.rank) (quota_is _ _ _ _ c.instance-inst.ensures.instance c.quota-quota.ensures) (c.has_room.ensures.0 c.if-has_room.true) in
    first_blocking c.args.listed.now.instance c.instance-inst.ensures.whole (list_at c.args.listed.now.written.resident_lists c.args.resident) (list_at c.args.listed.now.written.programme_lists c.args.programme) c.args.sheet.now c.args.resident c.args.programme c.in-Some-rank_of_resident.rank c.args.taken.now
    w c.requires.programme c.in_default.ensures.first (sym c.in-Some-rank_of_resident.is ∙ rank_written _ _ _ _ _ c.lists-written_lists.ensures c.rank_of_resident.ensures) c.requires.taken room

pub returns-clause-first : goal.returns-clause-first
returns-clause-first c =
    subst (λ z. IsFirst c.args.listed.now.instance (list_at c.args.listed.now.written.resident_lists c.args.resident) (list_at c.args.listed.now.written.programme_lists c.args.programme) c.args.sheet.now c.args.resident c.args.programme (Full c.in-Some-rank_of_resident.rank c.args.taken.now.last z)) (sym (quota_is _ _ _ _ c.instance-inst.ensures.instance c.quota-quota.ensures))
    (first_full c.args.listed.now.instance (list_at c.args.listed.now.written.resident_lists c.args.resident) (list_at c.args.listed.now.written.programme_lists c.args.programme) c.args.sheet.now c.args.resident c.args.programme c.in-Some-rank_of_resident.rank c.args.taken.now
    c.in_default.ensures.first (sym c.in-Some-rank_of_resident.is ∙ rank_written _ _ _ _ _ c.lists-written_lists.ensures c.rank_of_resident.ensures) c.requires.taken
    (λ room. let t = c.has_room.ensures.1 (subst (λ q. HasRoomAt c.args.taken.now q c.in-Some-rank_of_resident.rank) (sym (quota_is _ _ _ _ c.instance-inst.ensures.instance c.quota-quota.ensures)) room) in let f = c.if-has_room.false in absurd (cc)))
