use Rattle.std.proofs.Common.{◌≡◌, ℕ, ◌⊎◌, inl, inr, Bool, true, false, Option, Some, sym, ap, ◌∙◌, arith}
use Rattle.match_model.specs.Instance.{Instance, list_at, is_withdrawn, IsInstance, Acceptable, list_of_resident, rank}
use Rattle.match_model.specs.Written.{Written}
use Rattle.match_model.specs.Placement.{IsMemberOf}
use Rattle.match_reasons.proofs.Ranks.{ranked, unranked}
use Rattle.match_reasons.proofs.Kept.{lists_of_pair, written_parts, acceptable_written}
use Rattle.match_reasons.proofs.Firsts.{asks, before_none, before_unlisted, before_later, first_unranked, first_matched, first_better}
use Rattle.match_reasons.proofs.asking.residents_reason.Goals as goal

-- a fact about an instance or lists holds for an equal instance or equal lists
resident_stays : (i j : Instance) (r : ℕ) (b : Bool) → i ≡ j → b ≡ is_withdrawn i.residents_withdrawn r → b ≡ false → is_withdrawn j.residents_withdrawn r ≡ false
resident_stays i j r b e f g = sym (ap (λ (k : Instance). is_withdrawn k.residents_withdrawn r) e) ∙ sym f ∙ g

programme_stays : (i j : Instance) (p : ℕ) (b : Bool) → i ≡ j → b ≡ is_withdrawn i.programmes_withdrawn p → b ≡ false → is_withdrawn j.programmes_withdrawn p ≡ false
programme_stays i j p b e f g = sym (ap (λ (k : Instance). is_withdrawn k.programmes_withdrawn p) e) ∙ sym f ∙ g

rank_mutual : (i j : Instance) (r p : ℕ) (o : Option ℕ) → i ≡ j → o ≡ rank (list_of_resident i r) p → o ≡ rank (list_of_resident j r) p
rank_mutual i j r p o e f = f ∙ ap (λ (k : Instance). rank (list_of_resident k r) p) e

rank_written : (v w : Written) (r p : ℕ) (o : Option ℕ) → v ≡ w → o ≡ rank (list_at v.resident_lists r) p → o ≡ rank (list_at w.resident_lists r) p
rank_written v w r p o e f = f ∙ ap (λ (x : Written). rank (list_at x.resident_lists r) p) e

-- if neither flag is set, neither member is withdrawn
here : (a b : Bool) → a ≡ false → b ≡ false → (a ≡ true) ⊎ (b ≡ true) → ⊥
here a b e f (inl c) = cc
here a b e f (inr c) = cc

pub returns-in_default-rank_at_resident-clause-first : goal.returns-in_default-rank_at_resident-clause-first
returns-in_default-rank_at_resident-clause-first c =
    let w = lists_of_pair c.args.listed.now.instance c.args.listed.now.written c.args.resident c.args.programme c.instance-inst.ensures.lists in
    let resident = resident_stays _ _ _ _ c.instance-inst.ensures.instance c.resident_withdrawn.ensures c.if-resident_withdrawn.false in
    let programme = programme_stays _ _ _ _ c.instance-inst.ensures.instance c.programme_withdrawn.ensures c.if-programme_withdrawn.false in
    let listed = (ranked (list_at c.args.listed.now.written.resident_lists c.args.resident) c.args.programme c.in-Some.rank (sym c.in-Some.is ∙ rank_written _ _ _ _ _ c.lists-written_lists.ensures c.rank_of_programme.ensures)).0 in
    first_unranked c.args.listed.now.instance (list_at c.args.listed.now.written.resident_lists c.args.resident) (list_at c.args.listed.now.written.programme_lists c.args.programme) c.args.sheet.now c.args.resident c.args.programme (here _ _ resident programme) listed
    (λ ranks. unranked (list_of_resident c.args.listed.now.instance c.args.resident) c.args.programme (sym c.in_default-rank_at_resident.is ∙ rank_mutual _ _ _ _ _ c.instance-inst.ensures.instance c.rank_at_resident.ensures)
    ((c.instance-inst.ensures.whole.both_rank c.args.programme c.args.resident).0
    (acceptable_written c.args.listed.now.instance c.args.resident c.args.programme (list_at c.args.listed.now.written.resident_lists c.args.resident) (list_at c.args.listed.now.written.programme_lists c.args.programme) w listed ranks resident programme)))

-- a resident and a programme that has a rank on the resident's list are an acceptable pair
acceptable : (inst : Instance) → IsInstance inst → (r p k : ℕ) → Some k ≡ rank (list_of_resident inst r) p → Acceptable inst r p
acceptable inst is r p k e = (is.both_rank p r).1 (ranked (list_of_resident inst r) p k e).0

pub returns-then-is_member-clause-first : goal.returns-then-is_member-clause-first
returns-then-is_member-clause-first c =
    let w = lists_of_pair c.args.listed.now.instance c.args.listed.now.written c.args.resident c.args.programme c.instance-inst.ensures.lists in
    let resident = resident_stays _ _ _ _ c.instance-inst.ensures.instance c.resident_withdrawn.ensures c.if-resident_withdrawn.false in
    let programme = programme_stays _ _ _ _ c.instance-inst.ensures.instance c.programme_withdrawn.ensures c.if-programme_withdrawn.false in
    let pair = acceptable c.args.listed.now.instance c.instance-inst.ensures.whole c.args.resident c.args.programme c.in-Some-rank_at_resident.field-0 (sym c.in-Some-rank_at_resident.is ∙ rank_mutual _ _ _ _ _ c.instance-inst.ensures.instance c.rank_at_resident.ensures) in
    let both = written_parts c.args.listed.now.instance c.args.resident c.args.programme (list_at c.args.listed.now.written.resident_lists c.args.resident) (list_at c.args.listed.now.written.programme_lists c.args.programme) w pair in
    first_matched c.args.listed.now.instance (list_at c.args.listed.now.written.resident_lists c.args.resident) (list_at c.args.listed.now.written.programme_lists c.args.programme) c.args.sheet.now c.args.resident c.args.programme (here _ _ resident programme) both.0 both.1 (c.is_member.ensures.0 c.if-is_member.true)

pub returns-in_default-get-clause-first : goal.returns-in_default-get-clause-first
returns-in_default-get-clause-first c =
    let w = lists_of_pair c.args.listed.now.instance c.args.listed.now.written c.args.resident c.args.programme c.instance-inst.ensures.lists in
    let pair = acceptable c.args.listed.now.instance c.instance-inst.ensures.whole c.args.resident c.args.programme c.in-Some-rank_at_resident.field-0 (sym c.in-Some-rank_at_resident.is ∙ rank_mutual _ _ _ _ _ c.instance-inst.ensures.instance c.rank_at_resident.ensures) in
    asks c.args.listed.now.instance c.instance-inst.ensures.whole (list_at c.args.listed.now.written.resident_lists c.args.resident) (list_at c.args.listed.now.written.programme_lists c.args.programme) c.args.sheet.now c.args.resident c.args.programme w c.requires.resident pair
    (λ m. let t = c.is_member.ensures.1 m in let f = c.if-is_member.false in cc)
    (before_none (list_at c.args.listed.now.written.resident_lists c.args.resident) c.args.sheet.now c.args.resident c.args.programme (sym c.get.ensures ∙ c.in_default-get.is))

pub returns-in_default-rank_of_programme-clause-first : goal.returns-in_default-rank_of_programme-clause-first
returns-in_default-rank_of_programme-clause-first c =
    let w = lists_of_pair c.args.listed.now.instance c.args.listed.now.written c.args.resident c.args.programme c.instance-inst.ensures.lists in
    let own : ℕ = c.in-Some-get.own_programme in
    let pair = acceptable c.args.listed.now.instance c.instance-inst.ensures.whole c.args.resident c.args.programme c.in-Some-rank_at_resident.field-0 (sym c.in-Some-rank_at_resident.is ∙ rank_mutual _ _ _ _ _ c.instance-inst.ensures.instance c.rank_at_resident.ensures) in
    asks c.args.listed.now.instance c.instance-inst.ensures.whole (list_at c.args.listed.now.written.resident_lists c.args.resident) (list_at c.args.listed.now.written.programme_lists c.args.programme) c.args.sheet.now c.args.resident c.args.programme w c.requires.resident pair
    (λ m. let t = c.is_member.ensures.1 m in let f = c.if-is_member.false in cc)
    (before_unlisted (list_at c.args.listed.now.written.resident_lists c.args.resident) c.args.sheet.now c.args.resident c.args.programme c.in-Some.rank own (sym c.in-Some.is ∙ rank_written _ _ _ _ _ c.lists-written_lists.ensures c.rank_of_programme.ensures) (sym c.get.ensures ∙ c.in-Some-get.is)
    (sym c.in_default-rank_of_programme.is ∙ rank_written _ _ _ _ _ c.lists-written_lists.ensures c.rank_of_programme-2.ensures))

pub returns-then-own_rank-rank-clause-first : goal.returns-then-own_rank-rank-clause-first
returns-then-own_rank-rank-clause-first c =
    let w = lists_of_pair c.args.listed.now.instance c.args.listed.now.written c.args.resident c.args.programme c.instance-inst.ensures.lists in
    let resident = resident_stays _ _ _ _ c.instance-inst.ensures.instance c.resident_withdrawn.ensures c.if-resident_withdrawn.false in
    let programme = programme_stays _ _ _ _ c.instance-inst.ensures.instance c.programme_withdrawn.ensures c.if-programme_withdrawn.false in
    let pair = acceptable c.args.listed.now.instance c.instance-inst.ensures.whole c.args.resident c.args.programme c.in-Some-rank_at_resident.field-0 (sym c.in-Some-rank_at_resident.is ∙ rank_mutual _ _ _ _ _ c.instance-inst.ensures.instance c.rank_at_resident.ensures) in
    let both = written_parts c.args.listed.now.instance c.args.resident c.args.programme (list_at c.args.listed.now.written.resident_lists c.args.resident) (list_at c.args.listed.now.written.programme_lists c.args.programme) w pair in
    first_better c.args.listed.now.instance (list_at c.args.listed.now.written.resident_lists c.args.resident) (list_at c.args.listed.now.written.programme_lists c.args.programme) c.args.sheet.now c.args.resident c.args.programme (here _ _ resident programme) both.1
    (λ m. let t = c.is_member.ensures.1 m in let f = c.if-is_member.false in cc) c.in-Some-get.own_programme c.in-Some-rank_of_programme.own_rank c.in-Some.rank (record {
      has_own = sym c.get.ensures ∙ c.in-Some-get.is;
      own_ranked = sym (rank_written _ _ _ _ _ c.lists-written_lists.ensures c.rank_of_programme-2.ensures) ∙ c.in-Some-rank_of_programme.is;
      ranked = sym (rank_written _ _ _ _ _ c.lists-written_lists.ensures c.rank_of_programme.ensures) ∙ c.in-Some.is;
      before = c.if-own_rank-rank.true;
    })

pub returns-else-own_rank-rank-clause-first : goal.returns-else-own_rank-rank-clause-first
returns-else-own_rank-rank-clause-first c =
    let w = lists_of_pair c.args.listed.now.instance c.args.listed.now.written c.args.resident c.args.programme c.instance-inst.ensures.lists in
    let own : ℕ = c.in-Some-get.own_programme in
    let not : IsMemberOf c.args.sheet.now c.args.resident c.args.programme → ⊥ = λ m. let t = c.is_member.ensures.1 m in let f = c.if-is_member.false in cc in
    let pair = acceptable c.args.listed.now.instance c.instance-inst.ensures.whole c.args.resident c.args.programme c.in-Some-rank_at_resident.field-0 (sym c.in-Some-rank_at_resident.is ∙ rank_mutual _ _ _ _ _ c.instance-inst.ensures.instance c.rank_at_resident.ensures) in
    asks c.args.listed.now.instance c.instance-inst.ensures.whole (list_at c.args.listed.now.written.resident_lists c.args.resident) (list_at c.args.listed.now.written.programme_lists c.args.programme) c.args.sheet.now c.args.resident c.args.programme w c.requires.resident pair not
    (before_later (list_at c.args.listed.now.written.resident_lists c.args.resident) c.args.sheet.now c.args.resident c.args.programme c.in-Some-rank_of_programme.own_rank c.in-Some.rank own (sym c.in-Some.is ∙ rank_written _ _ _ _ _ c.lists-written_lists.ensures c.rank_of_programme.ensures)
    (sym c.get.ensures ∙ c.in-Some-get.is) (sym c.in-Some-rank_of_programme.is ∙ rank_written _ _ _ _ _ c.lists-written_lists.ensures c.rank_of_programme-2.ensures) (omega arith) not)
