-- Why the placement in good receipts that agree is stable.
use Rattle.std.proofs.Common.{◌≡◌, ℕ, inl, inr, Bool, true, false, List, length, arith, refl, sym, ap, ◌∙◌, subst}
use Rattle.std.specs.Prelude.{Option, Some, None}
use Rattle.std.proofs.lemmas.Bool.{cases_lt}
use Rattle.match_model.specs.Ranking.{place, IsListed, is_listed, IsBefore}
use Rattle.match_model.specs.Instance.{Instance, IsInstance, Acceptable, list_at, is_withdrawn, list_of_programme, list_of_resident, quota}
use Rattle.match_model.specs.Written.{Written, AreWritten}
use Rattle.match_model.specs.Placement.{programme_of, IsMemberOf, member_count}
use Rattle.match_model.proofs.Listed.{same_from_place}
use Rattle.match_model.proofs.Instances.{acceptable_programme, acceptable_resident}
use Rattle.settle_law.specs.Stable.{Prefers, HasRoomFor, Blocks, IsStable}
use Rattle.settle_law.proofs.Counting.{different_among}
use Rattle.settle_law.proofs.Placements.{members_of, length-members_of, members_differ, member_from_listed, member_listed}
use Rattle.settle_law.proofs.Places.{before_from_not_after}
use Rattle.std.proofs.lemmas.Option.{same_Some}
use Rattle.std.proofs.lemmas.List.Sums.{count_by-le-length}
use Rattle.match_reasons.proofs.Ranks.{ranked}
use Rattle.match_reasons.proofs.Firsts.{not_withdrawn}
use Rattle.match_reasons.proofs.Kept.{AreListsOf, lists_of_pair, resident_before, programme_before, written_parts, acceptable_written}
use Rattle.match_reasons.specs.Reason.{HasWithdrawn}
use Rattle.match_reasons.specs.Pairs.{IsPassed, IsPast, IsLastTold, IsLastOfMembers, Fits, IsGoodResident, IsGoodProgramme, Agree, PairsLaw}
use Rattle.match_reasons.specs.declared.reason.Why.{Why}
use Rattle.match_reasons.specs.declared.reason.Why.TheVariants.{Withdrawn, NotListed, NotRanked, Matched, PrefersOwn, Full, Blocking}

stay : (c b : Bool) → c ≡ b → (c ≡ true → ⊥) → c ≡ false
stay c true e n = absurd (n e)
stay c false e n = e

not_both : Withdrawn ≡ Matched → ⊥
not_both e = absurd cc

module _ (inst : Instance) (written : Written) (m : List (Option ℕ)) (members : ℕ → List ℕ) (why : ℕ → ℕ → Why)
    (is : IsInstance inst) (made : AreWritten inst written)
    (residents : (r : ℕ) → IsGoodResident (list_at written.resident_lists r) (programme_of m r) (why r))
    (programmes : (p : ℕ) → IsGoodProgramme (list_at written.programme_lists p) (members p) (quota inst p))
    (agree : (r p : ℕ) → Agree inst (list_at written.resident_lists r) (list_at written.programme_lists p) (members p) r p (why r p)) where
  lists : (r p : ℕ) → AreListsOf inst r p (list_at written.resident_lists r) (list_at written.programme_lists p)
  lists r p = lists_of_pair inst written r p made

  -- the reason for a resident's own programme is `matched`
  told_matched : (r p : ℕ) → IsMemberOf m r p → why r p ≡ Matched
  told_matched r p e = let listed = (residents r).own_listed p e in ((residents r).reasons p listed).at e

  told_member : (r p : ℕ) → IsMemberOf m r p → IsListed (members p) r
  told_member r p e =
      let listed = (residents r).own_listed p e in
      subst (λ (w : Why). Fits inst (list_at written.programme_lists p) (members p) r p w) (told_matched r p e) ((agree r p).fits listed)

  acceptable : (r p : ℕ) → IsMemberOf m r p → Acceptable inst r p
  acceptable r p e =
      let listed = (residents r).own_listed p e in
      let theirs = (programmes p).listed r (told_member r p e) in
      let stays = λ (w : HasWithdrawn inst r p). not_both (sym ((agree r p).withdrawn listed w) ∙ told_matched r p e) in
      acceptable_written inst r p _ _ (lists r p) listed theirs
      (stay (is_withdrawn inst.residents_withdrawn r) _ refl (λ w. stays (inl w)))
      (stay (is_withdrawn inst.programmes_withdrawn p) _ refl (λ w. stays (inr w)))

  -- only a resident's own programme has the reason `matched`
  own_from_matched : (r p : ℕ) (o : Option ℕ) → programme_of m r ≡ o → IsListed (list_at written.resident_lists r) p → why r p ≡ Matched → IsMemberOf m r p
  own_from_matched r p None e listed matched =
      let none : programme_of m r ≡ Some p → ⊥ = λ f. (let g : None ≡ Some p = sym e ∙ f in absurd cc) in
      let would : Prefers (list_at written.resident_lists r) p (programme_of m r) = subst (Prefers (list_at written.resident_lists r) p) (sym e) tt in
      absurd (subst IsPassed matched (((residents r).reasons p listed).before would none))
  own_from_matched r p (Some q) e listed matched =
      let own = (residents r).own_listed q e in
      let stands = (residents r).reasons p listed in
      elim (cases_lt (place (list_at written.resident_lists r) p) (place (list_at written.resident_lists r) q)) [
        | inl c ↦
            let other : programme_of m r ≡ Some p → ⊥ = λ f. (let g : q ≡ p = same_Some q p (sym e ∙ f) in let h = ap (place (list_at written.resident_lists r)) g in omega arith) in
            absurd (subst IsPassed matched (stands.before (subst (Prefers (list_at written.resident_lists r) p) (sym e) c) other))
        | inr c ↦ elim (cases_lt (place (list_at written.resident_lists r) q) (place (list_at written.resident_lists r) p)) [
          | inl d ↦ absurd (subst IsPast matched (stands.after q e d))
          | inr d ↦ let same : q ≡ p = same_from_place (list_at written.resident_lists r) q p own (omega arith) in e ∙ ap Some same
        ]
      ]

  is_member : (r p : ℕ) → IsListed (members p) r → IsMemberOf m r p
  is_member r p l = let told = (agree r p).member l in own_from_matched r p (programme_of m r) refl told.0 told.1

  -- a programme's receipt has as many members as the placement gives the programme
  same_count : (p : ℕ) → member_count m p ≡ length (members p)
  same_count p =
      let most = different_among (members_of m p) (members p) (members_differ m p) (λ r l. told_member r p (member_from_listed m p r l)) in
      let least = different_among (members p) (members_of m p) (programmes p).none_twice (λ r l. member_listed m p r (is_member r p l)) in
      let all = length-members_of m p in
      let a = count_by-le-length (is_listed (members p)) (members_of m p) in
      let b = count_by-le-length (is_listed (members_of m p)) (members p) in
      omega arith

  -- a programme that a resident would rather have has no room for the resident
  no_room : (r p : ℕ) (w : Why) → Acceptable inst r p → Fits inst (list_at written.programme_lists p) (members p) r p w → IsPassed w → HasRoomFor inst m p r → ⊥
  no_room r p Withdrawn a f g room = not_withdrawn inst is r p a f
  no_room r p NotRanked a f g room = f (written_parts inst r p _ _ (lists r p) a).1
  no_room r p NotListed a f g room = f
  no_room r p Matched a f g room = g
  no_room r p (PrefersOwn own i j) a f g room = g
  no_room r p Blocking a f g room = f
  no_room r p (Full rank last q) a f g (inl free) =
      let n = same_count p in let full = f.all_filled in omega arith
  no_room r p (Full rank last q) a f g (inr some) = past last f.last_is g some.0 some.1 some.2
    where
      past : (o : Option ℕ) → IsLastOfMembers (list_at written.programme_lists p) (members p) o → IsLastTold rank o q →
          (s : ℕ) → IsMemberOf m s p → IsBefore (list_of_programme inst p) r s → ⊥
      past None l t s e b = l s (told_member s p e)
      past (Some k) l t s e b =
          let le = l.1 s (told_member s p e) in
          let at = (ranked (list_at written.programme_lists p) r rank (sym f.ranked)).1 in
          let within = acceptable_programme inst is r p a in
          let before = programme_before inst s p _ _ s r (lists s p) (let one = is.one_list_each in omega arith) (acceptable s p e) (omega arith) in
          omega arith

  -- a programme that a resident would rather have by the instance's lists, the resident would also rather have by the
  -- written list
  would_written : (r p : ℕ) (o : Option ℕ) → programme_of m r ≡ o → Acceptable inst r p → (IsMemberOf m r p → ⊥) → Prefers (list_of_resident inst r) p o →
      Prefers (list_at written.resident_lists r) p o
  would_written r p None e a n w = tt
  would_written r p (Some q) e a n w =
      before_from_not_after (list_at written.resident_lists r) p q (written_parts inst r p _ _ (lists r p) a).0
      (λ same. n (e ∙ ap Some (sym same)))
      (λ b.
      let own = acceptable r q e in
      let within = acceptable_resident inst is r p a in
      let back = resident_before inst r q _ _ q p (lists r q) within ((is.both_rank q r).0 own) b in
      omega arith
      )

  none_blocks : (r p : ℕ) → Blocks inst m r p → ⊥
  none_blocks r p b =
      let listed = (written_parts inst r p _ _ (lists r p) b.acceptable).0 in
      let would = would_written r p (programme_of m r) refl b.acceptable b.not_placed b.resident_would in
      no_room r p (why r p) b.acceptable ((agree r p).fits listed) (((residents r).reasons p listed).before would b.not_placed) b.programme_would

  tells_stable : length m ≡ length inst.resident_lists → IsStable inst m
  tells_stable each = record {
    is_assignment = record {
      one_place_each = each;
      pairs_acceptable = acceptable;
      quotas_kept = λ p. (let n = same_count p in let fits = (programmes p).fits in omega arith);
    };
    nothing_blocks = none_blocks;
  }

pub pairs : PairsLaw
pairs inst written m members why is made each residents programmes agree = tells_stable inst written m members why is made residents programmes agree each
