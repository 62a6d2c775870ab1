-- Why honest receipts over a stable placement are good and agree.
use Rattle.std.proofs.Common.{◌≡◌, ℕ, List, [], ◌∷◌, length, arith, refl, sym, ap, ◌∙◌}
use Rattle.std.specs.Prelude.{Option, Some, None}
use Rattle.std.proofs.lemmas.Bool.{lt-ltb}
use Rattle.std.proofs.lemmas.Option.{same_Some}
use Rattle.std.proofs.lemmas.List.Sums.{count_by-le-length}
use Rattle.match_model.specs.Ranking.{place, IsListed, is_listed, IsBefore}
use Rattle.match_model.specs.Instance.{Instance, IsInstance, list_at, rank}
use Rattle.match_model.specs.Written.{Written, AreWritten}
use Rattle.match_model.specs.Placement.{programme_of, IsMemberOf, member_count}
use Rattle.settle_law.specs.Stable.{Prefers, IsStable}
use Rattle.settle_law.proofs.Counting.{different_among}
use Rattle.settle_law.proofs.Placements.{members_of, length-members_of, members_differ, member_from_listed, member_listed}
use Rattle.settle_law.proofs.Places.{IsListed-cons_same}
use Rattle.match_reasons.proofs.Ranks.{ranked}
use Rattle.match_reasons.proofs.Firsts.{not_withdrawn}
use Rattle.match_reasons.proofs.Kept.{lists_of_pair, written_parts}
use Rattle.match_reasons.specs.Reason.{HasWithdrawn, IsLastPlace, IsFullBefore, IsFirst}
use Rattle.match_reasons.specs.Pairs.{IsPassed, IsPast, IsLastTold, IsLastOfMembers, Fits, AreMembersOf, HonestLaw}
use Rattle.match_reasons.specs.declared.reason.Why.{Why}
use Rattle.match_reasons.specs.declared.reason.Why.TheVariants.{Withdrawn, NotListed, NotRanked, Matched, PrefersOwn, Full, Blocking}

has_rank : (xs : List ℕ) (x : ℕ) → IsListed xs x → rank xs x ≡ Some (place xs x)
has_rank xs x l = rw (lt-ltb (place xs x) (length xs) l) refl

no_items : (xs : List ℕ) → ((x : ℕ) → IsListed xs x → ⊥) → length xs ≡ 0
no_items [] h = refl
no_items (x ∷ xs) h = absurd (h x (IsListed-cons_same x xs))

module _ (inst : Instance) (written : Written) (m : List (Option ℕ)) (members : ℕ → List ℕ) (why : ℕ → ℕ → Why)
    (is : IsInstance inst) (made : AreWritten inst written) (stable : IsStable inst m)
    (are : (p : ℕ) → AreMembersOf m p (members p)) where
  pub both : (r p : ℕ) → IsMemberOf m r p → IsListed (list_at written.resident_lists r) p × IsListed (list_at written.programme_lists p) r
  both r p e = written_parts inst r p _ _ (lists_of_pair inst written r p made) (stable.is_assignment.pairs_acceptable r p e)

  pub count : (p : ℕ) → member_count m p ≡ length (members p)
  count p =
      let most = different_among (members_of m p) (members p) (members_differ m p) (λ r l. ((are p).are r).1 (member_from_listed m p r l)) in
      let least = different_among (members p) (members_of m p) (are p).none_twice (λ r l. member_listed m p r (((are p).are r).0 l)) in
      let all = length-members_of m p in
      let a = count_by-le-length (is_listed (members p)) (members_of m p) in
      let b = count_by-le-length (is_listed (members_of m p)) (members p) in
      omega arith

  pub nobody : (p : ℕ) → ((s : ℕ) → IsMemberOf m s p → ⊥) → member_count m p ≡ 0
  nobody p h = count p ∙ no_items (members p) (λ s l. h s (((are p).are s).0 l))

  module _ (r p : ℕ) where
    pub at_own : (w : Why) → IsFirst inst (list_at written.resident_lists r) (list_at written.programme_lists p) m r p w → IsMemberOf m r p → w ≡ Matched
    at_own Withdrawn f e = absurd (not_withdrawn inst is r p (stable.is_assignment.pairs_acceptable r p e) f.holds)
    at_own NotListed f e = absurd (f.holds (both r p e).0)
    at_own NotRanked f e = absurd (f.holds (both r p e).1)
    at_own Matched f e = refl
    at_own (PrefersOwn own i j) f e = absurd (f.none_before Matched (omega arith) e)
    at_own (Full i k q) f e = absurd (f.none_before Matched (omega arith) e)
    at_own Blocking f e = absurd (f.none_before Matched (omega arith) e)

    pub full_told : (i : ℕ) (k : Option ℕ) (q : ℕ) → IsFullBefore inst (list_at written.programme_lists p) m r p i k q → IsLastTold i k q
    full_told i None q h = let n = nobody p h.last in let all = h.all_taken in let e = h.has_quota in omega arith
    full_told i (Some k) q h =
        let b = h.all_before h.last.0.0 h.last.0.1 in
        let at = (ranked (list_at written.programme_lists p) r i (sym h.ranked)).1 in
        let stands = h.last.0.2 in
        omega arith

    pub before_own : (w : Why) (o : Option ℕ) → programme_of m r ≡ o → IsFirst inst (list_at written.resident_lists r) (list_at written.programme_lists p) m r p w →
        IsListed (list_at written.resident_lists r) p → Prefers (list_at written.resident_lists r) p o → (IsMemberOf m r p → ⊥) → IsPassed w
    before_own Withdrawn o e f l b n = tt
    before_own NotListed o e f l b n = f.holds l
    before_own NotRanked o e f l b n = tt
    before_own Matched o e f l b n = n f.holds
    before_own (PrefersOwn own i j) None e f l b n = (let h = f.holds in let g : None ≡ Some own = sym e ∙ h.has_own in absurd cc)
    before_own (PrefersOwn own i j) (Some q) e f l b n =
        let h = f.holds in
        let same : q ≡ own = same_Some q own (sym e ∙ h.has_own) in
        let x = (ranked (list_at written.resident_lists r) own i (sym h.own_ranked)).1 in
        let y = (ranked (list_at written.resident_lists r) p j (sym h.ranked)).1 in
        let z = ap (place (list_at written.resident_lists r)) same in
        let c = h.before in
        absurd (omega arith)
    before_own (Full i k q) o e f l b n = full_told i k q f.holds
    before_own Blocking o e f l b n = stable.nothing_blocks r p f.holds

    pub after_own : (w : Why) (q : ℕ) → programme_of m r ≡ Some q → IsFirst inst (list_at written.resident_lists r) (list_at written.programme_lists p) m r p w →
        IsListed (list_at written.resident_lists r) p → IsBefore (list_at written.resident_lists r) q p → IsPast w
    after_own Withdrawn q e f l b = tt
    after_own NotListed q e f l b = f.holds l
    after_own NotRanked q e f l b = tt
    after_own Matched q e f l b = (let same : q ≡ p = same_Some q p (sym e ∙ f.holds) in let z = ap (place (list_at written.resident_lists r)) same in absurd (omega arith))
    after_own (PrefersOwn own i j) q e f l b = tt
    after_own (Full i k u) q e f l b =
        absurd (f.none_before (PrefersOwn q (place (list_at written.resident_lists r) q) (place (list_at written.resident_lists r) p)) (omega arith) (record {
          has_own = e;
          own_ranked = has_rank (list_at written.resident_lists r) q (both r q e).0;
          ranked = has_rank (list_at written.resident_lists r) p l;
          before = b;
        }))
    after_own Blocking q e f l b = absurd (stable.nothing_blocks r p f.holds)

    last_told : (k : Option ℕ) → IsLastPlace (list_at written.programme_lists p) m p k → IsLastOfMembers (list_at written.programme_lists p) (members p) k
    last_told None h = λ s l. h s (((are p).are s).0 l)
    last_told (Some k) h = ((h.0.0, ((are p).are h.0.0).1 h.0.1, h.0.2), λ s l. h.1 s (((are p).are s).0 l))

    pub fits : (w : Why) → IsFirst inst (list_at written.resident_lists r) (list_at written.programme_lists p) m r p w → IsListed (list_at written.resident_lists r) p →
        Fits inst (list_at written.programme_lists p) (members p) r p w
    fits Withdrawn f l = f.holds
    fits NotListed f l = f.holds l
    fits NotRanked f l = f.holds
    fits Matched f l = ((are p).are r).1 f.holds
    fits (PrefersOwn own i j) f l = tt
    fits (Full i k q) f l =
        let h = f.holds in
        record {
          ranked = h.ranked;
          last_is = last_told k h.last;
          quota_is = sym h.has_quota;
          all_filled = (let n = count p in let all = h.all_taken in let kept = stable.is_assignment.quotas_kept p in omega arith);
        }
    fits Blocking f l = stable.nothing_blocks r p f.holds

    pub gone : (w : Why) → IsFirst inst (list_at written.resident_lists r) (list_at written.programme_lists p) m r p w → HasWithdrawn inst r p → w ≡ Withdrawn
    gone Withdrawn f h = refl
    gone NotListed f h = absurd (f.none_before Withdrawn (omega arith) h)
    gone NotRanked f h = absurd (f.none_before Withdrawn (omega arith) h)
    gone Matched f h = absurd (f.none_before Withdrawn (omega arith) h)
    gone (PrefersOwn own i j) f h = absurd (f.none_before Withdrawn (omega arith) h)
    gone (Full i k q) f h = absurd (f.none_before Withdrawn (omega arith) h)
    gone Blocking f h = absurd (f.none_before Withdrawn (omega arith) h)

    not_ranked : (w : Why) → IsFirst inst (list_at written.resident_lists r) (list_at written.programme_lists p) m r p w → IsListed (list_at written.resident_lists r) p →
        (IsListed (list_at written.programme_lists p) r → ⊥) → (HasWithdrawn inst r p → ⊥) → w ≡ NotRanked
    not_ranked Withdrawn f l n h = absurd (h f.holds)
    not_ranked NotListed f l n h = absurd (f.holds l)
    not_ranked NotRanked f l n h = refl
    not_ranked Matched f l n h = absurd (f.none_before NotRanked (omega arith) n)
    not_ranked (PrefersOwn own i j) f l n h = absurd (f.none_before NotRanked (omega arith) n)
    not_ranked (Full i k q) f l n h = absurd (f.none_before NotRanked (omega arith) n)
    not_ranked Blocking f l n h = absurd (f.none_before NotRanked (omega arith) n)

pub honest : HonestLaw
honest inst written m members why is made stable are first = record {
  residents = λ r. record {
    own_listed = λ q e. (both inst written m members why is made stable are r q e).0;
    reasons = λ p l. record {
      at = at_own inst written m members why is made stable are r p (why r p) (first r p);
      before = λ b n. before_own inst written m members why is made stable are r p (why r p) (programme_of m r) refl (first r p) l b n;
      after = λ q e b. after_own inst written m members why is made stable are r p (why r p) q e (first r p) l b;
    };
  };
  programmes = λ p. record {
    fits = (let n = count inst written m members why is made stable are p in let kept = stable.is_assignment.quotas_kept p in omega arith);
    none_twice = (are p).none_twice;
    listed = λ s l. (both inst written m members why is made stable are s p (((are p).are s).0 l)).1;
  };
  pairs = λ r p. record {
    fits = λ l. fits inst written m members why is made stable are r p (why r p) (first r p) l;
    withdrawn = λ l h. gone inst written m members why is made stable are r p (why r p) (first r p) h;
    unranked = λ l n h. not_ranked inst written m members why is made stable are r p (why r p) (first r p) l n h;
    member = λ l. (
      (both inst written m members why is made stable are r p (((are p).are r).0 l)).0,
      at_own inst written m members why is made stable are r p (why r p) (first r p) (((are p).are r).0 l),
    );
  };
}
