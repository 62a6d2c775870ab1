-- A stable placement with its first true reasons is right for receipts.
use Rattle.std.proofs.Common.{◌≡◌, ◌⊎◌, ℕ, zero, suc, ◌+◌, ◌<◌, ◌≤◌, Bool, true, false, List, [], ◌∷◌, length, Option, Some, None, refl, sym, ap, ◌∙◌, arith, subst, inl, inr}
use Rattle.std.specs.List.{range_with_len}
use Rattle.std.proofs.lemmas.List.FromFn.{length-range_with_len}
use Rattle.std.proofs.lemmas.List.Sums.{count_by-le-length}
use Rattle.match_model.specs.Instance.{Instance, IsInstance, is_withdrawn, list_at, quota as quota_of}
use Rattle.match_model.specs.Placement.{IsMemberOf, member_count, programme_of}
use Rattle.match_model.specs.Ranking.{IsListed, is_listed, place}
use Rattle.match_model.specs.Written.{AreWritten, Written}
use Rattle.settle_law.specs.Stable.{IsStable}
use Rattle.settle_law.proofs.Counting.{different_among}
use Rattle.settle_law.proofs.Places.{range_has, get_or-place}
use Rattle.settle_law.proofs.Placements.{length-members_of, member_from_listed, member_listed, members_differ, members_of}
use Rattle.match_reasons.specs.Pairs.{AreMembersOf, CanStandFor, FitsFull, IsGoodProgramme}
use Rattle.match_reasons.specs.Reason.{IsFirst}
use Rattle.match_reasons.specs.declared.reason.Why.{Why}
use Rattle.match_reasons.specs.declared.reason.Why.TheVariants.{Withdrawn, NotListed, NotRanked, Matched, PrefersOwn, Full, Blocking}
use Rattle.match_reasons.proofs.Firsts.{not_withdrawn}
use Rattle.match_reasons.proofs.HonestProof.{after_own, at_own, before_own, both, count, fits, full_told, gone, nobody}
use Rattle.match_reasons.proofs.Ranks.{ranked}
use Rattle.match_reasons.proofs.RoomProof.{room}
use Rattle.receipt_theorem.proofs.Market.{IsWrittenList}
use Rattle.receipt_theorem.proofs.Places.{Below}
use Rattle.receipt_theorem.proofs.Reasons.{HasPlaces, HasRoom, IsRight}

-- each number on a written list is below n, the number of members of the other side
pub below_of : (n : ℕ) (xs : List ℕ) → IsWrittenList n xs → (x : ℕ) → IsListed xs x → x < n
below_of n xs h x l = subst (λ z. z < n) (get_or-place xs x 0 l) (h.below (place xs x) 0 l)

-- a list of different numbers below n has at most n numbers
pub list_short : (n : ℕ) (xs : List ℕ) → IsWrittenList n xs → length xs ≤ n
list_short n xs h =
    let among = different_among xs (range_with_len 0 n) h.different (λ x l. range_has 0 n x (omega arith) (small x l)) in
    let le = count_by-le-length (is_listed xs) (range_with_len 0 n) in
    let size = length-range_with_len 0 n in
    omega (arith, among, le, size)
  where
    small : (x : ℕ) → IsListed xs x → x < 0 + n
    small x l = let b : x < n = below_of n xs h x l in omega (arith, b)

module _ (inst : Instance) (written : Written) (m : List (Option ℕ)) (is : IsInstance inst) (made : AreWritten inst written) (stable : IsStable inst m) where
  why : ℕ → ℕ → Why
  why r p = Matched

  are : (p : ℕ) → AreMembersOf m p (members_of m p)
  are p = record { are = λ s. (member_from_listed m p s, member_listed m p s); none_twice = members_differ m p }

  abbrev mine : ℕ → List ℕ
  mine r = list_at written.resident_lists r

  abbrev theirs : ℕ → List ℕ
  theirs p = list_at written.programme_lists p

  -- a resident whom a placement gives a programme lists it, and the programme lists the resident
  pub listed : (r p : ℕ) → IsMemberOf m r p → IsListed (mine r) p × IsListed (theirs p) r
  listed r p e = both inst written m (λ p. members_of m p) why is made stable are r p e

  pub good_programme : (p : ℕ) → IsGoodProgramme (theirs p) (members_of m p) (quota_of inst p)
  good_programme p = record {
    fits = (let n = length-members_of m p in let kept = stable.is_assignment.quotas_kept p in omega (arith, n, kept));
    none_twice = members_differ m p;
    listed = λ s l. (listed s p (member_from_listed m p s l)).1;
  }

  places : (r p rank : ℕ) (last : Option ℕ) (quota : ℕ) → length (theirs p) ≤ 100000 → IsFirst inst (mine r) (theirs p) m r p (Full rank last quota) → IsListed (mine r) p → HasPlaces rank last quota
  places r p rank None quota few first l =
      let told = full_told inst written m (λ p. members_of m p) why is made stable are r p rank None quota first.holds in
      let at = ranked (theirs p) r rank (sym first.holds.ranked) in
      (told, (let a = at.0 in let b = at.1 in omega (arith, a, b, few)))
  places r p rank (Some last) quota few first l =
      let told = full_told inst written m (λ p. members_of m p) why is made stable are r p rank (Some last) quota first.holds in
      let full : FitsFull (theirs p) (members_of m p) (quota_of inst p) r rank (Some last) quota = fits inst written m (λ p. members_of m p) why is made stable are r p (Full rank (Some last) quota) first l in
      let enough = room (theirs p) (members_of m p) (quota_of inst p) r rank last quota (good_programme p) full in
      let at = ranked (theirs p) r rank (sym first.holds.ranked) in
      let there : IsListed (members_of m p) full.last_is.0.0 = full.last_is.0.1 in
      let q = full.quota_is in
      let f = full.all_filled in
      ((let a : place (members_of m p) full.last_is.0.0 < length (members_of m p) = there in omega (arith, a, q, f)), enough, told, (let a = at.0 in let b = at.1 in omega (arith, a, b, few)))

  has_room : (r p : ℕ) (w : Why) → length (theirs p) ≤ 100000 → IsFirst inst (mine r) (theirs p) m r p w → IsListed (mine r) p → HasRoom w
  has_room r p Withdrawn few first l = tt
  has_room r p NotListed few first l = tt
  has_room r p NotRanked few first l = tt
  has_room r p Matched few first l = tt
  has_room r p (PrefersOwn own i k) few first l = tt
  has_room r p (Full rank last quota) few first l = places r p rank last quota few first l
  has_room r p Blocking few first l = tt

  -- the first true reason for a choice is right for a receipt
  pub right : (r p : ℕ) (w : Why) → length (theirs p) ≤ 100000 → IsFirst inst (mine r) (theirs p) m r p w → IsListed (mine r) p
      → IsRight (is_withdrawn inst.residents_withdrawn r) (mine r) (programme_of m r) p w
  right r p w few first l = record {
    withdrawn = λ e. gone inst written m (λ p. members_of m p) why is made stable are r p w first (inl e);
    stands = record {
      at = at_own inst written m (λ p. members_of m p) why is made stable are r p w first;
      before = λ b n. before_own inst written m (λ p. members_of m p) why is made stable are r p w (programme_of m r) refl first l b n;
      after = λ q e b. after_own inst written m (λ p. members_of m p) why is made stable are r p w q e first l b;
    };
    room = has_room r p w few first l;
  }

  -- neither a resident with a programme nor the programme is withdrawn
  pub stays : (r p : ℕ) → IsMemberOf m r p → is_withdrawn inst.residents_withdrawn r ≡ false
  stays r p e = by (is_withdrawn inst.residents_withdrawn r) refl
    where
      by : (b : Bool) → is_withdrawn inst.residents_withdrawn r ≡ b → is_withdrawn inst.residents_withdrawn r ≡ false
      by false e = e
      by true t = absurd (not_withdrawn inst is r p (stable.is_assignment.pairs_acceptable r p e) (inl t))

  pub empty : (p : ℕ) → is_withdrawn inst.programmes_withdrawn p ≡ true → member_count m p ≡ 0
  empty p t = nobody inst written m (λ p. members_of m p) why is made stable are p (λ s e. not_withdrawn inst is s p (stable.is_assignment.pairs_acceptable s p e) (inr t))
