-- The number of a programme's members and the place of the last-ranked one, after one more resident of the placement is
-- looked at.
use Rattle.std.proofs.Common.{◌≡◌, ℕ, ◌+◌, ◌<◌, ◌≤◌, inl, inr, false, List, length, take, get_or, set, slice_get, replicate, max, arith, refl, sym, ap, ◌∙◌, subst, unwrap_or}
use Rattle.std.specs.Prelude.{Option, Some, None}
use Rattle.std.proofs.lemmas.Bool.{cases_eq, cases_lt, ne_eqb}
use Rattle.std.proofs.lemmas.List.{take_more, length-set, length-replicate, get_or-set_same, get_or-set_other, get_or-replicate, length-take-le}
use Rattle.std.proofs.lemmas.Option.{get_or_from_slice_get, slice_get-get_or, slice_get_within, same_Some}
use Rattle.std.proofs.Math.Seq.{take-length}
use Rattle.std.proofs.lemmas.List.Sums.{sum_by_push, count_by-le-length}
use Rattle.match_model.specs.Ranking.{place}
use Rattle.match_model.specs.Placement.{programme_of, IsMemberOf, holds, member_count}
use Rattle.settle_law.proofs.Counting.{one_if}
use Rattle.settle_law.proofs.Placements.{holds_true, member_within}
use Rattle.match_model.specs.Instance.{list_at}
use Rattle.match_model.specs.Written.{Written}
use Rattle.match_reasons.specs.declared.taken.Taken.{Taken}
use Rattle.match_reasons.specs.Reason.{AreTaken, IsLastPlace, IsTaken}

-- the last place among those of the first n residents who are members of p, or none if none of them is a member
abbrev pub IsLastOf : List ℕ → List (Option ℕ) → ℕ → ℕ → Option ℕ → Type 0
IsLastOf theirs m p n None = (s : ℕ) → s < n → IsMemberOf m s p → ⊥
IsLastOf theirs m p n (Some k) =
    ((s : ℕ) × IsMemberOf m s p × (place theirs s ≡ k) × (s < n))
    × ((s : ℕ) → s < n → IsMemberOf m s p → place theirs s ≤ k)

-- the number of members and the last place are right for the first n residents
pub record IsSoFar (theirs : List ℕ) (m : List (Option ℕ)) (p n members : ℕ) (last : Option ℕ) : Type 0 where
  pub members_are : members ≡ member_count (take n m) p
  pub last_is : IsLastOf theirs m p n last

holds_false : (p : ℕ) (x : Option ℕ) → (x ≡ Some p → ⊥) → holds p x ≡ false
holds_false p None n = refl
holds_false p (Some q) n = ne_eqb q p (λ e. n (ap Some e))

-- the number of p's members among the first r + 1 residents, by whether resident r is a member
member_count_more : (m : List (Option ℕ)) (p r : ℕ) → r < length m →
    member_count (take (r + 1) m) p ≡ member_count (take r m) p + one_if (holds p (programme_of m r))
member_count_more m p r l = ap (λ z. member_count z p) (take_more m r None l) ∙ sum_by_push (λ z. one_if (holds p z)) (take r m) (get_or m r None)

pub IsSoFar-none : (theirs : List ℕ) (m : List (Option ℕ)) (p : ℕ) → IsSoFar theirs m p 0 0 None
IsSoFar-none theirs m p = record { members_are = refl; last_is = λ s l h. absurd (omega arith) }

last_other : (theirs : List ℕ) (m : List (Option ℕ)) (p r : ℕ) (last : Option ℕ) → IsLastOf theirs m p r last → (IsMemberOf m r p → ⊥) → IsLastOf theirs m p (r + 1) last
last_other theirs m p r None h n = λ s l is. elim (cases_lt s r) [
  | inl c ↦ h s c is
  | inr c ↦ let same : s ≡ r = omega arith in n (subst (λ z. IsMemberOf m z p) same is)
]
last_other theirs m p r (Some k) h n = (
  (h.0.0, h.0.1, h.0.2, let b = h.0.3 in omega arith),
  λ s l is. elim (cases_lt s r) [
    | inl c ↦ h.1 s c is
    | inr c ↦ let same : s ≡ r = omega arith in absurd (n (subst (λ z. IsMemberOf m z p) same is))
  ],
)

-- if resident r isn't a member of p, the number of members and the last place are still right after
-- r
pub IsSoFar-other : (theirs : List ℕ) (m : List (Option ℕ)) (p r members : ℕ) (last : Option ℕ) → r < length m → IsSoFar theirs m p r members last →
    (IsMemberOf m r p → ⊥) → IsSoFar theirs m p (r + 1) members last
IsSoFar-other theirs m p r members last l h n = record {
  members_are = (
      let more = member_count_more m p r l in
      let none : one_if (holds p (programme_of m r)) ≡ 0 = ap one_if (holds_false p (programme_of m r) n) in
      let had = h.members_are in
      omega arith
      );
  last_is = last_other theirs m p r last h.last_is n;
}

last_more : (theirs : List ℕ) (m : List (Option ℕ)) (p r : ℕ) (last : Option ℕ) → IsLastOf theirs m p r last → IsMemberOf m r p →
    IsLastOf theirs m p (r + 1) (Some (max (unwrap_or last 0) (place theirs r)))
last_more theirs m p r None h is = (
  (r, is, (omega arith), omega arith),
  λ s l k. elim (cases_lt s r) [
    | inl c ↦ absurd (h s c k)
    | inr c ↦ let same : s ≡ r = omega arith in let e = ap (place theirs) same in omega arith
  ],
)
last_more theirs m p r (Some k) h is = (
  witness,
  λ s l j. elim (cases_lt s r) [
    | inl c ↦ let b = h.1 s c j in omega arith
    | inr c ↦ let same : s ≡ r = omega arith in let e = ap (place theirs) same in omega arith
  ],
)
  where
    witness : (s : ℕ) × IsMemberOf m s p × (place theirs s ≡ max k (place theirs r)) × (s < r + 1)
    witness = elim (cases_lt k (place theirs r)) [
      | inl c ↦ (r, is, (omega arith), omega arith)
      | inr c ↦ (h.0.0, h.0.1, (let e = h.0.2 in omega arith), let b = h.0.3 in omega arith)
    ]

-- if resident r is a member of p, the number of members grows by 1, and the last place may grow
pub IsSoFar-more : (theirs : List ℕ) (m : List (Option ℕ)) (p r members : ℕ) (last : Option ℕ) → r < length m → IsSoFar theirs m p r members last →
    IsMemberOf m r p → IsSoFar theirs m p (r + 1) (members + 1) (Some (max (unwrap_or last 0) (place theirs r)))
IsSoFar-more theirs m p r members last l h is = record {
  members_are = (
      let more = member_count_more m p r l in
      let one : one_if (holds p (programme_of m r)) ≡ 1 = ap one_if (holds_true p (programme_of m r) is) in
      let had = h.members_are in
      omega arith
      );
  last_is = last_more theirs m p r last h.last_is is;
}

-- after all residents, the number of members and the last place are right for the whole placement
pub IsSoFar-all : (theirs : List ℕ) (m : List (Option ℕ)) (p n members : ℕ) (last : Option ℕ) → n ≡ length m → IsSoFar theirs m p n members last →
    IsTaken theirs m p (record { members = members; last = last })
IsSoFar-all theirs m p n members last all h = record {
  members = h.members_are ∙ ap (λ z. member_count z p) (ap (λ k. take k m) all ∙ take-length m);
  last = go last h.last_is;
}
  where
    go : (o : Option ℕ) → IsLastOf theirs m p n o → IsLastPlace theirs m p o
    go None l = λ s is. l s (let b = member_within m s p is in omega arith) is
    go (Some k) l = ((l.0.0, l.0.1, l.0.2), λ s is. l.1 s (let b = member_within m s p is in omega arith) is)

-- at most n of the first n residents are members of p
pub few_so_far : (theirs : List ℕ) (m : List (Option ℕ)) (p n members : ℕ) (last : Option ℕ) → n ≤ length m → IsSoFar theirs m p n members last → members ≤ n
few_so_far theirs m p n members last l h = let are = h.members_are in omega (arith, are, count_by-le-length (holds p) (take n m), length-take-le n m l)

-- the number of members and the last place after one more member, who stands at this place of the
-- programme's list
abbrev pub with_member : Taken → ℕ → Taken
with_member t at = record { members = t.members + 1; last = Some (max (unwrap_or t.last 0) at) }

-- for each programme the number of members and the last place are right for the first n residents
abbrev pub AreSoFar : Written → List (Option ℕ) → ℕ → List Taken → Type 0
AreSoFar written m n takens = (p : ℕ) (t : Taken) → slice_get takens p ≡ Some t → IsSoFar (list_at written.programme_lists p) m p n t.members t.last

abbrev pub nobody_yet : Taken
nobody_yet = record { members = 0; last = None }

pub AreSoFar-none : (written : Written) (m : List (Option ℕ)) (n : ℕ) → AreSoFar written m 0 (replicate n nobody_yet)
AreSoFar-none written m n p t at =
    let w : p < n = omega (arith, slice_get_within (replicate n nobody_yet) p t at, length-replicate n nobody_yet) in
    let same : nobody_yet ≡ t = sym (get_or-replicate n p nobody_yet t w) ∙ get_or_from_slice_get (replicate n nobody_yet) p t t at in
    subst (λ (z : Taken). IsSoFar (list_at written.programme_lists p) m p 0 z.members z.last) same (IsSoFar-none (list_at written.programme_lists p) m p)

-- if resident r is a member of none of the programmes, the notes are right for one more resident
pub AreSoFar-other : (written : Written) (m : List (Option ℕ)) (r : ℕ) (takens : List Taken) → r < length m → AreSoFar written m r takens →
    ((p : ℕ) → p < length takens → IsMemberOf m r p → ⊥) → AreSoFar written m (r + 1) takens
AreSoFar-other written m r takens l h n p t at =
    IsSoFar-other (list_at written.programme_lists p) m p r t.members t.last l (h p t at) (n p (slice_get_within takens p t at))

-- if resident r is a member of programme p, the notes are right for one more resident after r is added to p's
-- note
pub AreSoFar-more : (written : Written) (m : List (Option ℕ)) (r p : ℕ) (takens : List Taken) (t : Taken) → r < length m → AreSoFar written m r takens →
    slice_get takens p ≡ Some t → IsMemberOf m r p → AreSoFar written m (r + 1) (set takens p (with_member t (place (list_at written.programme_lists p) r)))
AreSoFar-more written m r p takens t l h at is q u here = elim (cases_eq q p) [
  | inl e ↦
      let same : more ≡ u = sym (get_or-set_same takens p more u within) ∙ ap (λ z. get_or (set takens p more) z u) (sym e) ∙ get_or_from_slice_get (set takens p more) q u u here in
      subst (λ z. IsSoFar (list_at written.programme_lists z) m z (r + 1) u.members u.last) (sym e)
      (subst (λ (z : Taken). IsSoFar (list_at written.programme_lists p) m p (r + 1) z.members z.last) same
      (IsSoFar-more (list_at written.programme_lists p) m p r t.members t.last l (h p t at) is))
  | inr d ↦
      let w : q < length takens = omega (arith, slice_get_within (set takens p more) q u here, length-set takens p more) in
      let old : slice_get takens q ≡ Some u =
      slice_get-get_or takens q u w ∙ ap Some (sym (get_or-set_other takens p q more u d) ∙ get_or_from_slice_get (set takens p more) q u u here) in
      IsSoFar-other (list_at written.programme_lists q) m q r u.members u.last l (h q u old) (λ k. d (sym (same_Some p q (sym is ∙ k))))
]
  where
    more : Taken
    more = with_member t (place (list_at written.programme_lists p) r)

    within : p < length takens
    within = slice_get_within takens p t at

pub AreSoFar-all : (written : Written) (m : List (Option ℕ)) (n : ℕ) (takens : List Taken) → n ≡ length m → AreSoFar written m n takens → AreTaken written m takens
AreSoFar-all written m n takens all h p t at = IsSoFar-all (list_at written.programme_lists p) m p n t.members t.last all (h p t at)
