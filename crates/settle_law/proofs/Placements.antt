-- The members of a programme in a placement, as a list and as a count.
use Rattle.std.proofs.Common.{◌≡◌, ℕ, suc, ◌+◌, ◌<◌, Bool, true, List, [], ◌∷◌, ◌++◌, length, get_or, arith, refl, sym, ap, ◌∙◌, inl, inr, eqb-true, eq-eqb, append_assoc}
use Rattle.std.specs.Prelude.{Option, Some, None, is_some}
use Rattle.std.specs.List.{sum_by, count_by, filter, range_with_len}
use Rattle.std.proofs.lemmas.List.{length_push, get_or_at, get_or_past}
use Rattle.std.proofs.lemmas.List.Sums.{sum_by-cons, length-filter}
use Rattle.std.proofs.lemmas.Option.{same_Some}
use Rattle.std.proofs.lemmas.Bool.{cases_lt}
use Rattle.match_model.specs.Ranking.{IsListed, HasNoRepeats}
use Rattle.match_model.specs.Placement.{programme_of, IsMemberOf, holds, member_count}
use Rattle.match_model.proofs.Counts.{sum_by_same}
use Rattle.settle_law.proofs.Places.{range_has, HasNoRepeats-range, HasNoRepeats-filter, IsListed-filter, filter_keeps}
use Rattle.settle_law.proofs.Counting.{one_if, sum_by_zeros, sum_by-plus, count_by-range_same}

-- the test whether an option is programme p passes exactly if it is p
pub holds_true : (p : ℕ) (o : Option ℕ) → o ≡ Some p → holds p o ≡ true
holds_true p None e = absurd (cc)
holds_true p (Some q) e = eq-eqb q p (same_Some q p e)

pub same_from_holds : (p : ℕ) (o : Option ℕ) → holds p o ≡ true → o ≡ Some p
same_from_holds p None e = absurd (cc)
same_from_holds p (Some q) e = ap Some (eqb-true q p e)

-- a resident who has a programme has an entry in the placement
pub member_within : (m : List (Option ℕ)) (r p : ℕ) → IsMemberOf m r p → r < length m
member_within m r p e = elim (cases_lt r (length m)) [
  | inl c ↦ c
  | inr c ↦ let none = get_or_past m r None c in absurd (cc)
]

-- the entries of a placement that pass a test are as many as the residents whose entries pass this test
count_by_places : (f : Option ℕ → Bool) (xs before ms : List (Option ℕ)) (k : ℕ) → xs ≡ before ++ ms →
    length before ≡ k → count_by f ms ≡ count_by (λ r. f (get_or xs r None)) (range_with_len k (length ms))
count_by_places f xs before [] k e l = refl
count_by_places f xs before (o ∷ ms) k e l =
    let rest = count_by_places f xs (before ++ o ∷ []) ms (k + 1) (e ∙ sym (append_assoc before (o ∷ []) ms)) (length_push before o ∙ ap (λ n. n + 1) l) in
    let here : get_or xs k None ≡ o = ap (λ zs. get_or zs k None) e ∙ get_or_at before o ms None k l in
    let same : one_if (f (get_or xs k None)) ≡ one_if (f o) = ap (λ z. one_if (f z)) here in
    let a = sum_by-cons (λ z. one_if (f z)) o ms in
    let b = sum_by-cons (λ r. one_if (f (get_or xs r None))) k (range_with_len (k + 1) (length ms)) in
    omega arith

pub count_by-numbers : (f : Option ℕ → Bool) (m : List (Option ℕ)) →
    count_by f m ≡ count_by (λ r. f (programme_of m r)) (range_with_len 0 (length m))
count_by-numbers f m = count_by_places f m [] m 0 refl refl

-- the residents whom the placement matches with programme p
abbrev pub members_of : List (Option ℕ) → ℕ → List ℕ
members_of m p = filter (λ r. holds p (programme_of m r)) (range_with_len 0 (length m))

pub length-members_of : (m : List (Option ℕ)) (p : ℕ) → length (members_of m p) ≡ member_count m p
length-members_of m p = length-filter (λ r. holds p (programme_of m r)) (range_with_len 0 (length m)) ∙ sym (count_by-numbers (holds p) m)

pub members_differ : (m : List (Option ℕ)) (p : ℕ) → HasNoRepeats (members_of m p)
members_differ m p = HasNoRepeats-filter (λ r. holds p (programme_of m r)) (range_with_len 0 (length m)) (HasNoRepeats-range 0 (length m))

pub member_from_listed : (m : List (Option ℕ)) (p r : ℕ) → IsListed (members_of m p) r → IsMemberOf m r p
member_from_listed m p r l = same_from_holds p (programme_of m r) (IsListed-filter (λ s. holds p (programme_of m s)) (range_with_len 0 (length m)) r l).1

pub member_listed : (m : List (Option ℕ)) (p r : ℕ) → IsMemberOf m r p → IsListed (members_of m p) r
member_listed m p r e =
    let w = member_within m r p e in
    filter_keeps (λ s. holds p (programme_of m s)) (range_with_len 0 (length m)) r (range_has 0 (length m) r (omega arith) (omega arith)) (holds_true p (programme_of m r) e)

-- if a resident has a programme, exactly one of the numbers below n is this programme
placed_once : (n : ℕ) (o : Option ℕ) → ((p : ℕ) → o ≡ Some p → p < n) →
    sum_by (λ p. one_if (holds p o)) (range_with_len 0 n) ≡ one_if (is_some o)
placed_once n None h = sum_by_zeros (λ p. one_if (holds p None)) (range_with_len 0 n) (λ p. refl)
placed_once n (Some q) h = count_by-range_same n q (h q refl)

-- the members of all programmes together are the residents who have a programme
pub members_add_up : (n : ℕ) (m : List (Option ℕ)) → ((r p : ℕ) → IsMemberOf m r p → p < n) →
    sum_by (member_count m) (range_with_len 0 n) ≡ count_by is_some m
members_add_up n [] h = sum_by_zeros (member_count []) (range_with_len 0 n) (λ p. refl)
members_add_up n (o ∷ ms) h =
    let rest = members_add_up n ms (λ r p e. h (suc r) p e) in
    let first = placed_once n o (λ p e. h 0 p e) in
    let apart = sum_by_same (member_count (o ∷ ms)) (λ p. one_if (holds p o) + member_count ms p) (range_with_len 0 n) (λ i p e. sum_by-cons (λ z. one_if (holds p z)) o ms) in
    let sums = sum_by-plus (λ p. one_if (holds p o)) (member_count ms) (range_with_len 0 n) in
    let all = sum_by-cons (λ z. one_if (is_some z)) o ms in
    omega arith
