-- Which items a walk over a list selects, and that the sorted selection rises strictly.
use Rattle.std.proofs.Common.{◌≡◌, ℕ, ◌+◌, ◌<◌, ◌≤◌, inl, inr, cond, eqb, List, [], ◌∷◌, ◌++◌, arith, refl, sym, ap, ◌∙◌, subst}
use Rattle.std.specs.Prelude.{◌↔◌}
use Rattle.std.specs.List.{Contains, sum_by}
use Rattle.std.specs.List.Sorted.{IsPermutation, IsSorted, IsStrictlyIncreasing}
use Rattle.std.specs.Ordering.{nat_cmp}
use Rattle.std.proofs.lemmas.List.Sums.{sum_by-cons}
use Rattle.std.proofs.lemmas.List.Sorted.{IsNonDecreasingBy-from_sort, sum_by-IsPermutation, IsPermutation-sym, Contains-permutation}
use Rattle.match_model.specs.Ranking.{place, IsListed, HasNoRepeats}
use Rattle.match_model.proofs.Rankings.{is_listed_not, is_listed-false}
use Rattle.match_model.proofs.Counts.{count_of}
use Rattle.match_model.proofs.Listed.{count_from_no_repeats, no_repeats_from_count, listed_push_parts, listed_push_before, listed_push_last, no_repeats_push, no_repeats_last}
use Rattle.settle_law.proofs.Places.{IsListed-get_or, get_or-place}

-- the selected items are the items of the list for which P holds, each once
pub record Keeps (P : ℕ → Type 0) (xs kept : List ℕ) : Type 0 where
  pub once : HasNoRepeats kept
  pub each : (x : ℕ) → IsListed kept x ↔ (IsListed xs x × P x)

pub Keeps_more_no : (P : ℕ → Type 0) (xs kept : List ℕ) (y : ℕ) → Keeps P xs kept → (P y → ⊥) → Keeps P (xs ++ y ∷ []) kept
Keeps_more_no P xs kept y h n = record {
  once = h.once;
  each = λ x. (
    λ l. let c = (h.each x).0 l in (listed_push_before xs y x c.0, c.1),
    λ c. elim (listed_push_parts xs y x c.0) [
      | inl l ↦ (h.each x).1 (l, c.1)
      | inr e ↦ absurd (n (subst P (sym e) c.1))
    ],
  );
}

pub Keeps_more_yes : (P : ℕ → Type 0) (xs kept : List ℕ) (y : ℕ) → Keeps P xs kept → HasNoRepeats (xs ++ y ∷ []) → P y →
    Keeps P (xs ++ y ∷ []) (kept ++ y ∷ [])
Keeps_more_yes P xs kept y h apart passes = record {
  once = no_repeats_push kept y h.once (is_listed_not kept y (λ l. is_listed-false xs y (no_repeats_last xs y apart) ((h.each y).0 l).0));
  each = λ x. (
    λ l. elim (listed_push_parts kept y x l) [
      | inl k ↦ let c = (h.each x).0 k in (listed_push_before xs y x c.0, c.1)
      | inr e ↦ (subst (IsListed (xs ++ y ∷ [])) e (listed_push_last xs y), subst P e passes)
    ],
    λ c. elim (listed_push_parts xs y x c.0) [
      | inl l ↦ listed_push_before kept y x ((h.each x).1 (l, c.1))
      | inr e ↦ subst (IsListed (kept ++ y ∷ [])) e (listed_push_last kept y)
    ],
  );
}

pub listed_from_Contains : (xs : List ℕ) (x : ℕ) → Contains xs x → IsListed xs x
listed_from_Contains xs x (k, l, e) = subst (IsListed xs) e (IsListed-get_or xs k x l)

pub Contains_from_listed : (xs : List ℕ) (x : ℕ) → IsListed xs x → Contains xs x
Contains_from_listed xs x l = (place xs x, l, get_or-place xs x x l)

count_of-sum : (x : ℕ) (xs : List ℕ) → count_of x xs ≡ sum_by (λ y. cond (eqb y x) 1 0) xs
count_of-sum x [] = refl
count_of-sum x (y ∷ ys) = ap (λ n. cond (eqb y x) 1 0 + n) (count_of-sum x ys) ∙ sym (sum_by-cons (λ y. cond (eqb y x) 1 0) y ys)

HasNoRepeats-permutation : (xs ys : List ℕ) → IsPermutation xs ys → HasNoRepeats xs → HasNoRepeats ys
HasNoRepeats-permutation xs ys p h = no_repeats_from_count ys (λ x.
    let same : count_of x ys ≡ count_of x xs = count_of-sum x ys ∙ sum_by-IsPermutation (λ y. cond (eqb y x) 1 0) xs ys p ∙ sym (count_of-sum x xs) in
    let few = count_from_no_repeats xs h x in omega arith)

pub IsStrictlyIncreasing-sorted : (xs ys : List ℕ) → HasNoRepeats xs → IsPermutation xs ys → IsSorted nat_cmp ys → IsStrictlyIncreasing ys
IsStrictlyIncreasing-sorted xs ys h p up k l =
    let rises = IsNonDecreasingBy-from_sort (λ (n : ℕ). n) ys up k (k + 1) 0 (omega arith) l in
    let apart = HasNoRepeats-permutation xs ys p h k (k + 1) 0 (omega arith) l in
    strict _ _ rises apart
  where
    strict : (a b : ℕ) → a ≤ b → (a ≡ b → ⊥) → a < b
    strict a b l n = omega arith

pub Contains-sorted : (P : ℕ → Type 0) (xs kept ys : List ℕ) → Keeps P xs kept → IsPermutation kept ys → (x : ℕ) → Contains ys x ↔ (IsListed xs x × P x)
Contains-sorted P xs kept ys h p x = (
  λ c. (h.each x).0 (listed_from_Contains kept x (Contains-permutation ys kept x (IsPermutation-sym kept ys p) c)),
  λ c. Contains-permutation kept ys x p (Contains_from_listed kept x ((h.each x).1 c)),
)
