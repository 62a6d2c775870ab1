-- Lists with one item for each number below a count, where each item has a property of its number.
use Rattle.std.proofs.Common.{◌≡◌, ℕ, ◌+◌, ◌<◌, ◌≤◌, ◌⊎◌, inl, inr, Some, List, [], ◌∷◌, ◌++◌, length, refl, sym, ap, ◌∙◌, subst, arith, length-append}
use Rattle.std.proofs.lemmas.Bool.{cases_eq}
use Rattle.std.proofs.lemmas.Option.{slice_get_within, slice_get_read}
use Rattle.std.specs.Prelude.{slice_get, slice_index_or}
use Rattle.match_model.proofs.Prefixes.{slice_get_push_parts}
use Rattle.match_pool.specs.Done.{Each}

-- if n items have the property and one more item has it as item n, all n + 1 items have it
pub each_push : {X : Type 0} (xs : List X) (n : ℕ) (x : X) (property : ℕ → X → Type 0) → Each xs n property → property n x → Each (xs ++ x ∷ []) (n + 1) property
each_push {X = X} xs n x property each has = record { one_each = omega (arith, length-append xs (x ∷ []), each.one_each); has = λ i y at. one i y (slice_get_push_parts xs x i y at) }
  where
    one : (i : ℕ) (y : X) → (slice_get xs i ≡ Some y) ⊎ ((i ≡ length xs) × (x ≡ y)) → property i y
    one i y (inl at) = each.has i y at
    one i y (inr last) = subst (λ (z : X). property i z) last.1 (subst (λ (m : ℕ). property m x) (sym (last.0 ∙ each.one_each)) has)

-- if a list has no items, each of its items has the property of its number
pub each_none : {X : Type 0} (xs : List X) (property : ℕ → X → Type 0) → xs ≡ [] → Each xs 0 property
each_none {X = X} xs property none = record { one_each = ap length none; has = λ i x at. absurd (cc (subst (λ (ys : List X). slice_get ys i ≡ Some x) none at)) }

-- each item below a number has the property for its own number
pub record AllBelow {X : Type 0} (xs : List X) (n : ℕ) (property : ℕ → X → Type 0) : Type 0 where
  pub has : (i : ℕ) (x : X) → i < n → slice_get xs i ≡ Some x → property i x

-- if the items below n have the property and item n has it too, the items below n + 1 have it
pub below_next : {X : Type 0} (xs : List X) (n : ℕ) (x : X) (property : ℕ → X → Type 0) → AllBelow xs n property
    → n < length xs → x ≡ slice_index_or xs n x → property n x → AllBelow xs (n + 1) property
below_next {X = X} xs n x property below within item has = record { has = λ i y under at. one i y under at (cases_eq i n) }
  where
    here : slice_get xs n ≡ Some x
    here = slice_get_read xs (length xs) n x refl within item

    one : (i : ℕ) (y : X) → i < n + 1 → slice_get xs i ≡ Some y → (i ≡ n) ⊎ (i ≡ n → ⊥) → property i y
    one i y under at (inl e) =
        let same : x ≡ y = cc (here, subst (λ (m : ℕ). slice_get xs m ≡ Some y) e at) in
        subst (λ (m : ℕ). property m y) (sym e) (subst (λ (z : X). property n z) same has)
    one i y under at (inr other) = below.has i y (omega (arith, under, other)) at

-- if n is at least the length of the list, every item of the list has the property
pub below_all : {X : Type 0} (xs : List X) (n : ℕ) (property : ℕ → X → Type 0) → AllBelow xs n property → length xs ≤ n
    → (i : ℕ) (x : X) → slice_get xs i ≡ Some x → property i x
below_all xs n property below end = λ i x at. below.has i x (omega (arith, slice_get_within xs i x at, end)) at
