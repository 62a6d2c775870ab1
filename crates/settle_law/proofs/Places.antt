-- Places of numbers in a list: which numbers the list has, which comes first, and that no number stands twice.
use Rattle.std.proofs.Common.{◌≡◌, ℕ, zero, suc, ◌+◌, ◌<◌, ◌≤◌, ◌⊎◌, Bool, true, false, cond, eqb, List, [], ◌∷◌, ◌++◌, length, get_or, arith, refl, sym, ap, ◌∙◌, inl, inr, subst, eqb-true}
use Rattle.std.specs.List.{filter, range_with_len}
use Rattle.std.proofs.lemmas.Bool.{eqb-false, cases_lt}
use Rattle.std.proofs.lemmas.Option.{get_or_from_slice_get}
use Rattle.match_model.specs.Ranking.{place, IsListed, IsBefore, HasNoRepeats}
use Rattle.match_model.proofs.Listed.{place-head, slice_get_place, same_from_place, no_repeats_tail, no_repeats_head}

-- an item is the first of the list and has place 0, or its place is one more than in the rest of the list
pub place_cases : (y : ℕ) (ys : List ℕ) (x : ℕ) →
    ((y ≡ x) × (place (y ∷ ys) x ≡ 0)) ⊎ ((y ≡ x → ⊥) × (place (y ∷ ys) x ≡ 1 + place ys x))
place_cases y ys x = go (eqb y x) refl
  where
    go : (b : Bool) → eqb y x ≡ b →
        ((y ≡ x) × (place (y ∷ ys) x ≡ 0)) ⊎ ((y ≡ x → ⊥) × (place (y ∷ ys) x ≡ 1 + place ys x))
    go true e = inl (eqb-true y x e, rw e refl)
    go false e = inr (eqb-false y x e, rw e refl)

-- the item at the place of a listed number is this number
pub get_or-place : (xs : List ℕ) (x d : ℕ) → IsListed xs x → get_or xs (place xs x) d ≡ x
get_or-place xs x d l = get_or_from_slice_get xs (place xs x) x d (slice_get_place xs x l)

pub before_from_not_after : (xs : List ℕ) (x y : ℕ) → IsListed xs x → (x ≡ y → ⊥) → (IsBefore xs y x → ⊥) →
    IsBefore xs x y
before_from_not_after xs x y l n h = elim (cases_lt (place xs x) (place xs y)) [
  | inl c ↦ c
  | inr c ↦ elim (cases_lt (place xs y) (place xs x)) [
    | inl d ↦ absurd (h d)
    | inr d ↦ absurd (n (same_from_place xs x y l (omega arith)))
  ]
]

-- the place of an item is at most the index at which it was found
pub place-get_or-le : (xs : List ℕ) (k d : ℕ) → k < length xs → place xs (get_or xs k d) ≤ k
place-get_or-le [] k d l = absurd (omega arith)
place-get_or-le (y ∷ ys) zero d l = rw (place-head y ys) (omega arith)
place-get_or-le (y ∷ ys) (suc k) d l =
    let h : place ys (get_or ys k d) ≤ k = place-get_or-le ys k d (omega arith) in
    elim (place_cases y ys (get_or ys k d)) [ inl c ↦ omega arith | inr c ↦ omega arith ]

pub IsListed-get_or : (xs : List ℕ) (k d : ℕ) → k < length xs → IsListed xs (get_or xs k d)
IsListed-get_or xs k d l = let h = place-get_or-le xs k d l in omega arith

pub IsListed-cons_same : (y : ℕ) (ys : List ℕ) → IsListed (y ∷ ys) y
IsListed-cons_same y ys = let e = place-head y ys in omega arith

pub IsListed-cons : (y : ℕ) (ys : List ℕ) (x : ℕ) → IsListed ys x → IsListed (y ∷ ys) x
IsListed-cons y ys x l = elim (place_cases y ys x) [ inl c ↦ omega arith | inr c ↦ omega arith ]

pub IsListed-cons_cases : (y : ℕ) (ys : List ℕ) (x : ℕ) → IsListed (y ∷ ys) x → (y ≡ x) ⊎ IsListed ys x
IsListed-cons_cases y ys x l = elim (place_cases y ys x) [ inl c ↦ inl c.0 | inr c ↦ inr (omega arith) ]

pub IsListed-nil : (x : ℕ) → IsListed [] x → ⊥
IsListed-nil x l = omega arith

pub listed_cases : (xs : List ℕ) (x : ℕ) → IsListed xs x ⊎ (IsListed xs x → ⊥)
listed_cases xs x = elim (cases_lt (place xs x) (length xs)) [ inl c ↦ inl c | inr c ↦ inr (λ l. omega arith) ]

-- a number that isn't in the first of two joined lists has a place behind the first list
pub place-append_other : (xs ys : List ℕ) (x : ℕ) → (IsListed xs x → ⊥) → length xs ≤ place (xs ++ ys) x
place-append_other [] ys x n = omega arith
place-append_other (y ∷ xs) ys x n = elim (place_cases y (xs ++ ys) x) [
  | inl d ↦ absurd (n (subst (λ z. IsListed (y ∷ xs) z) d.0 (IsListed-cons_same y xs)))
  | inr d ↦ let h : length xs ≤ place (xs ++ ys) x = place-append_other xs ys x (λ l. n (IsListed-cons y xs x l)) in omega arith
]

pub HasNoRepeats-nil : HasNoRepeats []
HasNoRepeats-nil i j d l m = absurd (omega arith)

pub HasNoRepeats-cons : (y : ℕ) (ys : List ℕ) → (IsListed ys y → ⊥) → HasNoRepeats ys → HasNoRepeats (y ∷ ys)
HasNoRepeats-cons y ys n h i zero d l m = absurd (omega arith)
HasNoRepeats-cons y ys n h zero (suc j) d l m =
    λ e. n (subst (IsListed ys) (sym e) (IsListed-get_or ys j d (omega arith)))
HasNoRepeats-cons y ys n h (suc i) (suc j) d l m = h i j d (omega arith) (omega arith)

-- an item of a filtered list is on the list, and passes the test of the filter
pub IsListed-filter : (f : ℕ → Bool) (xs : List ℕ) (x : ℕ) → IsListed (filter f xs) x → IsListed xs x × (f x ≡ true)
IsListed-filter f [] x l = absurd (omega arith)
IsListed-filter f (y ∷ ys) x l = go (f y) refl l (IsListed-filter f ys x)
  where
    go : (b : Bool) → f y ≡ b → IsListed (cond b (y ∷ filter f ys) (filter f ys)) x →
        (IsListed (filter f ys) x → IsListed ys x × (f x ≡ true)) → IsListed (y ∷ ys) x × (f x ≡ true)
    go true e m rest = elim (IsListed-cons_cases y (filter f ys) x m) [
      | inl c ↦ (subst (IsListed (y ∷ ys)) c (IsListed-cons_same y ys), subst (λ z. f z ≡ true) c e)
      | inr c ↦ (IsListed-cons y ys x (rest c).0, (rest c).1)
    ]
    go false e m rest = (IsListed-cons y ys x (rest m).0, (rest m).1)

pub filter_keeps : (f : ℕ → Bool) (xs : List ℕ) (x : ℕ) → IsListed xs x → f x ≡ true → IsListed (filter f xs) x
filter_keeps f [] x l p = absurd (omega arith)
filter_keeps f (y ∷ ys) x l p = elim (IsListed-cons_cases y ys x l) [
  | inl c ↦ rw (ap f c ∙ p) (subst (IsListed (y ∷ filter f ys)) c (IsListed-cons_same y (filter f ys)))
  | inr c ↦ go (f y) (filter_keeps f ys x c p)
]
  where
    go : (b : Bool) → IsListed (filter f ys) x → IsListed (cond b (y ∷ filter f ys) (filter f ys)) x
    go true m = IsListed-cons y (filter f ys) x m
    go false m = m

pub HasNoRepeats-filter : (f : ℕ → Bool) (xs : List ℕ) → HasNoRepeats xs → HasNoRepeats (filter f xs)
HasNoRepeats-filter f [] h = HasNoRepeats-nil
HasNoRepeats-filter f (y ∷ ys) h = go (f y) (HasNoRepeats-filter f ys (no_repeats_tail y ys h))
  where
    go : (b : Bool) → HasNoRepeats (filter f ys) → HasNoRepeats (cond b (y ∷ filter f ys) (filter f ys))
    go true m = HasNoRepeats-cons y (filter f ys) (λ l. no_repeats_head y ys h (IsListed-filter f ys y l).0) m
    go false m = m

-- a number in the list of n numbers from a on is at least a and below a + n
pub IsListed-range : (a n x : ℕ) → IsListed (range_with_len a n) x → (a ≤ x) × (x < a + n)
IsListed-range a zero x l = absurd (omega arith)
IsListed-range a (suc n) x l = elim (IsListed-cons_cases a (range_with_len (a + 1) n) x l) [
  | inl c ↦ omega arith
  | inr c ↦ let h = IsListed-range (a + 1) n x c in omega arith
]

pub range_has : (a n x : ℕ) → a ≤ x → x < a + n → IsListed (range_with_len a n) x
range_has a zero x l m = absurd (omega arith)
range_has a (suc n) x l m = elim (cases_lt a x) [
  | inl c ↦ IsListed-cons a (range_with_len (a + 1) n) x (range_has (a + 1) n x (omega arith) (omega arith))
  | inr c ↦ let e : a ≡ x = omega arith in subst (IsListed (a ∷ range_with_len (a + 1) n)) e (IsListed-cons_same a (range_with_len (a + 1) n))
]

pub HasNoRepeats-range : (a n : ℕ) → HasNoRepeats (range_with_len a n)
HasNoRepeats-range a zero = HasNoRepeats-nil
HasNoRepeats-range a (suc n) =
    HasNoRepeats-cons a (range_with_len (a + 1) n) (λ l. let h = IsListed-range (a + 1) n a l in omega arith) (HasNoRepeats-range (a + 1) n)
