-- The search for the first number below a bound at which a function has a value.
use Rattle.std.specs.Prelude.{is_some, true}
use Rattle.std.proofs.Common.{◌≡◌, ℕ, suc, zero, ◌+◌, ◌<◌, ◌≤◌, Option, Some, None, [], ◌∷◌, refl, sym, subst, arith, add-one, ◌⊎◌, ⊎_elim}
use Rattle.std.proofs.lemmas.Bool.{cases_lt}
use Rattle.exchange_core.specs.Refusal.{first_of, first_below}

-- if the first option is none and the second has a value, this value is the first value
pub first_of_second : {X : Type 0} (a b : Option X) (x : X) → a ≡ None → b ≡ Some x → first_of (a ∷ b ∷ []) ≡ Some x
first_of_second None None x e h = cc
first_of_second None (Some y) x e h = h
first_of_second (Some z) b x e h = cc

pub first_of_first : {X : Type 0} (a b : Option X) (x : X) → a ≡ Some x → first_of (a ∷ b ∷ []) ≡ Some x
first_of_first None b x h = cc
first_of_first (Some y) b x h = h

pub first_of_none : {X : Type 0} (a b : Option X) → a ≡ None → b ≡ None → first_of (a ∷ b ∷ []) ≡ None
first_of_none None None e h = refl
first_of_none None (Some y) e h = cc
first_of_none (Some z) b e h = cc

-- if nothing is found below number i, and value x is found at i, then x is the first value found
pub first_below_found : {X : Type 0} (f : ℕ → Option X) (n i : ℕ) (x : X) → i < n → first_below f i ≡ None → f i ≡ Some x → first_below f n ≡ Some x
first_below_found f zero i x h none here = absurd (omega arith)
first_below_found {X} f (suc n) i x h none here = split (cases_lt i n) (λ l. first_below_found f n i x l none here)
  where
    split : (i < n) ⊎ (n ≤ i) → (i < n → first_below f n ≡ Some x) → first_below f (suc n) ≡ Some x
    split c found = ⊎_elim (λ (l : i < n). first_of_first (first_below f n) (f n) x (found l))
        (λ (l : n ≤ i). let e : i ≡ n = omega arith in
        first_of_second (first_below f n) (f n) x (subst (λ (k : ℕ). first_below f k ≡ None) e none) (subst (λ (k : ℕ). f k ≡ Some x) e here)) c

-- if nothing is found below number i, the value found at i is the answer of the whole search
pub first_below_is : {X : Type 0} (f : ℕ → Option X) (n i : ℕ) (o : Option X) → i < n → first_below f i ≡ None → o ≡ f i → is_some o ≡ true → o ≡ first_below f n
first_below_is f n i None h none here some = cc
first_below_is f n i (Some x) h none here some = sym (first_below_found f n i x h none (sym here))

-- if nothing is found below n or at n, nothing is found below n + 1
pub first_below_more : {X : Type 0} (f : ℕ → Option X) (n : ℕ) → first_below f n ≡ None → f n ≡ None → first_below f (n + 1) ≡ None
first_below_more f n none here = subst (λ (k : ℕ). first_below f k ≡ None) (sym (add-one n)) (first_of_none (first_below f n) (f n) none here)

-- if the function has no value at any number, the search finds nothing
pub none_below : {X : Type 0} (f : ℕ → Option X) (n : ℕ) → ((k : ℕ) → k < n → f k ≡ None) → first_below f n ≡ None
none_below f zero none = refl
none_below f (suc n) none = first_of_none (first_below f n) (f n) (none_below f n (λ k h. none k (omega arith))) (none n (omega arith))
