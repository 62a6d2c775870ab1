-- How often a number stands in a list, and sums over the numbers below a bound.
use Rattle.std.proofs.Common.{◌≡◌, ℕ, zero, suc, ◌+◌, ◌<◌, ◌≤◌, Bool, false, cond, eqb, ◌⊎◌, inl, inr, List, [], ◌∷◌, ◌++◌, length, slice_get, Some, refl, ap, ap₂, sym, ◌∙◌, zero-add, arith, sum_by}
use Rattle.std.proofs.lemmas.List.Sums.{sum_by-cons}
use Rattle.std.proofs.lemmas.Bool.{cases_lt, cases_eq, eq-eqb, ne_eqb}
use Rattle.match_model.proofs.Rankings.{eqb_comm}

-- how often number x stands in the list
abbrev pub count_of : ℕ → List ℕ → ℕ
count_of x [] = 0
count_of x (y ∷ ys) = cond (eqb y x) 1 0 + count_of x ys

pub count_of-append : (x : ℕ) (xs ys : List ℕ) → count_of x (xs ++ ys) ≡ count_of x xs + count_of x ys
count_of-append x [] ys = omega arith
count_of-append x (z ∷ zs) ys = omega (arith, count_of-append x zs ys)

pub count_of_push : (x : ℕ) (xs : List ℕ) (y : ℕ) → count_of x (xs ++ y ∷ []) ≡ count_of x xs + cond (eqb y x) 1 0
count_of_push x xs y = omega (arith, count_of-append x xs (y ∷ []))

pub count_of_same : (x : ℕ) (xs : List ℕ) → count_of x (xs ++ x ∷ []) ≡ count_of x xs + 1
count_of_same x xs = let e = eq-eqb x x refl in count_of_push x xs x ∙ ap (λ (b : Bool). count_of x xs + cond b 1 0) e

-- ---- sums over the numbers below a bound

abbrev pub sum_below : (ℕ → ℕ) → ℕ → ℕ
sum_below f zero = 0
sum_below f (suc n) = sum_below f n + f n

pub sum_below_same : (f g : ℕ → ℕ) (n : ℕ) → ((k : ℕ) → k < n → f k ≡ g k) → sum_below f n ≡ sum_below g n
sum_below_same f g zero h = refl
sum_below_same f g (suc n) h = omega (arith, sum_below_same f g n (λ k l. h k (omega arith)), h n (omega arith))

pub sum_below-le : (f g : ℕ → ℕ) (n : ℕ) → ((k : ℕ) → k < n → f k ≤ g k) → sum_below f n ≤ sum_below g n
sum_below-le f g zero h = omega arith
sum_below-le f g (suc n) h = omega (arith, sum_below-le f g n (λ k l. h k (omega arith)), h n (omega arith))

pub sum_below-add : (f g : ℕ → ℕ) (n : ℕ) → sum_below (λ k. f k + g k) n ≡ sum_below f n + sum_below g n
sum_below-add f g zero = refl
sum_below-add f g (suc n) = omega (arith, sum_below-add f g n)

-- how a sum changes if the term at one number grows by d
pub sum_below_one_past : (f g : ℕ → ℕ) (n i d : ℕ) → n ≤ i → ((k : ℕ) → g k ≡ f k + cond (eqb k i) d 0) → sum_below g n ≡ sum_below f n
sum_below_one_past f g zero i d l h = refl
sum_below_one_past f g (suc n) i d l h =
    let e : eqb n i ≡ false = ne_eqb n i (λ (q : n ≡ i). omega arith) in
    let s : g n ≡ f n = h n ∙ (rw e (omega arith)) in
    omega (arith, sum_below_one_past f g n i d (omega arith) h, s)

pub sum_below_one : (f g : ℕ → ℕ) (n i d : ℕ) → i < n → ((k : ℕ) → g k ≡ f k + cond (eqb k i) d 0) → sum_below g n ≡ sum_below f n + d
sum_below_one f g zero i d l h = absurd (omega arith)
sum_below_one f g (suc n) i d l h = go (cases_eq n i) (λ (m : i < n). sum_below_one f g n i d m h)
  where
    go : (n ≡ i) ⊎ (n ≡ i → ⊥) → (i < n → sum_below g n ≡ sum_below f n + d) → sum_below g (suc n) ≡ sum_below f (suc n) + d
    go (inl q) before =
        let s : g n ≡ f n + d = h n ∙ (rw (eq-eqb n i q) refl) in
        omega (arith, sum_below_one_past f g n i d (omega arith) h, s)
    go (inr q) before =
        let s : g n ≡ f n = h n ∙ (rw (ne_eqb n i q) (omega arith)) in
        let r : sum_below g n ≡ sum_below f n + d = before (omega arith) in
        omega arith

pub sum_below_zero : (n : ℕ) → sum_below (λ k. 0) n ≡ 0
sum_below_zero zero = refl
sum_below_zero (suc n) = omega (arith, sum_below_zero n)

-- at most one of the numbers below n equals x
pub sum_below_mark : (x n : ℕ) → sum_below (λ k. cond (eqb x k) 1 0) n ≤ 1
sum_below_mark x n = step (cases_lt x n)
  where
    each : (k : ℕ) → ◌≡◌ {A = ℕ} (cond (eqb x k) 1 0) (0 + cond (eqb k x) 1 0)
    each k = rw (eqb_comm x k) (sym (zero-add _))

    step : (x < n) ⊎ (n ≤ x) → sum_below (λ k. cond (eqb x k) 1 0) n ≤ 1
    step (inl l) = omega (arith, sum_below_one (λ k. 0) (λ k. cond (eqb x k) 1 0) n x 1 l each, sum_below_zero n)
    step (inr l) = omega (arith, sum_below_one_past (λ k. 0) (λ k. cond (eqb x k) 1 0) n x 1 l each, sum_below_zero n)

pub sum_below_counts : (xs : List ℕ) (n : ℕ) → sum_below (λ k. count_of k xs) n ≤ length xs
sum_below_counts [] n = omega (arith, sum_below_zero n)
sum_below_counts (x ∷ xs) n = omega (arith, sum_below-add (λ k. cond (eqb x k) 1 0) (λ k. count_of k xs) n, sum_below_mark x n, sum_below_counts xs n)

-- ---- sums over the items of a list

pub sum_by_same : {X : Type 0} (f g : X → ℕ) (xs : List X) → ((i : ℕ) (x : X) → slice_get xs i ≡ Some x → f x ≡ g x) → sum_by f xs ≡ sum_by g xs
sum_by_same f g [] h = refl
sum_by_same f g (x ∷ xs) h = sum_by-cons f x xs ∙ ap₂ (λ s t. s + t) (h 0 x refl) (sum_by_same f g xs (λ i y e. h (suc i) y e)) ∙ sym (sum_by-cons g x xs)

pub sum_by-le : {X : Type 0} (f g : X → ℕ) (xs : List X) → ((i : ℕ) (x : X) → slice_get xs i ≡ Some x → f x ≤ g x) → sum_by f xs ≤ sum_by g xs
sum_by-le f g [] h = omega arith
sum_by-le f g (x ∷ xs) h = omega (arith, sum_by-cons f x xs, sum_by-cons g x xs, h 0 x refl, sum_by-le f g xs (λ i y e. h (suc i) y e))

pub sum_by_one : {X : Type 0} (xs : List X) → sum_by (λ x. 1) xs ≡ length xs
sum_by_one [] = refl
sum_by_one (x ∷ xs) = omega (arith, sum_by-cons (λ x. 1) x xs, sum_by_one xs)
