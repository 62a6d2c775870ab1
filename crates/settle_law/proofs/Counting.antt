-- Counts in lists of numbers. Different numbers that stand in a list are at most as many as the list's items. Sums keep
-- the order of their terms.
use Rattle.std.proofs.Common.{◌≡◌, ℕ, ◌+◌, ◌<◌, ◌≤◌, Bool, true, false, cond, not, eqb, List, [], ◌∷◌, length, arith, refl, sym, ap, ◌∙◌, inl, inr, subst, eqb-true, eq-eqb}
use Rattle.std.specs.List.{sum_by, count_by, filter, range_with_len}
use Rattle.std.proofs.lemmas.List.Sums.{sum_by-cons, length-filter, count_by-le-length}
use Rattle.match_model.specs.Ranking.{IsListed, is_listed, HasNoRepeats}
use Rattle.match_model.proofs.Rankings.{is_listed_from, is_listed-true}
use Rattle.match_model.proofs.Listed.{no_repeats_tail, no_repeats_head}
use Rattle.settle_law.proofs.Places.{IsListed-cons, IsListed-cons_same, IsListed-cons_cases, IsListed-nil, range_has, HasNoRepeats-range, HasNoRepeats-filter, IsListed-filter}

-- a test as a number: 1 if it passes, else 0
abbrev pub one_if : Bool → ℕ
one_if b = cond b 1 0

pub one_if_le : (b c : Bool) → (b ≡ true → c ≡ true) → one_if b ≤ one_if c
one_if_le true c h = rw (h refl) (omega arith)
one_if_le false c h = omega arith

pub one_if_apart : (b c d : Bool) → (b ≡ true → d ≡ true) → (c ≡ true → d ≡ true) → (b ≡ true → c ≡ true → ⊥) →
    one_if b + one_if c ≤ one_if d
one_if_apart true true d h k n = absurd (n refl refl)
one_if_apart true false d h k n = rw (h refl) (omega arith)
one_if_apart false true d h k n = rw (k refl) (omega arith)
one_if_apart false false d h k n = omega arith

pub sum_by-le_listed : (f g : ℕ → ℕ) (xs : List ℕ) → ((x : ℕ) → IsListed xs x → f x ≤ g x) → sum_by f xs ≤ sum_by g xs
sum_by-le_listed f g [] h = omega arith
sum_by-le_listed f g (x ∷ xs) h =
    let rest : sum_by f xs ≤ sum_by g xs = sum_by-le_listed f g xs (λ y l. h y (IsListed-cons x xs y l)) in
    let first : f x ≤ g x = h x (IsListed-cons_same x xs) in
    omega (arith, sum_by-cons f x xs, sum_by-cons g x xs)

pub same_terms : (f g : ℕ → ℕ) (xs : List ℕ) → ((x : ℕ) → IsListed xs x → f x ≤ g x) → sum_by g xs ≤ sum_by f xs →
    (x : ℕ) → IsListed xs x → f x ≡ g x
same_terms f g [] h t x l = absurd (IsListed-nil x l)
same_terms f g (y ∷ ys) h t x l =
    let rest : sum_by f ys ≤ sum_by g ys = sum_by-le_listed f g ys (λ z m. h z (IsListed-cons y ys z m)) in
    let first : f y ≤ g y = h y (IsListed-cons_same y ys) in
    let cf = sum_by-cons f y ys in
    let cg = sum_by-cons g y ys in
    elim (IsListed-cons_cases y ys x l) [
      | inl c ↦ subst (λ z. f z ≡ g z) c (omega arith)
      | inr c ↦ same_terms f g ys (λ z m. h z (IsListed-cons y ys z m)) (omega arith) x c
    ]

pub sum_by_zeros : (f : ℕ → ℕ) (xs : List ℕ) → ((x : ℕ) → f x ≡ 0) → sum_by f xs ≡ 0
sum_by_zeros f [] h = refl
sum_by_zeros f (x ∷ xs) h = omega (arith, sum_by-cons f x xs, h x, sum_by_zeros f xs h)

pub sum_by-plus : (f g : ℕ → ℕ) (xs : List ℕ) → sum_by (λ x. f x + g x) xs ≡ sum_by f xs + sum_by g xs
sum_by-plus f g [] = refl
sum_by-plus f g (x ∷ xs) =
    omega (arith, sum_by-plus f g xs, sum_by-cons f x xs, sum_by-cons g x xs, sum_by-cons (λ y. f y + g y) x xs)

pub count_by-le_listed : (f g : ℕ → Bool) (xs : List ℕ) → ((x : ℕ) → IsListed xs x → f x ≡ true → g x ≡ true) →
    count_by f xs ≤ count_by g xs
count_by-le_listed f g xs h = sum_by-le_listed (λ x. one_if (f x)) (λ x. one_if (g x)) xs (λ x l. one_if_le (f x) (g x) (h x l))

pub count_by-apart : (f g h : ℕ → Bool) (xs : List ℕ) → ((x : ℕ) → f x ≡ true → h x ≡ true) →
    ((x : ℕ) → g x ≡ true → h x ≡ true) → ((x : ℕ) → f x ≡ true → g x ≡ true → ⊥) →
    count_by f xs + count_by g xs ≤ count_by h xs
count_by-apart f g h xs p q n =
    let le = sum_by-le_listed (λ x. one_if (f x) + one_if (g x)) (λ x. one_if (h x)) xs (λ x l. one_if_apart (f x) (g x) (h x) (p x) (q x) (n x)) in
    let sums = sum_by-plus (λ x. one_if (f x)) (λ x. one_if (g x)) xs in
    omega arith

-- the items that pass a test and the items that fail it are together all items
pub count_by-not : (f : ℕ → Bool) (xs : List ℕ) → count_by f xs + count_by (λ x. not (f x)) xs ≡ length xs
count_by-not f [] = refl
count_by-not f (x ∷ xs) =
    let rest = count_by-not f xs in
    let cf = sum_by-cons (λ y. one_if (f y)) x xs in
    let cg = sum_by-cons (λ y. one_if (not (f y))) x xs in
    let one : one_if (f x) + one_if (not (f x)) ≡ 1 = both (f x) in
    omega arith
  where
    both : (b : Bool) → one_if b + one_if (not b) ≡ 1
    both true = refl
    both false = refl

pub count_by_pos : (f : ℕ → Bool) (xs : List ℕ) (x : ℕ) → IsListed xs x → f x ≡ true → 1 ≤ count_by f xs
count_by_pos f [] x l p = absurd (IsListed-nil x l)
count_by_pos f (y ∷ ys) x l p =
    let cf = sum_by-cons (λ z. one_if (f z)) y ys in
    elim (IsListed-cons_cases y ys x l) [
      | inl c ↦ let e : f y ≡ true = ap f c ∙ p in let e' : one_if (f y) ≡ 1 = ap one_if e in omega arith
      | inr c ↦ let h = count_by_pos f ys x c p in omega arith
    ]

pub different_among : (xs ys : List ℕ) → HasNoRepeats xs → ((x : ℕ) → IsListed xs x → IsListed ys x) →
    length xs ≤ count_by (is_listed xs) ys
different_among [] ys n h = omega arith
different_among (x ∷ xs) ys n h =
    let rest = different_among xs ys (no_repeats_tail x xs n) (λ z l. h z (IsListed-cons x xs z l)) in
    let first = count_by_pos (λ z. eqb x z) ys x (h x (IsListed-cons_same x xs)) (eq-eqb x x refl) in
    let both = count_by-apart (λ z. eqb x z) (is_listed xs) (is_listed (x ∷ xs)) ys
    (λ z e. is_listed_from (x ∷ xs) z (subst (IsListed (x ∷ xs)) (eqb-true x z e) (IsListed-cons_same x xs)))
    (λ z e. is_listed_from (x ∷ xs) z (IsListed-cons x xs z (is_listed-true xs z e)))
    (λ z e d. no_repeats_head x xs n (is_listed-true xs x (subst (λ w. is_listed xs w ≡ true) (sym (eqb-true x z e)) d))) in
    omega arith

-- If all different numbers of list xs stand in list ys and pass a test, then xs has at most as many items as pass the
-- test in ys.
pub different_pass : (xs ys : List ℕ) (f : ℕ → Bool) → HasNoRepeats xs →
    ((x : ℕ) → IsListed xs x → IsListed ys x × (f x ≡ true)) → length xs ≤ count_by f ys
different_pass xs ys f n h =
    let a = different_among xs ys n (λ x l. (h x l).0) in
    let b = count_by-le_listed (is_listed xs) f ys (λ x l e. (h x (is_listed-true xs x e)).1) in
    omega arith

pub count_by-same-le : (xs : List ℕ) (q : ℕ) → HasNoRepeats xs → count_by (λ x. eqb q x) xs ≤ 1
count_by-same-le xs q n =
    let kept = filter (λ x. eqb q x) xs in
    let among = different_among kept (q ∷ []) (HasNoRepeats-filter (λ x. eqb q x) xs n)
    (λ x l. subst (IsListed (q ∷ [])) (eqb-true q x (IsListed-filter (λ y. eqb q y) xs x l).1) (IsListed-cons_same q [])) in
    let all = count_by-le-length (is_listed kept) (q ∷ []) in
    let size = length-filter (λ x. eqb q x) xs in
    omega arith

-- each number below n stands once in the list of the numbers below n
pub count_by-range_same : (n q : ℕ) → q < n → count_by (λ p. eqb q p) (range_with_len 0 n) ≡ 1
count_by-range_same n q l =
    let le = count_by-same-le (range_with_len 0 n) q (HasNoRepeats-range 0 n) in
    let ge = count_by_pos (λ p. eqb q p) (range_with_len 0 n) q (range_has 0 n q (omega arith) (omega arith)) (eq-eqb q q refl) in
    omega arith
