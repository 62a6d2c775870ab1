-- Sorted lists of pairs, built by adding the pairs of one first number after another.
use Rattle.std.proofs.Common.{◌≡◌, ℕ, zero, suc, ◌+◌, ◌-◌, ◌<◌, ◌⊎◌, inl, inr, List, [], ◌∷◌, ◌++◌, length, map, get_or, arith, refl, sym, ap, ◌∙◌, subst}
use Rattle.std.specs.Prelude.{◌↔◌}
use Rattle.std.specs.List.{AllPairs, Contains}
use Rattle.std.specs.List.Sorted.{IsStrictlyIncreasing}
use Rattle.std.proofs.lemmas.Bool.{cases_lt}
use Rattle.std.proofs.lemmas.List.{length-append, length-map, get_or_append_left, get_or-append_right, get_or-map}
use Rattle.std.proofs.lemmas.List.Elements.{Contains-get_or, Contains-append_left, Contains-append_right, Contains-append_cases}
use Rattle.std.proofs.lemmas.List.Kept.{AllPairs-from_increasing}
use Rattle.match_audit.specs.Listing.{ComesBefore, Lists}

pub AllPairs-append : {X : Type 0} (R : X → X → Type 0) (xs ys : List X) → AllPairs R xs → AllPairs R ys →
    ((x y : X) → Contains xs x → Contains ys y → R x y) → AllPairs R (xs ++ ys)
AllPairs-append R xs ys h k across i j d l m = elim (cases_lt j (length xs)) [
  | inl c ↦ rw (get_or_append_left xs ys d i (omega arith), get_or_append_left xs ys d j c) (h i j d l c)
  | inr c ↦
      let n : j - length xs < length ys = omega (arith, length-append xs ys) in
      rw (get_or-append_right xs ys (length xs) j d refl c) (elim (cases_lt i (length xs)) [
        | inl b ↦ rw (get_or_append_left xs ys d i b) (across (get_or xs i d) (get_or ys (j - length xs) d) (Contains-get_or xs i d b) (Contains-get_or ys (j - length xs) d n))
        | inr b ↦ rw (get_or-append_right xs ys (length xs) i d refl b) (k (i - length xs) (j - length xs) d (omega arith) n)
      ])
]

-- two joined lists of pairs list the pairs of both, if every pair of the first list comes before every pair of the
-- second
pub Lists-append : (R S T : ℕ → ℕ → Type 0) (xs ys : List (ℕ × ℕ)) → Lists R xs → Lists S ys →
    ((a b c d : ℕ) → R a b → S c d → ComesBefore (a, b) (c, d)) → ((a b : ℕ) → R a b → T a b) → ((a b : ℕ) → S a b → T a b) →
    ((a b : ℕ) → T a b → R a b ⊎ S a b) → Lists T (xs ++ ys)
Lists-append R S T xs ys h k before left right parts = record {
  each = λ a b. (
    λ c. elim (Contains-append_cases xs ys (a, b) c) [ inl d ↦ left a b ((h.each a b).0 d) | inr d ↦ right a b ((k.each a b).0 d) ],
    λ t. elim (parts a b t) [
      | inl r ↦ Contains-append_left xs ys (a, b) ((h.each a b).1 r)
      | inr s ↦ Contains-append_right xs ys (a, b) ((k.each a b).1 s)
    ],
  );
  rising = AllPairs-append ComesBefore xs ys h.rising k.rising
      (λ (x y : ℕ × ℕ) c d. before x.0 x.1 y.0 y.1 ((h.each x.0 x.1).0 c) ((k.each y.0 y.1).0 d));
}

pub Lists-same : (R S : ℕ → ℕ → Type 0) (xs : List (ℕ × ℕ)) → Lists R xs → ((a b : ℕ) → R a b → S a b) →
    ((a b : ℕ) → S a b → R a b) → Lists S xs
Lists-same R S xs h to from = record {
  each = λ a b. (λ c. to a b ((h.each a b).0 c), λ s. (h.each a b).1 (from a b s));
  rising = h.rising;
}

-- the pairs for which R holds and whose first number is below n
abbrev pub upto : ℕ → (ℕ → ℕ → Type 0) → ℕ → ℕ → Type 0
upto n R a b = (a < n) × R a b

pub Lists_all : (R : ℕ → ℕ → Type 0) (n : ℕ) (xs : List (ℕ × ℕ)) → Lists (upto n R) xs → ((a b : ℕ) → R a b → a < n) → Lists R xs
Lists_all R n xs h within = Lists-same (upto n R) R xs h (λ a b r. r.1) (λ a b r. (within a b r, r))

-- the pairs below n + 1 are the pairs below n, and then the pairs with first number n
pub Lists_more : (R : ℕ → ℕ → Type 0) (n : ℕ) (xs ys : List (ℕ × ℕ)) → Lists (upto n R) xs →
    Lists (λ a b. (a ≡ n) × R a b) ys → Lists (upto (n + 1) R) (xs ++ ys)
Lists_more R n xs ys h k =
    Lists-append (upto n R) (λ a b. (a ≡ n) × R a b) (upto (n + 1) R) xs ys h k
    (λ a b c d r s. inl (let l = r.0 in let e = s.0 in omega arith))
    (λ a b r. (let l = r.0 in omega arith, r.1))
    (λ a b s. (let e = s.0 in omega arith, s.1))
    (λ a b t. elim (cases_lt a n) [ inl c ↦ inl (c, t.1) | inr c ↦ inr (let l = t.0 in omega arith, t.1) ])

-- if no pair has the first number n, the pairs below n + 1 are the pairs below n
pub Lists_more_none : (R : ℕ → ℕ → Type 0) (n : ℕ) (xs : List (ℕ × ℕ)) → Lists (upto n R) xs → ((b : ℕ) → R n b → ⊥) →
    Lists (upto (n + 1) R) xs
Lists_more_none R n xs h none =
    Lists-same (upto n R) (upto (n + 1) R) xs h
    (λ a b r. (let l = r.0 in omega arith, r.1))
    (λ a b t. elim (cases_lt a n) [
      | inl c ↦ (c, t.1)
      | inr c ↦ let e : a ≡ n = (let l = t.0 in omega arith) in absurd (none b (subst (λ z. R z b) e t.1))
    ])

abbrev same_pair : ℕ × ℕ → ℕ × ℕ → Type 0
same_pair x y = x ≡ y

-- if one pair has the first number n, this pair is added at the end
pub Lists_more_one : (R : ℕ → ℕ → Type 0) (n b : ℕ) (xs : List (ℕ × ℕ)) → Lists (upto n R) xs → R n b →
    ((c : ℕ) → R n c → c ≡ b) → Lists (upto (n + 1) R) (xs ++ (n, b) ∷ [])
Lists_more_one R n b xs h here only = Lists_more R n xs ((n, b) ∷ []) h (record {
  each = λ a c. (
    λ has. let e : same_pair (n, b) (a, c) = one has in
        (sym (ap (λ (z : ℕ × ℕ). z.0) e), subst (λ (z : ℕ × ℕ). R z.0 z.1) e here),
    λ r. let e : same_pair (n, b) (a, c) = pair a c r.0 (only c (subst (λ z. R z c) r.0 r.1)) in (0, omega arith, e),
  );
  rising = λ i j d l m. absurd (omega arith);
})
  where
    one : {x y : ℕ × ℕ} → Contains (x ∷ []) y → x ≡ y
    one {x} {y} (zero, l, e) = e
    one {x} {y} (suc k, l, e) = absurd (omega arith)

    pair : (a c : ℕ) → a ≡ n → c ≡ b → same_pair (n, b) (a, c)
    pair a c e f = cc

abbrev pub pair_of : ℕ → ℕ → ℕ × ℕ
pair_of n p = (n, p)

-- the pairs with first number n have the items of a sorted list as second numbers
pub Lists_more_row : (R : ℕ → ℕ → Type 0) (n : ℕ) (xs : List (ℕ × ℕ)) (ps : List ℕ) → Lists (upto n R) xs →
    IsStrictlyIncreasing ps → ((b : ℕ) → Contains ps b ↔ R n b) → Lists (upto (n + 1) R) (xs ++ map (pair_of n) ps)
Lists_more_row R n xs ps h up row = Lists_more R n xs (map (pair_of n) ps) h (record {
  each = λ a b. (
    λ (k, l, e).
        let m : k < length ps = omega (arith, length-map ps (pair_of n)) in
        let at : same_pair (n, get_or ps k b) (a, b) = sym (get_or-map (pair_of n) ps k b (a, b) m) ∙ e in
        (sym (ap (λ (z : ℕ × ℕ). z.0) at), subst (λ (z : ℕ × ℕ). R z.0 b) at ((row b).0 (k, m, ap (λ (z : ℕ × ℕ). z.1) at))),
    λ r.
        let c = (row b).1 (subst (λ z. R z b) r.0 r.1) in (
          c.0,
          omega (arith, c.1, length-map ps (pair_of n)),
          get_or-map (pair_of n) ps c.0 b (a, b) c.1 ∙ pair a b (get_or ps c.0 b) r.0 c.2,
        ),
  );
  rising = λ i j d l m.
      let k : j < length ps = omega (arith, length-map ps (pair_of n)) in
      rw (get_or-map (pair_of n) ps i 0 d (omega arith), get_or-map (pair_of n) ps j 0 d k)
      (inr (refl, AllPairs-from_increasing ps up i j 0 l k));
})
  where
    pair : (a b c : ℕ) → a ≡ n → c ≡ b → same_pair (n, c) (a, b)
    pair a b c e f = cc
