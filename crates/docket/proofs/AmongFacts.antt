-- How many of different texts stand in a list of texts.
use Rattle.std.proofs.Common.{◌≡◌, ◌≤◌, ◌+◌, ℕ, suc, List, [], ◌∷◌, ◌++◌, Bool, true, false, length, count_by, sym, ◌∙◌, refl, ap, arith, zero-add}
use Rattle.std.specs.Prelude.{◌&&◌, ◌||◌, if◌then◌else◌, bytes_eq}
use Rattle.std.specs.List.{list_all, IsDistinct, AllByRecursion}
use Rattle.std.proofs.lemmas.List.Sums.{sum_by-append}
use Rattle.std.proofs.lemmas.Map.Keys.{IsDistinct-head, IsDistinct-tail}
use Rattle.docket.specs.Lists.{is_among}
use Rattle.docket_names.proofs.NameFacts.{same_bytes}
use Rattle.docket.proofs.RankingFacts.{bytes_eq-swap}

-- the number of items in two joined lists that pass a test is that of the first list and that of the second
-- together
pub count_append : (p : List ℕ → Bool) (xs ys : List (List ℕ)) → count_by p (xs ++ ys) ≡ count_by p xs + count_by p ys
count_append p xs ys = sum_by-append (λ (x : List ℕ). if p x then 1 else 0) xs ys

count_cons : {A : Type 0} (p : A → Bool) (x : A) (xs : List A) → count_by p (x ∷ xs) ≡ (if p x then 1 else 0) + count_by p xs
count_cons {A} p x xs = sum_by-append (λ (y : A). if p y then 1 else 0) (x ∷ []) xs ∙ ap (λ n. n + count_by p xs) (zero-add (if p x then 1 else 0))

pub count_all : (p : List ℕ → Bool) (xs : List (List ℕ)) → list_all p xs ≡ true → count_by p xs ≡ length xs
count_all p [] h = refl
count_all p (x ∷ xs) h = count_cons p x xs ∙ by (p x) h (count_all p xs)
  where
    by : (b : Bool) → (b && list_all p xs) ≡ true → (list_all p xs ≡ true → count_by p xs ≡ length xs) → (if b then 1 else 0) + count_by p xs ≡ suc (length xs)
    by true e more = let rest = more e in omega (arith, rest)
    by false e more = absurd (cc e)

pub count_wider : (p q : List ℕ → Bool) → ((x : List ℕ) → p x ≡ true → q x ≡ true) → (xs : List (List ℕ)) → count_by p xs ≤ count_by q xs
count_wider p q h [] = omega arith
count_wider p q h (x ∷ xs) = rw (count_cons p x xs, count_cons q x xs) (by (p x) refl (q x) refl (count_wider p q h xs))
  where
    by : (a : Bool) → p x ≡ a → (b : Bool) → q x ≡ b → count_by p xs ≤ count_by q xs → (if a then 1 else 0) + count_by p xs ≤ (if b then 1 else 0) + count_by q xs
    by true e true f le = omega (arith, le)
    by true e false f le = let on = h x e in absurd (cc (on, f))
    by false e true f le = omega (arith, le)
    by false e false f le = omega (arith, le)

count_none : (p : List ℕ → Bool) → ((x : List ℕ) → p x ≡ false) → (xs : List (List ℕ)) → count_by p xs ≡ 0
count_none p h [] = refl
count_none p h (x ∷ xs) = let rest = count_none p h xs in rw (count_cons p x xs, h x, rest) refl

-- if all texts of a list differ from x, and k is x, no text of the list equals k
count_same : (x k : List ℕ) → x ≡ k → (ys : List (List ℕ)) → AllByRecursion (λ y. bytes_eq x y ≡ false) ys → count_by (λ y. bytes_eq y k) ys ≡ 0
count_same x k e [] h = refl
count_same x k e (y ∷ ys) h =
    let rest = count_same x k e ys h.1 in
    let other : bytes_eq y k ≡ false = ap (bytes_eq y) (sym e) ∙ bytes_eq-swap x y h.0 in
    rw (count_cons (λ y. bytes_eq y k) y ys, other, rest) refl

count_one : (k : List ℕ) (xs : List (List ℕ)) → IsDistinct bytes_eq xs → count_by (λ x. bytes_eq x k) xs ≤ 1
count_one k [] d = omega arith
count_one k (x ∷ xs) d = rw (count_cons (λ x. bytes_eq x k) x xs) (by (bytes_eq x k) refl (count_one k xs (IsDistinct-tail bytes_eq x xs d)))
  where
    by : (b : Bool) → bytes_eq x k ≡ b → count_by (λ x. bytes_eq x k) xs ≤ 1 → (if b then 1 else 0) + count_by (λ x. bytes_eq x k) xs ≤ 1
    by true e le = let none = count_same x k (same_bytes x k e) xs (IsDistinct-head bytes_eq x xs d) in omega (arith, none)
    by false e le = omega (arith, le)

pub count_split : {A : Type 0} (p q r : A → Bool) → ((x : A) → p x ≡ true → (q x || r x) ≡ true) → (xs : List A) → count_by p xs ≤ count_by q xs + count_by r xs
count_split p q r h [] = omega arith
count_split p q r h (x ∷ xs) = rw (count_cons p x xs, count_cons q x xs, count_cons r x xs) (by (p x) refl (q x) refl (r x) refl (count_split p q r h xs))
  where
    by : (a : Bool) → p x ≡ a → (b : Bool) → q x ≡ b → (c : Bool) → r x ≡ c → count_by p xs ≤ count_by q xs + count_by r xs
        → (if a then 1 else 0) + count_by p xs ≤ ((if b then 1 else 0) + count_by q xs) + ((if c then 1 else 0) + count_by r xs)
    by false e true f true g le = omega (arith, le)
    by false e true f false g le = omega (arith, le)
    by false e false f true g le = omega (arith, le)
    by false e false f false g le = omega (arith, le)
    by true e true f true g le = omega (arith, le)
    by true e true f false g le = omega (arith, le)
    by true e false f true g le = omega (arith, le)
    by true e false f false g le =
        let on : (q x || r x) ≡ true = h x e in
        let off : (q x || r x) ≡ false = rw (f, g) refl in
        absurd (cc (on, off))

-- of different texts, at most as many stand in a list as the list has items
pub few_among : (known texts : List (List ℕ)) → IsDistinct bytes_eq texts → count_by (is_among known) texts ≤ length known
few_among [] texts d = let none = count_none (is_among []) (λ x. refl) texts in omega (arith, none)
few_among (k ∷ ks) texts d =
    let split = count_split (is_among (k ∷ ks)) (λ x. bytes_eq x k) (is_among ks) (λ x e. e) texts in
    let one = count_one k texts d in
    let rest = few_among ks texts d in
    omega (arith, split, one, rest)

pub or_right : (a b : Bool) → b ≡ true → (a || b) ≡ true
or_right true b e = refl
or_right false b e = e

pub or_left : (a b : Bool) → a ≡ true → (a || b) ≡ true
or_left true b e = refl
or_left false b e = absurd (cc e)
