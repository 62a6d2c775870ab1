-- The numbers of names, and lists that have one entry for each name.
use Rattle.std.proofs.Common.{◌≡◌, ◌<◌, ◌+◌, ℕ, suc, List, [], ◌∷◌, Bool, true, false, length, get_or, map, arith, sym, ◌∙◌, refl, ap, Option, Some, None, cond, add-one}
use Rattle.std.specs.Prelude.{bytes_eq, ◌&&◌, not, if◌then◌else◌, option_map, slice_set}
use Rattle.std.specs.List.{list_any, position_from}
use Rattle.std.proofs.lemmas.Iterator.Adapters.{position_from-zero}
use Rattle.std.proofs.lemmas.Bool.{and_parts, or_parts}
use Rattle.docket_names.specs.Texts.{number_in}
use Rattle.docket_names.proofs.NameFacts.{same_bytes}

position_from-suc : {A : Type 0} (p : A → Bool) (n : ℕ) (xs : List A) → position_from p (n + 1) xs ≡ option_map suc (position_from p n xs)
position_from-suc p n [] = refl
position_from-suc p n (x ∷ xs) = by (p x) (position_from-suc p (n + 1) xs)
  where
    by : (b : Bool) → position_from p ((n + 1) + 1) xs ≡ option_map suc (position_from p (n + 1) xs)
        → cond b (Some (n + 1)) (position_from p ((n + 1) + 1) xs) ≡ option_map suc (cond b (Some n) (position_from p (n + 1) xs))
    by true e = ap Some (add-one n)
    by false e = e

-- the number of a name in a list of a first name and others
pub number_in-cons : (x : List ℕ) (xs : List (List ℕ)) (name : List ℕ)
    → number_in (x ∷ xs) name ≡ (if bytes_eq name x then Some 0 else option_map suc (number_in xs name))
unfolding number_in
number_in-cons x xs name =
    position_from-zero (bytes_eq name) (x ∷ xs)
    ∙ ap (λ o. if bytes_eq name x then Some 0 else o) (position_from-suc (bytes_eq name) 0 xs ∙ ap (option_map suc) (sym (position_from-zero (bytes_eq name) xs)))

-- a name with a number is the first name, or has a number among the names after it
number_cases : {P : Type 0} (x : List ℕ) (xs : List (List ℕ)) (name : List ℕ) (i : ℕ) → number_in (x ∷ xs) name ≡ Some i
    → (bytes_eq name x ≡ true → 0 ≡ i → P) → ((j : ℕ) → bytes_eq name x ≡ false → number_in xs name ≡ Some j → suc j ≡ i → P) → P
number_cases {P} x xs name i e here there = by (bytes_eq name x) refl (number_in xs name) refl (sym (number_in-cons x xs name) ∙ e)
  where
    by : (b : Bool) → bytes_eq name x ≡ b → (o : Option ℕ) → number_in xs name ≡ o → (if b then Some 0 else option_map suc o) ≡ Some i → P
    by true eb o eo h = here eb (cc h)
    by false eb None eo h = absurd (cc h)
    by false eb (Some j) eo h = there j eb eo (cc h)

no_number : (name : List ℕ) (i : ℕ) → number_in [] name ≡ Some i → ⊥
unfolding number_in
no_number name i h = cc h

-- a name's number is below the number of names
pub number_below : (names : List (List ℕ)) (name : List ℕ) (i : ℕ) → number_in names name ≡ Some i → i < length names
number_below [] name i e = absurd (no_number name i e)
number_below (x ∷ xs) name i e =
    number_cases x xs name i e (λ b z. omega arith) (λ j b at s. let below = number_below xs name j at in omega arith)

-- in a list made from the names, the entry at a name's number is made from this name
pub at_number : {B : Type 0} (f : List ℕ → B) (names : List (List ℕ)) (name : List ℕ) (i : ℕ) (d : B) → number_in names name ≡ Some i
    → get_or (map f names) i d ≡ f name
at_number f [] name i d e = absurd (let below = number_below [] name i e in omega arith)
at_number f (x ∷ xs) name i d e =
    number_cases x xs name i e
    (λ b z. rw (← z, same_bytes name x b) refl)
    (λ j b at s. rw (← s) (at_number f xs name j d at))

-- whether no name stands in the list twice
unfoldable pub distinct : List (List ℕ) → Bool
distinct [] = true
distinct (x ∷ xs) = not (list_any (bytes_eq x) xs) && distinct xs

-- a list made from names stays the same if its function changes only for a name that isn't in the list
map_same : {B : Type 0} (f g : List ℕ → B) (names : List (List ℕ)) (name : List ℕ) → list_any (bytes_eq name) names ≡ false
    → ((x : List ℕ) → bytes_eq name x ≡ false → g x ≡ f x) → map g names ≡ map f names
map_same f g [] name e h = refl
map_same f g (x ∷ xs) name e h =
    let parts = or_parts (bytes_eq name x) (list_any (bytes_eq name) xs) e in
    rw (h x parts.0, map_same f g xs name parts.1 h) refl

-- a list made from different names changes in one entry if its function changes for one name
pub map_at : {B : Type 0} (f g : List ℕ → B) (names : List (List ℕ)) (name : List ℕ) (i : ℕ) → distinct names ≡ true → number_in names name ≡ Some i
    → ((x : List ℕ) → bytes_eq name x ≡ false → g x ≡ f x) → map g names ≡ slice_set (map f names) i (g name)
unfolding distinct
map_at f g [] name i d e h = absurd (let below = number_below [] name i e in omega arith)
map_at f g (x ∷ xs) name i d e h =
    let parts = and_parts (not (list_any (bytes_eq x) xs)) (distinct xs) d in
    number_cases x xs name i e
    (λ b z.
    let same = same_bytes name x b in
    let others : list_any (bytes_eq name) xs ≡ false = rw same (off (list_any (bytes_eq x) xs) parts.0) in
    rw (← z, same) (ap (λ (r : List _). g x ∷ r) (map_same f g xs name others h)))
    (λ j b at s. rw (← s, h x b) (ap (λ (r : List _). f x ∷ r) (map_at f g xs name j parts.1 at h)))
  where
    off : (b : Bool) → not b ≡ true → b ≡ false
    off true h = cc h
    off false h = refl
