-- Lists of names that stand for numbers: where a name stands, and that each stands once.
use Rattle.std.proofs.Common.{◌≡◌, ℕ, zero, suc, ◌+◌, ◌<◌, ◌≤◌, ◌&&◌, Bool, true, false, List, [], ◌∷◌, length, map, take, get_or, nat_lt, Option, Some, None, option_map, is_some, refl, sym, ap, ◌∙◌, arith, subst, inl, inr}
use Rattle.std.specs.Prelude.{bytes_eq, if◌then◌else◌, not}
use Rattle.std.specs.List.{All, list_all}
use Rattle.std.proofs.lemmas.Bool.{cases_Bool}
use Rattle.std.proofs.lemmas.List.{get_or-map, get_or-take, length-map, length-take, take-map}
use Rattle.std.proofs.lemmas.List.Elements.{All-head, All-tail, All-take}
use Rattle.std.proofs.lemmas.Slice.Eq.{bytes_eq-Decides}
use Rattle.match_model.specs.Ranking.{place, IsListed, HasNoRepeats}
use Rattle.settle_law.proofs.Places.{place_cases, IsListed-nil, IsListed-cons_cases, IsListed-get_or, IsListed-cons, get_or-place}
use Rattle.docket_names.specs.Words.{is_name}
use Rattle.docket_names.specs.Texts.{is_declared, number_in}
use Rattle.docket.proofs.NumberFacts.{number_in-cons}
use Rattle.receipt_check.specs.Rows.{Cells, text_at}
use Rattle.receipt_check.specs.Faults.{first_in, found_at, is_on, name_at, name_wrong, wrong_name}

-- if a function is none at all places below n, it has no first value there
pub none_in : {X : Type 0} (f : ℕ → Option X) (n : ℕ) → ((k : ℕ) → k < n → f k ≡ None) → first_in f n ≡ None
none_in f zero h = refl
none_in f (suc n) h = rw (none_in f n (λ k l. h k (omega (arith, l)))) (h n (omega arith))

-- each number below n has a name, and no two of them have the same
pub record AreNamesOf (n : ℕ) (name : ℕ → List ℕ) : Type 0 where
  pub named : (k : ℕ) → k < n → is_name (name k) ≡ true
  pub apart : (j k : ℕ) → j < n → k < n → name j ≡ name k → j ≡ k

abbrev pub Below : ℕ → List ℕ → Type 0
Below n xs = All (λ x. x < n) xs

module _ (n : ℕ) (name : ℕ → List ℕ) (are : AreNamesOf n name) where
  -- the name of a listed number is found among the names of the list, at the number's place
  pub numbered : (xs : List ℕ) (x : ℕ) → x < n → Below n xs → IsListed xs x → number_in (map name xs) (name x) ≡ Some (place xs x)
  numbered [] x l b h = absurd (IsListed-nil x h)
  numbered (y ∷ ys) x l b h = number_in-cons (name y) (map name ys) (name x) ∙ elim (place_cases y ys x) [
    | inl here ↦ rw (here.1, ap name (sym here.0), (bytes_eq-Decides (name y) (name y)).1 refl) refl
    | inr past ↦
        let other : bytes_eq (name x) (name y) ≡ false = differ (bytes_eq (name x) (name y)) refl past.0 in
        let more : IsListed ys x = later past.1 in
        let rest = numbered ys x l (All-tail (λ z. z < n) y ys b) more in
        let next : suc (place ys x) ≡ 1 + place ys x = omega arith in
        rw (other, rest, past.1) (ap Some next)
  ]
    where
      differ : (t : Bool) → bytes_eq (name x) (name y) ≡ t → (y ≡ x → ⊥) → t ≡ false
      differ false e d = refl
      differ true e d = absurd (d (sym (are.apart x y l (All-head (λ z. z < n) y ys b) ((bytes_eq-Decides (name x) (name y)).0 e))))

      later : place (y ∷ ys) x ≡ 1 + place ys x → IsListed ys x
      later e = omega (arith, e, h)

  -- the name of a number that isn't listed isn't found among the names of the list
  pub unnumbered : (xs : List ℕ) (x : ℕ) → x < n → Below n xs → (IsListed xs x → ⊥) → number_in (map name xs) (name x) ≡ None
  unfolding number_in
  unnumbered [] x l b h = refl
  unnumbered (y ∷ ys) x l b h =
      number_in-cons (name y) (map name ys) (name x)
      ∙ rw (differ (bytes_eq (name x) (name y)) refl, unnumbered ys x l (All-tail (λ z. z < n) y ys b) (λ k. h (IsListed-cons y ys x k))) refl
    where
      differ : (t : Bool) → bytes_eq (name x) (name y) ≡ t → t ≡ false
      differ false e = refl
      differ true e =
          let same : y ≡ x = sym (are.apart x y l (All-head (λ z. z < n) y ys b) ((bytes_eq-Decides (name x) (name y)).0 e)) in
          absurd (elim (place_cases y ys x) [
            | inl here ↦ h (let e = here.1 in omega (arith, e))
            | inr past ↦ past.0 same
          ])

  pub declared : (xs : List ℕ) (x : ℕ) → x < n → Below n xs → IsListed xs x → is_declared (map name xs) (name x) ≡ true
  declared xs x l b h = ap is_some (numbered xs x l b h)

  -- the names of different numbers are all right, if each name is one that may stand on the list
  pub names_right : (on : Option Cells) (xs : List ℕ) → Below n xs → HasNoRepeats xs → ((x : ℕ) → IsListed xs x → is_on on (name x) ≡ true)
      → wrong_name on (map name xs) ≡ None
  unfolding wrong_name
  names_right on xs b once listed = none_in (name_at on (map name xs)) (length (map name xs)) (λ k l. right k (subst (λ m. k < m) (length-map xs name) l))
    where
      first : (k : ℕ) → k < length xs → IsListed (take k xs) (get_or xs k 0) → ⊥
      first k l h =
          let x = get_or xs k 0 in
          let j = place (take k xs) x in
          let size = length-take k xs in
          let early : place (take k xs) x < k = omega (arith, h, size, l) in
          let there : get_or xs (place (take k xs) x) 0 ≡ x = sym (get_or-take k xs (place (take k xs) x) 0 early) ∙ get_or-place (take k xs) x 0 h in
          once (place (take k xs) x) k 0 early l there

      right : (k : ℕ) → k < length xs → name_at on (map name xs) k ≡ None
      right k l =
          let x = get_or xs k 0 in
          let there : text_at (map name xs) k ≡ name x = get_or-map name xs k 0 [] l in
          let small : x < n = b k 0 l in
          let new : is_declared (take k (map name xs)) (name x) ≡ false =
          ap (λ (before : Cells). is_declared before (name x)) (take-map name k xs) ∙ ap is_some (unnumbered (take k xs) x small (All-take (λ z. z < n) k xs b) (first k l)) in
          rw (there, are.named x small, listed x (IsListed-get_or xs k 0 l), new) refl
