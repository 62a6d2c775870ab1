-- What a rank in a list says about places in the list.
use Rattle.std.proofs.Common.{◌≡◌, ℕ, ◌<◌, ◌≤◌, ◌⊎◌, inl, inr, Bool, true, false, cond, List, length, take, drop, arith, refl, sym, ap, ◌∙◌, take-append-drop}
use Rattle.std.specs.Prelude.{Option, Some, None, ◌↔◌}
use Rattle.std.proofs.lemmas.Bool.{cases_lt}
use Rattle.std.proofs.lemmas.List.{length-take-le}
use Rattle.std.proofs.lemmas.Option.{same_Some}
use Rattle.match_model.specs.Ranking.{place, IsListed, is_listed}
use Rattle.match_model.specs.Instance.{rank}
use Rattle.match_model.proofs.Rankings.{place-le, is_listed-true, is_listed-false, is_listed_not}
use Rattle.match_model.proofs.Listed.{place-append, place-append_past}

-- if o is x's rank on a list, then x is listed and o is its place, or x isn't listed and o is none
pub rank_parts : (xs : List ℕ) (x : ℕ) (o : Option ℕ) → o ≡ rank xs x → ((k : ℕ) × (o ≡ Some k) × IsListed xs x × (place xs x ≡ k)) ⊎ ((o ≡ None) × (IsListed xs x → ⊥))
rank_parts xs x o e = go (is_listed xs x) refl
  where
    go : (b : Bool) → is_listed xs x ≡ b → ((k : ℕ) × (o ≡ Some k) × IsListed xs x × (place xs x ≡ k)) ⊎ ((o ≡ None) × (IsListed xs x → ⊥))
    go true t = inl (place xs x, e ∙ ap (λ b. cond b (Some (place xs x)) None) t, is_listed-true xs x t, refl)
    go false t = inr (e ∙ ap (λ b. cond b (Some (place xs x)) None) t, is_listed-false xs x t)

pub place_unranked : (xs : List ℕ) (x : ℕ) → None ≡ rank xs x → place xs x ≡ length xs
place_unranked xs x e = elim (rank_parts xs x None e) [
  | inl c ↦ absurd (let h = c.1 in cc)
  | inr c ↦ elim (cases_lt (place xs x) (length xs)) [
    | inl d ↦ absurd (c.1 d)
    | inr d ↦ let l = place-le xs x in omega arith
  ]
]

-- a number is among the first k items of a list exactly if its place is below k
pub listed_in_front : (xs : List ℕ) (x k : ℕ) → k ≤ length xs → IsListed (take k xs) x ↔ (place xs x < k)
listed_in_front xs x k l = (
  λ h. let e = whole x h in let long = length-take-le k xs l in omega arith,
  λ h. elim (cases_lt (place (take k xs) x) (length (take k xs))) [
    | inl c ↦ c
    | inr c ↦
        let past = ap (λ (zs : List ℕ). place zs x) (sym (take-append-drop k xs)) ∙ place-append_past (take k xs) (drop k xs) x (is_listed_not (take k xs) x (λ a. omega arith)) in
        let long = length-take-le k xs l in absurd (omega arith)
  ],
)
  where
    whole : (x : ℕ) → IsListed (take k xs) x → place xs x ≡ place (take k xs) x
    whole x h = ap (λ (zs : List ℕ). place zs x) (sym (take-append-drop k xs)) ∙ place-append (take k xs) (drop k xs) x h

pub front_of : (xs : List ℕ) (q p k : ℕ) → Some k ≡ rank xs q → IsListed (take k xs) p ↔ (IsListed xs p × (place xs p < place xs q))
front_of xs q p k e = elim (rank_parts xs q (Some k) e) [
  | inl c ↦
      let same : k ≡ place xs q = same_Some k c.0 c.1 ∙ sym c.3 in
      let front = listed_in_front xs p k (let l = c.2 in omega arith) in
      (λ l. let b = front.0 l in let w = c.2 in (omega arith, omega arith), λ h. front.1 (let b = h.1 in omega arith))
  | inr c ↦ absurd (let h = c.0 in cc)
]
