-- The rank of a member, and the member's place on a list.
use Rattle.std.proofs.Common.{◌≡◌, ℕ, inl, inr, Bool, true, false, cond, List, length, arith, refl, sym}
use Rattle.std.specs.Prelude.{Some, None}
use Rattle.std.proofs.lemmas.Bool.{cases_lt}
use Rattle.std.proofs.lemmas.Option.{same_Some}
use Rattle.match_model.specs.Ranking.{place, IsListed, is_listed}
use Rattle.match_model.specs.Instance.{rank}
use Rattle.match_model.proofs.Rankings.{place-le, is_listed-true, is_listed-false}

-- a member with a rank is listed, and the rank is the member's place
pub ranked : (xs : List ℕ) (x k : ℕ) → Some k ≡ rank xs x → IsListed xs x × (place xs x ≡ k)
ranked xs x k e = go (is_listed xs x) refl e
  where
    go : (b : Bool) → is_listed xs x ≡ b → Some k ≡ cond b (Some (place xs x)) None → IsListed xs x × (place xs x ≡ k)
    go true t e = (is_listed-true xs x t, sym (same_Some k (place xs x) e))
    go false t e = absurd (cc)

-- a member without a rank isn't listed
pub unranked : (xs : List ℕ) (x : ℕ) → None ≡ rank xs x → IsListed xs x → ⊥
unranked xs x e = go (is_listed xs x) refl e
  where
    go : (b : Bool) → is_listed xs x ≡ b → None ≡ cond b (Some (place xs x)) None → IsListed xs x → ⊥
    go true t e = absurd (cc)
    go false t e = is_listed-false xs x t

-- the place of a member without a rank is the list's length
pub place_unranked : (xs : List ℕ) (x : ℕ) → None ≡ rank xs x → place xs x ≡ length xs
place_unranked xs x e = elim (cases_lt (place xs x) (length xs)) [
  | inl c ↦ absurd (unranked xs x e c)
  | inr c ↦ let l = place-le xs x in omega arith
]
