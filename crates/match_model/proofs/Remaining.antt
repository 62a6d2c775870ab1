-- The lists that remain after withdrawals: a withdrawn member's list becomes empty.
use Rattle.std.proofs.Common.{◌≡◌, ℕ, ◌<◌, Bool, true, false, List, [], ◌∷◌, length, refl, sym, ap, ◌∙◌, subst, suc, zero}
use Rattle.std.specs.Prelude.{if◌then◌else◌}
use Rattle.std.specs.List.{All}
use Rattle.std.proofs.lemmas.List.{get_or_default}
use Rattle.match_model.specs.Instance.{list_at, is_withdrawn}
use Rattle.match_model.specs.Draft.{remaining_lists}

-- there are as many remaining lists as lists
pub length-remaining_lists : (lists : List (List ℕ)) (flags : List Bool) → length (remaining_lists lists flags) ≡ length lists
length-remaining_lists [] flags = refl
length-remaining_lists (l ∷ ls) [] = refl
length-remaining_lists (l ∷ ls) (f ∷ fs) = ap suc (length-remaining_lists ls fs)

-- a choice between two copies of a list is this list
either_way : (xs : List ℕ) (b : Bool) → xs ≡ (if b then xs else xs)
either_way xs true = refl
either_way xs false = refl

-- the remaining list of a member is empty if the member is withdrawn, and else the given list
pub remaining_at : (lists : List (List ℕ)) (flags : List Bool) (i : ℕ) → list_at (remaining_lists lists flags) i ≡ (if is_withdrawn flags i then [] else list_at lists i)
remaining_at [] flags i = either_way [] (is_withdrawn flags i)
remaining_at (l ∷ ls) [] i = refl
remaining_at (l ∷ ls) (f ∷ fs) zero = refl
remaining_at (l ∷ ls) (f ∷ fs) (suc i) = remaining_at ls fs i

pub remaining_withdrawn : (lists : List (List ℕ)) (flags : List Bool) (i : ℕ) → is_withdrawn flags i ≡ true → list_at (remaining_lists lists flags) i ≡ []
remaining_withdrawn lists flags i e = remaining_at lists flags i ∙ ap (λ b. if b then [] else list_at lists i) e

pub remaining_here : (lists : List (List ℕ)) (flags : List Bool) (i : ℕ) → is_withdrawn flags i ≡ false → list_at (remaining_lists lists flags) i ≡ list_at lists i
remaining_here lists flags i e = remaining_at lists flags i ∙ ap (λ b. if b then [] else list_at lists i) e

-- if each list has a property, and the empty list has it, each remaining list has it
pub remaining_all : (P : List ℕ → Type 0) (lists : List (List ℕ)) (flags : List Bool) → P [] → All P lists → All P (remaining_lists lists flags)
remaining_all P lists flags none all = λ i d h.
    let within : i < length lists = subst (λ n. i < n) (length-remaining_lists lists flags) h in
    subst P (sym (remaining_at lists flags i) ∙ get_or_default (remaining_lists lists flags) i [] d h) (pick (is_withdrawn flags i) (list_at lists i) (all i [] within))
  where
    pick : (b : Bool) (xs : List ℕ) → P xs → P (if b then [] else xs)
    pick true xs p = none
    pick false xs p = p
