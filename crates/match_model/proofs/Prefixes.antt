-- Lists that are the beginning of another list, and induction on the last item of a list.
use mathlib.Core.List.{IsPrefix}
use Rattle.std.proofs.Common.{◌≡◌, ℕ, zero, suc, ◌<◌, ◌≤◌, ◌⊎◌, inl, inr, List, [], ◌∷◌, ◌++◌, length, take, drop, slice_get, Some, refl, ap, ap₂, sym, ◌∙◌, subst, append_assoc, append-nil, arith, length-append}
use Rattle.std.proofs.lemmas.List.{take_at, take_all}
use Rattle.std.proofs.lemmas.Option.{same_Some}

-- induction on lists that grow by one item at the end
pub push_induction : {X : Type 0} (P : List X → Type 0) → P [] → ((xs : List X) (x : X) → P xs → P (xs ++ x ∷ [])) → (xs : List X) → P xs
push_induction {X} P start step xs = from [] xs start
  where
    from : (xs ys : List X) → P xs → P (xs ++ ys)
    from xs [] h = rw append-nil h
    from xs (y ∷ ys) h = rw append_assoc at (from (xs ++ y ∷ []) ys (step xs y h))

pub slice_get_last : {X : Type 0} (xs : List X) (y : X) → slice_get (xs ++ y ∷ []) (length xs) ≡ Some y
slice_get_last [] y = refl
slice_get_last (x ∷ xs) y = slice_get_last xs y

pub slice_get-append_some : {X : Type 0} (xs ys : List X) (i : ℕ) (x : X) → slice_get xs i ≡ Some x → slice_get (xs ++ ys) i ≡ Some x
slice_get-append_some [] ys i x e = absurd (cc)
slice_get-append_some (z ∷ zs) ys zero x e = e
slice_get-append_some (z ∷ zs) ys (suc i) x e = slice_get-append_some zs ys i x e

-- an item of a list with one more item at its end stands in the old list, or is the added item
pub slice_get_push_parts : {X : Type 0} (xs : List X) (y : X) (i : ℕ) (x : X) → slice_get (xs ++ y ∷ []) i ≡ Some x → (slice_get xs i ≡ Some x) ⊎ ((i ≡ length xs) × (y ≡ x))
slice_get_push_parts [] y zero x e = inr (refl, cc)
slice_get_push_parts [] y (suc i) x e = absurd (cc)
slice_get_push_parts (z ∷ zs) y zero x e = inl e
slice_get_push_parts (z ∷ zs) y (suc i) x e = step (slice_get_push_parts zs y i x e)
  where
    step : (slice_get zs i ≡ Some x) ⊎ ((i ≡ length zs) × (y ≡ x)) → (slice_get zs i ≡ Some x) ⊎ ((suc i ≡ suc (length zs)) × (y ≡ x))
    step (inl h) = inl h
    step (inr h) = inr (ap suc h.0, h.1)

pub slice_get_drop : {X : Type 0} (n : ℕ) (xs : List X) → slice_get (drop n xs) 0 ≡ slice_get xs n
slice_get_drop zero [] = refl
slice_get_drop zero (x ∷ xs) = refl
slice_get_drop (suc n) [] = refl
slice_get_drop (suc n) (x ∷ xs) = slice_get_drop n xs

-- ---- lists that are the beginning of another list

pub prefix_nil : {X : Type 0} (ys : List X) → IsPrefix [] ys
prefix_nil ys = (ys, refl)

pub prefix_extend : {X : Type 0} (xs ys zs : List X) → IsPrefix xs ys → IsPrefix xs (ys ++ zs)
prefix_extend xs ys zs h = (h.0 ++ zs, sym (append_assoc xs h.0 zs) ∙ ap (λ t. t ++ zs) h.1)

pub prefix_next : {X : Type 0} (xs ys : List X) (y : X) → IsPrefix xs ys → slice_get ys (length xs) ≡ Some y → IsPrefix (xs ++ y ∷ []) ys
prefix_next [] [] y h e = absurd (cc)
prefix_next [] (z ∷ zs) y h e = (zs, ap (λ t. t ∷ zs) (sym (same_Some z y e)))
prefix_next (x ∷ xs) [] y h e = absurd (cc)
prefix_next (x ∷ xs) (z ∷ zs) y h e =
    let heads : x ≡ z = (let w = h.1 in cc) in
    let tails : xs ++ h.0 ≡ zs = (let w = h.1 in cc) in
    let ih = prefix_next xs zs y (h.0, tails) e in
    (ih.0, ap₂ (λ s t. s ∷ t) heads ih.1)

pub prefix_length : {X : Type 0} (xs ys : List X) → IsPrefix xs ys → length xs ≤ length ys
prefix_length xs ys h = omega (arith, length-append xs h.0, ap length h.1)

pub prefix_take : {X : Type 0} (xs ys : List X) → IsPrefix xs ys → take (length xs) ys ≡ xs
prefix_take xs ys h = ap (λ t. take (length xs) t) (sym h.1) ∙ take_at xs h.0 (length xs) refl

pub prefix_whole : {X : Type 0} (xs ys : List X) → IsPrefix xs ys → length ys ≤ length xs → xs ≡ ys
prefix_whole xs ys h l = sym (prefix_take xs ys h) ∙ take_all (length xs) ys l

pub prefix_item : {X : Type 0} (xs ys : List X) (i : ℕ) (x : X) → IsPrefix xs ys → slice_get xs i ≡ Some x → slice_get ys i ≡ Some x
prefix_item xs ys i x h e = subst (λ t. slice_get t i ≡ Some x) h.1 (slice_get-append_some xs h.0 i x e)

-- if list xs is the beginning of a longer list ys, then ys has an item behind xs
pub item_at : {X : Type 0} (xs : List X) (i : ℕ) → i < length xs → (x : X) × (slice_get xs i ≡ Some x)
item_at [] i l = absurd (omega arith)
item_at (x ∷ xs) zero l = (x, refl)
item_at (x ∷ xs) (suc i) l = item_at xs i (omega arith)
