-- Lists that stand one after another in one vector of items.
use Rattle.std.proofs.Common.{◌≡◌, ℕ, ◌-◌, ◌≤◌, List, [], ◌∷◌, ◌++◌, length, map, set, take, drop, Option, Some, None, refl, ap, ◌∙◌, arith, length-append}
use Rattle.std.specs.List.{All, slice_range}
use Rattle.std.proofs.lemmas.List.{map-set, drop_at, drop-append-le, take-append-le, take_all, length-drop}
use Rattle.std.proofs.lemmas.List.Elements.{All-head, All-tail}
use Rattle.match_model.specs.Draft.{list_in, IsSpan}

-- a part of a list stays the same if items are added behind the list
range_kept : (xs ys : List ℕ) (start end : ℕ) → start ≤ end → end ≤ length xs → slice_range (xs ++ ys) start end ≡ slice_range xs start end
range_kept xs ys start end order within =
    ap (λ (zs : List ℕ). take (end - start) zs) (drop-append-le start xs ys (omega arith))
    ∙ take-append-le (end - start) (drop start xs) ys (omega (arith, length-drop start xs))

-- all lists stay the same if items are added behind them
lists_kept : (xs ys : List ℕ) (spans : List (Option (ℕ × ℕ))) → All (IsSpan (length xs)) spans → map (list_in (xs ++ ys)) spans ≡ map (list_in xs) spans
lists_kept xs ys [] h = refl
lists_kept xs ys (None ∷ spans) h = ap (λ (ls : List (Option (List ℕ))). None ∷ ls) (lists_kept xs ys spans (All-tail (IsSpan (length xs)) None spans h))
lists_kept xs ys (Some span ∷ spans) h =
    let one = All-head (IsSpan (length xs)) (Some span) spans h in
    let same = range_kept xs ys span.0 span.1 one.0 one.1 in
    let rest = lists_kept xs ys spans (All-tail (IsSpan (length xs)) (Some span) spans h) in
    λ i. Some (same i) ∷ rest i

-- the items behind the first list are the second list
range_last : (xs ys : List ℕ) → slice_range (xs ++ ys) (length xs) (length (xs ++ ys)) ≡ ys
range_last xs ys =
    ap (λ (zs : List ℕ). take (length (xs ++ ys) - length xs) zs) (drop_at xs ys (length xs) refl)
    ∙ take_all (length (xs ++ ys) - length xs) ys (omega (arith, length-append xs ys))

-- a new list's items stand behind those of all lists, and the other lists stay the same
pub list_given : (xs ys zs : List ℕ) (spans : List (Option (ℕ × ℕ))) (i start end : ℕ) → zs ≡ xs ++ ys → start ≡ length xs → end ≡ length zs → All (IsSpan (length xs)) spans
    → map (list_in zs) (set spans i (Some (start, end))) ≡ set (map (list_in xs) spans) i (Some ys)
list_given xs ys zs spans i start end grown from to h =
    let last : slice_range zs start end ≡ ys = (λ k. slice_range (grown k) (from k) ((to ∙ ap (length {A = ℕ}) grown) k)) ∙ range_last xs ys in
    let others : map (list_in zs) spans ≡ map (list_in xs) spans = ap (λ (items : List ℕ). map (list_in items) spans) grown ∙ lists_kept xs ys spans h in
    map-set (list_in zs) spans i (Some (start, end)) ∙ (λ k. set (others k) i (Some (last k)))
