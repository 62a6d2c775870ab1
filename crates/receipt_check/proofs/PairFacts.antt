-- Places on lists, and the residents of a programme.
use Rattle.std.proofs.Common.{◌≡◌, ◌<◌, ◌^◌, IfSome, ℕ, zero, suc, ◌+◌, List, [], ◌∷◌, ◌++◌, length, map, Option, Some, None, nat_lt, Bool, true, false, refl, ap, ◌∙◌, arith, append-nil, append_assoc, zero-add, if◌then◌else◌}
use Rattle.std.specs.List.{flat_map, range_with_len}
use Rattle.std.specs.Prelude.{bytes_eq}
use denote.Ref.{Bor}
use Rattle.std.specs.Global.{Vec}
use Rattle.std.proofs.lemmas.Grind.{flat_map-append}
use Rattle.std.proofs.lemmas.List.{length-map}
use Rattle.std.proofs.lemmas.List.Quantifiers.{position-Some}
use Rattle.docket_names.specs.Texts.{number_in}
use Rattle.receipt_check.specs.Rows.{Cells, cell, text_at}
use Rattle.receipt_check.specs.Shown.{fields_in, rows_in}
use Rattle.receipt_check.specs.Pair.{later, last_within}
use Rattle.receipt_check.proofs.Steps.{range_next}

-- the place at which a name is found is below the number of names
pub place_below : (names : Cells) (name : List ℕ) (k : ℕ) → number_in names name ≡ Some k → k < length names
unfolding number_in
place_below names name k found = (position-Some (bytes_eq name) names k [] found).0

-- the later of two places below 2 ^ 63 is below 2 ^ 63
pub later_small : (p q : Option ℕ) → IfSome p (λ k. k < 2 ^ 63) → IfSome q (λ k. k < 2 ^ 63) → IfSome (later p q) (λ k. k < 2 ^ 63)
later_small None q small less = less
later_small (Some p) None small less = small
later_small (Some p) (Some q) small less = by (nat_lt p q)
  where
    by : (b : Bool) → IfSome (if b then Some q else Some p) (λ k. k < 2 ^ 63)
    by true = less
    by false = small

-- the name at place k of a programme's residents is the second field of row k
pub member_at : (rows : List Cells) (k : ℕ) → text_at (map (λ row. text_at row 1) rows) k ≡ cell rows k 1
member_at [] k = refl
member_at (row ∷ rows) zero = refl
member_at (row ∷ rows) (suc k) = member_at rows k

-- the last place of the first k + 1 names is the later of two places: the last place of the first k
-- names, and name k's place
pub last_next : (list names : Cells) (k : ℕ) → last_within list names (k + 1) ≡ later (last_within list names k) (number_in list (text_at names k))
unfolding last_within
last_next list names k = let more : k + 1 ≡ suc k = omega arith in rw more refl

pub pairs_next : {A : Type 0} (f : ℕ → List A) (old xs ys : List A) (n : ℕ) → xs ≡ old ++ flat_map f (range_with_len 0 n) → ys ≡ xs ++ f n
    → ys ≡ old ++ flat_map f (range_with_len 0 (n + 1))
pairs_next f old xs ys n before added =
    let more : flat_map f (range_with_len 0 (n + 1)) ≡ flat_map f (range_with_len 0 n) ++ f n =
    rw (range_next 0 n, zero-add n, flat_map-append f (range_with_len 0 n) (n ∷ []), append-nil) refl in
    rw more (added ∙ ap (λ (zs : List _). zs ++ f n) before ∙ append_assoc old _ _)

-- a programme has as many residents as its receipt has rows for them
pub members_length : (after : List (Vec (Bor (List ℕ)))) → length (map (λ row. text_at row 1) (rows_in after)) ≡ length after
members_length after = length-map (rows_in after) (λ row. text_at row 1) ∙ length-map after (λ row. fields_in row.items)
