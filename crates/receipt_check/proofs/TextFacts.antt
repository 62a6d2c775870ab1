-- Bytes that are kept one after another, and two texts that are compared byte by byte.
use Rattle.std.proofs.Common.{◌≡◌, ℕ, ◌+◌, ◌<◌, ◌≤◌, List, length, drop, Option, Some, None, option_map, refl, sym, ap, ◌∙◌, arith}
use Rattle.std.proofs.lemmas.List.{drop_more, drop_all}
use Rattle.receipt_check.specs.Shape.{first_unlike}

added : (o : Option ℕ) (n b : ℕ) → option_map (λ r. r + n) (option_map (λ r. r + b) o) ≡ option_map (λ r. r + (n + b)) o
added None n b = refl
added (Some r) n b = let e : r + b + n ≡ r + (n + b) = omega arith in ap Some e

pub unlike_cut : (xs ys : List ℕ) (i row : ℕ) → i < length xs → length ys ≤ i
    → option_map (λ r. r + row) (first_unlike (drop i xs) (drop i ys)) ≡ first_unlike xs ys → Some row ≡ first_unlike xs ys
unlike_cut xs ys i row l m all =
    let none : first_unlike (drop i xs) (drop i ys) ≡ Some 0 = rw (drop_more xs i 0 l, drop_all i ys m) refl in
    let e : 0 + row ≡ row = omega arith in
    ap Some (sym e) ∙ ap (option_map (λ r. r + row)) (sym none) ∙ all

pub unlike_more : (xs ys : List ℕ) (i row : ℕ) → length xs ≤ i → i < length ys
    → option_map (λ r. r + row) (first_unlike (drop i xs) (drop i ys)) ≡ first_unlike xs ys → Some row ≡ first_unlike xs ys
unlike_more xs ys i row l m all =
    let none : first_unlike (drop i xs) (drop i ys) ≡ Some 0 = rw (drop_all i xs l, drop_more ys i 0 m) refl in
    let e : 0 + row ≡ row = omega arith in
    ap Some (sym e) ∙ ap (option_map (λ r. r + row)) (sym none) ∙ all

pub unlike_none : (xs ys : List ℕ) (i row : ℕ) → length xs ≤ i → length ys ≤ i
    → option_map (λ r. r + row) (first_unlike (drop i xs) (drop i ys)) ≡ first_unlike xs ys → None ≡ first_unlike xs ys
unlike_none xs ys i row l m all =
    let none : first_unlike (drop i xs) (drop i ys) ≡ None = rw (drop_all i xs l, drop_all i ys m) refl in
    ap (option_map (λ r. r + row)) (sym none) ∙ all
