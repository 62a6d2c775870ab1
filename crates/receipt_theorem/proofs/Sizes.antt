-- The greatest length of a receipt.
use Rattle.std.proofs.Common.{◌≡◌, ℕ, zero, suc, ◌+◌, ◌*◌, ◌/◌, ◌^◌, ◌<◌, ◌≤◌, List, [], ◌∷◌, ◌++◌, length, slice_get, Option, Some, None, refl, ap, ◌∙◌, arith, rules}
use Rattle.std.specs.List.{All, cons_option}
use Rattle.std.proofs.Math.Nat.{pow-suc}
use Rattle.std.proofs.lemmas.List.{length-append}
use Rattle.std.proofs.lemmas.List.Elements.{All-head, All-tail}
use Rattle.std.proofs.lemmas.Option.{slice_get_within}
use Rattle.seal.specs.Tree.{pair_up, path_from, sibling}
use Rattle.seal.proofs.Parents.{length-pair_up}
use Rattle.receipt_check.specs.Rows.{Cells, line, more_fields}

abbrev pub AreShort : ℕ → Cells → Type 0
AreShort most fields = All (λ field. length field ≤ most) fields

more_short : (most : ℕ) (fields : Cells) → AreShort most fields → length (more_fields fields) ≤ length fields * (most + 1)
more_short most [] h = omega arith
more_short most (field ∷ rest) h =
    let one = All-head (λ f. length f ≤ most) field rest h in
    let more = more_short most rest (All-tail (λ f. length f ≤ most) field rest h) in
    let size = length-append field (more_fields rest) in
    search (rules, one, more, size)

-- the length of a row as it is printed, if none of its fields is longer than a given length
pub line_short : (most : ℕ) (fields : Cells) → AreShort most fields → length (line fields) ≤ length fields * (most + 1) + 1
line_short most [] h = omega arith
line_short most (field ∷ rest) h =
    let one = All-head (λ f. length f ≤ most) field rest h in
    let more = more_short most rest (All-tail (λ f. length f ≤ most) field rest h) in
    let a = length-append field (more_fields rest ++ 10 ∷ []) in
    let b = length-append (more_fields rest) (10 ∷ []) in
    search (rules, one, more, a, b)

-- the path of a leaf has at most k hashes, if there are at most 2 ^ k leaves
pub path_short : (levels k i : ℕ) (hashes : List (List ℕ)) → i < length hashes → length hashes ≤ 2 ^ k → length (path_from levels i hashes) ≤ k
path_short zero k i hashes l h = omega arith
path_short (suc levels) zero i hashes l h =
    let one : length hashes ≤ 1 = h in
    let up = length-pair_up hashes in
    let rest = path_short levels zero (i / 2) (pair_up hashes) (omega (arith, up, l, one)) (omega (arith, up, one)) in
    let first : i ≡ 0 = omega (arith, l, one) in
    alone (slice_get hashes 1) (ap (λ n. sibling n hashes) first) refl rest
  where
    alone : (o : Option (List ℕ)) → sibling i hashes ≡ slice_get hashes 1 → slice_get hashes 1 ≡ o → length (path_from levels (i / 2) (pair_up hashes)) ≤ 0
        → length (cons_option (sibling i hashes) (path_from levels (i / 2) (pair_up hashes))) ≤ 0
    alone None at e r = rw (at ∙ e) r
    alone (Some x) at e r = absurd (let two = slice_get_within hashes 1 x e in let few : length hashes ≤ 1 = h in omega (arith, two, few))
path_short (suc levels) (suc k) i hashes l h =
    let up = length-pair_up hashes in
    let twice : 2 ^ suc k ≡ 2 ^ k * 2 = pow-suc 2 k in
    let rest = path_short levels k (i / 2) (pair_up hashes) (omega (arith, up, l)) (omega (arith, up, h, twice)) in
    longer (sibling i hashes) rest
  where
    longer : (o : Option (List ℕ)) → length (path_from levels (i / 2) (pair_up hashes)) ≤ k → length (cons_option o (path_from levels (i / 2) (pair_up hashes))) ≤ suc k
    longer None r = omega (arith, r)
    longer (Some x) r = omega (arith, r)
