-- Printed rows are read back as the same rows.
use Rattle.std.proofs.Common.{◌≡◌, ℕ, ◌-◌, ◌==◌, false, List, [], ◌∷◌, ◌++◌, length, map, take, refl, sym, ap, ◌∙◌, arith, append_assoc, append-nil}
use Rattle.std.specs.Prelude.{All, ⊤}
use Rattle.std.proofs.lemmas.List.{length_push}
use Rattle.std.proofs.lemmas.List.Elements.{All-append, All-cons, All-nil, All-weaker}
use Rattle.std.proofs.lemmas.List.Splits.{slice_split_at, slice_split_none}
use Rattle.std.proofs.Math.Seq.{take-append_seam}
use Rattle.receipt_check.specs.Rows.{Cells, but_last, line, lines, more_fields, pieces, split_rows}

-- the byte is neither a comma nor a line feed
abbrev pub PartsNothing : ℕ → Type 0
PartsNothing b = ((b == 44) ≡ false) × ((b == 10) ≡ false)

-- the text can be a field: none of its bytes is a comma or a line feed
abbrev pub IsField : List ℕ → Type 0
IsField text = All PartsNothing text

abbrev pub AreFields : Cells → Type 0
AreFields [] = ⊤
AreFields (first ∷ rest) = IsField first × AreFields rest

-- the fields can be a row: there is a first one, and each can be a field
abbrev pub IsRow : Cells → Type 0
IsRow [] = ⊥
IsRow (first ∷ rest) = AreFields (first ∷ rest)

abbrev pub AreRows : List Cells → Type 0
AreRows [] = ⊤
AreRows (row ∷ rows) = IsRow row × AreRows rows

abbrev HasNoFeed : List ℕ → Type 0
HasNoFeed text = All (λ b. (b == 10) ≡ false) text

no_comma : (text : List ℕ) → IsField text → All (λ b. (b == 44) ≡ false) text
no_comma text h = All-weaker PartsNothing (λ b. (b == 44) ≡ false) (λ b p. p.0) text h

no_feed : (text : List ℕ) → IsField text → HasNoFeed text
no_feed text h = All-weaker PartsNothing (λ b. (b == 10) ≡ false) (λ b p. p.1) text h

-- a row as it is printed, but without its line feed
abbrev body : Cells → List ℕ
body [] = []
body (first ∷ rest) = first ++ more_fields rest

line_body : (row : Cells) → line row ≡ body row ++ 10 ∷ []
line_body [] = refl
line_body (first ∷ rest) = sym (append_assoc first (more_fields rest) (10 ∷ []))

fields_read : (first : List ℕ) (rest : Cells) → IsField first → AreFields rest → pieces 44 (first ++ more_fields rest) ≡ first ∷ rest
fields_read first [] h k = ap (pieces 44) (append-nil first) ∙ slice_split_none (λ b. b == 44) first (no_comma first h)
fields_read first (f ∷ rest) h k =
    slice_split_at (λ b. b == 44) first 44 (f ++ more_fields rest) (no_comma first h) refl
    ∙ ap (λ (t : Cells). first ∷ t) (fields_read f rest k.0 k.1)

more_no_feed : (rest : Cells) → AreFields rest → HasNoFeed (more_fields rest)
more_no_feed [] k = All-nil (λ b. (b == 10) ≡ false)
more_no_feed (f ∷ rest) k =
    All-cons (λ b. (b == 10) ≡ false) 44 (f ++ more_fields rest) refl
    (All-append (λ b. (b == 10) ≡ false) f (more_fields rest) (no_feed f k.0) (more_no_feed rest k.1))

body_no_feed : (row : Cells) → IsRow row → HasNoFeed (body row)
body_no_feed [] h = absurd h
body_no_feed (first ∷ rest) h = All-append (λ b. (b == 10) ≡ false) first (more_fields rest) (no_feed first h.0) (more_no_feed rest h.1)

body_read : (row : Cells) → IsRow row → pieces 44 (body row) ≡ row
body_read [] h = absurd h
body_read (first ∷ rest) h = fields_read first rest h.0 h.1

lines_parted : (rows : List Cells) → AreRows rows → pieces 10 (lines rows) ≡ map body rows ++ [] ∷ []
lines_parted [] h = refl
lines_parted (row ∷ rows) h =
    ap (pieces 10) (ap (λ (t : List ℕ). t ++ lines rows) (line_body row) ∙ append_assoc (body row) (10 ∷ []) (lines rows))
    ∙ slice_split_at (λ b. b == 10) (body row) 10 (lines rows) (body_no_feed row h.0) refl
    ∙ ap (λ (t : List (List ℕ)). body row ∷ t) (lines_parted rows h.1)

but_last_push : (xs : List (List ℕ)) (y : List ℕ) → but_last (xs ++ y ∷ []) ≡ xs
but_last_push xs y =
    let size : length (xs ++ y ∷ []) - 1 ≡ length xs = omega (arith, length_push xs y) in
    ap (λ n. take n (xs ++ y ∷ [])) size ∙ take-append_seam xs (y ∷ [])

bodies_read : (rows : List Cells) → AreRows rows → map (pieces 44) (map body rows) ≡ rows
bodies_read [] h = refl
bodies_read (row ∷ rows) h =
    ap (λ (t : Cells). t ∷ map (pieces 44) (map body rows)) (body_read row h.0)
    ∙ ap (λ (t : List Cells). row ∷ t) (bodies_read rows h.1)

pub rows_read : (rows : List Cells) → AreRows rows → split_rows (lines rows) ≡ rows
unfolding split_rows
rows_read rows h =
    ap (λ (t : List (List ℕ)). map (pieces 44) (but_last t)) (lines_parted rows h)
    ∙ ap (map (pieces 44)) (but_last_push (map body rows) []) ∙ bodies_read rows h

-- two joined lists of rows are printed as the first list and then the second
pub lines_append : (a b : List Cells) → lines (a ++ b) ≡ lines a ++ lines b
lines_append [] b = refl
lines_append (row ∷ rows) b = ap (λ (t : List ℕ). line row ++ t) (lines_append rows b) ∙ sym (append_assoc (line row) (lines rows) (lines b))
