-- Records that are written line by line are read back as the same records.
use Rattle.std.proofs.Common.{◌≡◌, ◌==◌, ◌+◌, ◌∷◌, [], ℕ, List, false, length, ◌++◌, refl, ap, ◌∙◌, Some, inl, inr, arith}
use Rattle.std.specs.Prelude.{⊤}
use Rattle.std.proofs.lemmas.Bool.{cases_Bool, ne_eqb}
use Rattle.csv.specs.Machine.{next_record}
use Rattle.csv.specs.Reading.{default_config, strip_bom}
use Rattle.csv.specs.Writing.{comma, default_writer, is_blank, needs_quotes, row_text}
use Rattle.csv.specs.declared.parser.State.TheVariants as st
use Rattle.csv.proofs.RoundTrip.{read-write}
use Rattle.records.specs.Lines.{line, lines}
use Rattle.records.specs.Reading.{Fields, rows_by, rows_from, rows_of}
use Rattle.records.proofs.ReadFacts.{rows_from-next, rows_from-none, no_bytes}

-- the record's first field is one byte long, and this byte does not begin a byte order mark
pub record IsLettered (row : Fields) : Type 0 where
  pub letter : ℕ
  pub rest : Fields
  pub is : row ≡ (letter ∷ []) ∷ rest
  pub no_mark : (letter == 239) ≡ false

-- the first field of each record is one byte long, and this byte does not begin a byte order mark
unfoldable pub AreLettered : List Fields → Type 0
AreLettered [] = ⊤
AreLettered (row ∷ rest) = IsLettered row × AreLettered rest

pub both_lettered : (a b : List Fields) → AreLettered a → AreLettered b → AreLettered (a ++ b)
unfolding AreLettered
both_lettered [] b h k = k
both_lettered (row ∷ rest) b h k = (h.0, both_lettered rest b h.1 k)

some_byte : (b : ℕ) (rest : List ℕ) → (length (b ∷ rest) == 0) ≡ false
some_byte b rest = ne_eqb _ 0 (λ z. absurd (omega (arith, z)))

not_blank : (c : ℕ) (rest : Fields) → is_blank default_writer ((c ∷ []) ∷ rest) ≡ false
unfolding is_blank
not_blank c [] = elim (cases_Bool (needs_quotes default_writer (c ∷ []))) [
  | inl needs ↦ rw needs (some_byte 34 _)
  | inr plain ↦ rw plain (some_byte c [])
]
not_blank c (next ∷ rest) = refl

-- the line of a record is the text that csv writes for it
line_is : (row : Fields) → IsLettered row → row_text default_writer row ≡ line row
unfolding line
line_is row h = let l = h in rw (l.is, not_blank l.letter l.rest) refl

-- the line of a record is read back as the record, whatever follows the line
line_reads : (row : Fields) (tail : List ℕ) → IsLettered row
    → next_record default_config st.StartRecord [] [] (line row ++ tail) ≡ Some (row, st.StartRecord, tail)
line_reads row tail h =
    let l = h in
    rw (← line_is row h) (read-write row tail ∙ rw l.is refl)

-- the lines of several records are read back as these records
lines_read : (rows : List Fields) → AreLettered rows → rows_from comma st.StartRecord (lines rows) ≡ rows
unfolding lines AreLettered
lines_read [] h = rows_from-none comma st.StartRecord [] (no_bytes comma st.StartRecord refl)
lines_read (row ∷ rest) h =
    rows_from-next comma st.StartRecord (line row ++ lines rest) (row, st.StartRecord, lines rest) refl (line_reads row (lines rest) h.0)
    ∙ ap (λ (t : List Fields). row ∷ t) (lines_read rest h.1)

strip_plain : (a : ℕ) (rest : List ℕ) → (a == 239) ≡ false → strip_bom (a ∷ rest) ≡ a ∷ rest
unfolding strip_bom
strip_plain a [] h = refl
strip_plain a (b ∷ []) h = refl
strip_plain a (b ∷ c ∷ rest) h = rw h refl

strip_line : (c : ℕ) (rest : Fields) (tail : List ℕ) → (c == 239) ≡ false → strip_bom (line ((c ∷ []) ∷ rest) ++ tail) ≡ line ((c ∷ []) ∷ rest) ++ tail
unfolding line
strip_line c rest tail n = elim (cases_Bool (needs_quotes default_writer (c ∷ []))) [
  | inl needs ↦ rw needs (strip_plain 34 _ refl)
  | inr plain ↦ rw plain (strip_plain c _ n)
]

-- no line begins with a byte order mark
strip_lines : (rows : List Fields) → AreLettered rows → strip_bom (lines rows) ≡ lines rows
unfolding lines AreLettered strip_bom
strip_lines [] h = refl
strip_lines (row ∷ rest) h = let l = h.0 in rw l.is (strip_line l.letter l.rest (lines rest) l.no_mark)

-- the records that are written line by line are the records that are read
pub lines_round : (rows : List Fields) → AreLettered rows → rows_of (lines rows) ≡ rows
unfolding rows_by
lines_round rows h = rw (strip_lines rows h) (lines_read rows h)
