-- The text of a receipt as it was printed, its rows, and how rows are printed.
use Rattle.std.specs.Prelude.{◌≡◌, ℕ, ◌-◌, ◌==◌, ◌&&◌, Bool, if◌then◌else◌, List, [], ◌∷◌, ◌++◌, bytes_eq, drop, length, map, slice_index_or, take}
use Rattle.std.specs.List.{flat_map, slice_split}
use Rattle.std.specs.Global.{Vec}

-- the fields of a row
abbrev pub Cells : Type 0
Cells = List (List ℕ)

-- the bytes without a byte order mark before them
abbrev pub without_mark : List ℕ → List ℕ
without_mark bytes = if bytes_eq (take 3 bytes) (239 ∷ 187 ∷ 191 ∷ []) then drop 3 bytes else bytes

-- the byte at a place
abbrev pub byte_at : List ℕ → ℕ → ℕ
byte_at bytes i = slice_index_or bytes i 0

-- whether the byte is a carriage return that stands before a line feed
abbrev pub is_return : ℕ → List ℕ → Bool
is_return b after = (b == 13) && (byte_at after 0 == 10)

-- the byte, unless it is a carriage return that stands before a line feed
abbrev pub kept : ℕ → List ℕ → List ℕ
kept b after = if is_return b after then [] else b ∷ []

-- the bytes without each carriage return that stands before a line feed
abbrev pub without_returns : List ℕ → List ℕ
without_returns [] = []
without_returns (b ∷ after) = kept b after ++ without_returns after

-- The text of a receipt as it was printed. A byte order mark before the text, and carriage returns before line
-- feeds, are left out, since they are not hashed.
unfoldable pub plain_text : List ℕ → List ℕ
plain_text bytes = without_returns (without_mark bytes)

-- the pieces of a text between the bytes of this value
abbrev pub pieces : ℕ → List ℕ → List (List ℕ)
pieces mark text = slice_split (λ b. b == mark) text

-- all pieces except the last
abbrev pub but_last : List (List ℕ) → List (List ℕ)
but_last lines = take (length lines - 1) lines

-- the rows of a text: each ends with a line feed, and commas stand between its fields
unfoldable pub split_rows : List ℕ → List Cells
split_rows text = map (pieces 44) (but_last (pieces 10 text))

-- the fields of row k; `text_at` is field i of a row, and `cell` is field i of row k; a missing row or field
-- is empty
abbrev pub row_at : List Cells → ℕ → Cells
row_at rows k = slice_index_or rows k []

abbrev pub text_at : Cells → ℕ → List ℕ
text_at fields i = slice_index_or fields i []

abbrev pub cell : List Cells → ℕ → ℕ → List ℕ
cell rows k i = text_at (row_at rows k) i

-- fields after the first, each after a comma
abbrev pub more_fields : Cells → List ℕ
more_fields fields = flat_map (λ field. 44 ∷ field) fields

-- a row as it is printed
abbrev pub line : Cells → List ℕ
line [] = 10 ∷ []
line (first ∷ rest) = first ++ (more_fields rest ++ 10 ∷ [])

-- rows as they are printed
abbrev pub lines : List Cells → List ℕ
lines rows = flat_map line rows

-- the text grew by exactly these bytes
abbrev pub Grows : Vec ℕ → Vec ℕ → List ℕ → Type 0
Grows old new bytes = new.items ≡ old.items ++ bytes
