-- The real name of a member, and perhaps an ID, in a row of a receipt that begins with `N`.
use Rattle.std.specs.Prelude.{ℕ, ◌==◌, ◌&&◌, ◌||◌, nat_le, not, Bool, List, [], ◌∷◌, bytes_eq, chars, length}
use Rattle.std.specs.List.{list_all}
use Rattle.std.specs.Str.{is_utf8}
use Rattle.records.specs.Lines as csv
use Rattle.records.specs.Reading.{Fields, field, rows_of}
use Rattle.receipt_check.specs.Rows.{Cells, lines}
use Rattle.receipt_check.specs.Receipt.{name_rows}

-- the row of the real name as it is printed, or nothing without such a row
abbrev pub name_text : Cells → List ℕ
name_text named = lines (name_rows named)

-- the fields of the first row
abbrev pub first_fields : List Fields → Fields
first_fields [] = []
first_fields (row ∷ rest) = row

-- the fields of the row, as csv reads them: `N`, the real name, and perhaps an ID
unfoldable pub real_fields : Cells → Fields
real_fields named = first_fields (rows_of (name_text named))

-- whether the row is printed exactly as csv prints these fields
abbrev pub is_printed : Cells → Fields → Bool
is_printed named fields = bytes_eq (csv.line fields) (name_text named)

-- whether the fields after the `N` are a real name, or a real name and an ID, and none is empty
abbrev pub has_parts : Fields → Bool
has_parts fields = not (length (field fields 1) == 0) && ((length fields == 2) || (length fields == 3) && not (length (field fields 2) == 0))

-- Whether a real name or an ID can have the character. It is no control character (below 32, or from 127 to 159), it
-- ends no line (8232 and 8233), and it does not change the direction of text (1564, 8206, 8207, 8234 to 8238, and 8294
-- to 8297).
abbrev pub is_shown : ℕ → Bool
is_shown c =
    nat_le 32 c && not (nat_le 127 c && nat_le c 159) && not (c == 1564) && not (nat_le 8206 c && nat_le c 8207)
    && not (nat_le 8232 c && nat_le c 8238) && not (nat_le 8294 c && nat_le c 8297)

-- whether a text between two commas can have the character
abbrev pub is_part : ℕ → Bool
is_part c = is_shown c && not (c == 44)

-- whether a text between two commas is UTF-8, and has only such characters
abbrev pub is_piece : List ℕ → Bool
is_piece piece = is_utf8 piece && list_all is_part (chars piece)

-- whether the row is right: it has only such texts, is printed as csv prints it, and has a real name and
-- perhaps an ID
unfoldable pub is_real : Cells → Bool
is_real named = list_all is_piece named && is_printed named (real_fields named) && has_parts (real_fields named)
