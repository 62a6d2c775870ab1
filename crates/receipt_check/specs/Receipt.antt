-- The content of a receipt, as it is read from rows, and the rows of a receipt with this content.
use Rattle.std.specs.Prelude.{ℕ, ◌+◌, ◌&&◌, not, Bool, true, false, if◌then◌else◌, Option, Some, None, List, [], ◌∷◌, ◌++◌, bytes_eq, codes, decimal, drop, length, map}
use Rattle.std.specs.List.{range_with_len}
use Rattle.hex.specs.Hex.{encode_lower}
use Rattle.receipt_check.specs.Rows.{Cells, text_at, row_at, cell, lines}
use Rattle.receipt_check.specs.declared.kind.Kind.{Kind}
use Rattle.receipt_check.specs.declared.kind.Kind.TheVariants.{Programme, Resident}

-- The content of a receipt. Numbers and digests are as they are written. `named` has the pieces between commas of the
-- real name's row after its `N`, or nothing without such a row. The last three parts are those of the result, and are
-- not used without a result.
pub record Receipt : Type 0 where
  pub kind : Kind
  pub name : List ℕ
  pub count : List ℕ
  pub index : List ℕ
  pub opening : Cells
  pub quota : List ℕ
  pub has_list : Bool
  pub list : Cells
  pub gone : Bool
  pub named : Cells
  pub second : Cells
  pub own : Option (List ℕ)
  pub after : List Cells

-- the letter of a side
abbrev pub letter_of : Kind → List ℕ
letter_of Programme = codes "P"
letter_of Resident = codes "R"

abbrev pub is_programme : Kind → Bool
is_programme Programme = true
is_programme Resident = false

-- Reading. Nothing is refused here: where a row is none of a receipt, the receipt with this content has another row.

-- the side of the member
abbrev pub kind_in : List Cells → Kind
kind_in rows = if bytes_eq (cell rows 0 2) (codes "P") then Programme else Resident

-- whether a programme has a row for its list
abbrev pub has_list_in : List Cells → Bool
has_list_in rows = is_programme (kind_in rows) && bytes_eq (cell rows 4 0) (codes "P")

-- the place of the row with the member's list; for a programme without a list, the place of the row
-- with its quota
abbrev pub list_place : Bool → ℕ
list_place has_list = if has_list then 4 else 3

-- the place of the row after the member's list and its withdrawal, where the real name's row stands, if there is one
abbrev pub named_place : Bool → Bool → ℕ
named_place has_list gone = list_place has_list + (if gone then 2 else 1)

-- whether there is a row of the real name
abbrev pub has_real_name : Cells → Bool
has_real_name [] = false
has_real_name (piece ∷ rest) = true

-- the place of the row after the member's rows of the lists
abbrev pub end_place : Bool → Bool → Cells → ℕ
end_place has_list gone named = named_place has_list gone + (if has_real_name named then 1 else 0)

-- the place of the row after a receipt's rows of the lists
abbrev pub end_of : Receipt → ℕ
end_of r = end_place r.has_list r.gone r.named

-- the list of the member
abbrev pub list_in : List Cells → Cells
list_in rows = if is_programme (kind_in rows) && not (has_list_in rows) then [] else drop 2 (row_at rows (list_place (has_list_in rows)))

-- whether the member is withdrawn
abbrev pub gone_in : List Cells → Bool
gone_in rows = bytes_eq (cell rows (list_place (has_list_in rows) + 1) 0) (codes "W")

-- the row of the real name after its `N`, if there is one
abbrev pub name_row : Cells → Cells
name_row row = if bytes_eq (text_at row 0) (codes "N") then drop 1 row else []

abbrev pub named_in : List Cells → Cells
named_in rows = name_row (row_at rows (named_place (has_list_in rows) (gone_in rows)))

-- the place of the row where the result begins
abbrev pub end_in : List Cells → ℕ
end_in rows = end_place (has_list_in rows) (gone_in rows) (named_in rows)

-- the programme of a resident, if the row says that there is one
abbrev pub own_in : Cells → Option (List ℕ)
own_in row = if bytes_eq (text_at row 0) (codes "M") then Some (text_at row 2) else None

-- the content of the receipt with these rows
unfoldable pub read : List Cells → Receipt
read rows = record {
  kind = kind_in rows;
  name = cell rows 0 3;
  count = cell rows 1 1;
  index = cell rows 2 2;
  opening = drop 3 (row_at rows 2);
  quota = cell rows 3 2;
  has_list = has_list_in rows;
  list = list_in rows;
  gone = gone_in rows;
  named = named_in rows;
  second = drop 3 (row_at rows (end_in rows + 1));
  own = own_in (row_at rows (end_in rows + 2));
  after = drop (end_in rows + 3) rows;
}

-- Printing.

-- the row that withdraws a member
abbrev pub gone_rows : Receipt → List Cells
gone_rows r = if r.gone then (codes "W" ∷ letter_of r.kind ∷ r.name ∷ []) ∷ [] else []

-- the row of a programme's list, if it has one
abbrev pub list_rows : Receipt → List Cells
list_rows r = if r.has_list then (codes "P" ∷ r.name ∷ r.list) ∷ [] else []

-- the row of the real name
abbrev pub name_rows : Cells → List Cells
name_rows [] = []
name_rows (piece ∷ rest) = (codes "N" ∷ piece ∷ rest) ∷ []

-- the rows after a member's list: the row of a withdrawal, and the row of the real name
abbrev pub last_rows : Receipt → List Cells
last_rows r = gone_rows r ++ name_rows r.named

-- the rows of a member before the match, by the member's side
abbrev pub lists_rows_of : Kind → Receipt → List Cells
lists_rows_of Programme r = (codes "Q" ∷ r.name ∷ r.quota ∷ []) ∷ list_rows r ++ last_rows r
lists_rows_of Resident r = (codes "R" ∷ r.name ∷ r.list) ∷ last_rows r

abbrev pub lists_rows : Receipt → List Cells
lists_rows r = lists_rows_of r.kind r

-- the residents of a programme, from the rows after that of the filled places
abbrev pub members : Receipt → Cells
members r = map (λ row. text_at row 1) r.after

-- the answer to a resident's choice, from 0: a word and three numbers
abbrev pub answer : Receipt → ℕ → Cells
answer r k = drop 3 (row_at r.after k)

-- the row of a programme's resident
abbrev pub member_row : List ℕ → List ℕ → Cells
member_row name member = codes "M" ∷ member ∷ name ∷ []

-- the row of a resident's choice, from 0
abbrev pub reason_row : Receipt → ℕ → Cells
reason_row r k = r.name ∷ text_at r.list k ∷ decimal (k + 1) ∷ answer r k

-- the row that says where a resident is placed
abbrev pub placed_row : List ℕ → Option (List ℕ) → Cells
placed_row name None = codes "U" ∷ name ∷ []
placed_row name (Some own) = codes "M" ∷ name ∷ own ∷ []

-- the row that says how many places of a programme are filled
abbrev pub filled_row : Receipt → Cells
filled_row r = codes "F" ∷ r.name ∷ decimal (length r.after) ∷ r.quota ∷ []

-- the rows of a member after the match, by the member's side
abbrev pub result_rows_of : Kind → Receipt → List Cells
result_rows_of Programme r = filled_row r ∷ map (member_row r.name) (members r)
result_rows_of Resident r = placed_row r.name r.own ∷ map (reason_row r) (range_with_len 0 (length r.list))

abbrev pub result_rows : Receipt → List Cells
result_rows r = result_rows_of r.kind r

-- the text that was sealed for a member before the match; `result_text` is the text sealed after
-- the match
unfoldable pub lists_text : Receipt → List ℕ
lists_text r = lines (lists_rows r)

unfoldable pub result_text : Receipt → List ℕ
result_text r = lines (result_rows r)

-- the two rows before a leaf's text: one with the number of members and the published root, one with the member's
-- number, the salt and the path
abbrev pub part_rows : List ℕ → List ℕ → List ℕ → List ℕ → Cells → List Cells
part_rows word root count index opening =
    (word ∷ count ∷ encode_lower root ∷ []) ∷ (codes "opens" ∷ word ∷ index ∷ opening) ∷ []

-- the first row of a receipt
abbrev pub first_row : Receipt → Cells
first_row r = codes "receipt" ∷ codes "2" ∷ letter_of r.kind ∷ r.name ∷ []

-- the part of a receipt about the result; nothing if no root of a result was published
abbrev pub result_part : Option (List ℕ) → Receipt → List ℕ
result_part None r = []
result_part (Some root) r = lines (part_rows (codes "result") root r.count r.index r.second) ++ result_text r

-- the text of a receipt with this content under these published roots
unfoldable pub receipt_text : List ℕ → Option (List ℕ) → Receipt → List ℕ
receipt_text lists_root result_root r =
    lines (first_row r ∷ part_rows (codes "lists") lists_root r.count r.index r.opening)
    ++ (lists_text r ++ result_part result_root r)
