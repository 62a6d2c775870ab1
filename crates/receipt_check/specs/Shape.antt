-- The first row that differs from the printed receipt with the same content, and what is wrong with
-- it.
use Rattle.std.specs.Prelude.{ℕ, ◌+◌, ◌==◌, ◌&&◌, nat_lt, nat_le, not, Bool, true, false, if◌then◌else◌, Option, Some, None, List, [], ◌∷◌, option_map, bytes_eq, codes, length}
use Rattle.receipt_check.specs.Rows.{Cells, text_at, row_at, cell}
use Rattle.receipt_check.specs.Receipt.{Receipt, end_of, receipt_text}
use Rattle.receipt_check.specs.declared.wrong.Wrong.{Wrong}
use Rattle.receipt_check.specs.declared.wrong.Wrong.TheVariants as wrong
use Rattle.receipt_check.specs.declared.wrong.Fault.{Fault}
use Rattle.hex.specs.Hex.{encode_lower}

-- 1 if the byte is a line feed, else 0
abbrev pub feeds : ℕ → ℕ
feeds byte = if byte == 10 then 1 else 0

-- the first row, counted from 0, in which two texts differ; none if they are equal
abbrev pub first_unlike : List ℕ → List ℕ → Option ℕ
first_unlike [] [] = None
first_unlike [] (y ∷ ys) = Some 0
first_unlike (x ∷ xs) [] = Some 0
first_unlike (x ∷ xs) (y ∷ ys) =
    if x == y then option_map (λ row. row + feeds x) (first_unlike xs ys) else Some 0

-- what is wrong with the first row: it is that of an earlier form, or of no receipt
abbrev pub header_wrong : List Cells → Wrong
header_wrong rows =
    if bytes_eq (cell rows 0 0) (codes "receipt") && bytes_eq (cell rows 0 1) (codes "1") then wrong.Age else wrong.Header

-- what is wrong with the row of a root: another form, another root, or another number of members than the receipt has
abbrev pub root_wrong : List ℕ → List ℕ → Cells → Wrong
root_wrong root count row =
    if not (length (text_at row 2) == 64) then wrong.RootRow
    else if not (bytes_eq (text_at row 2) (encode_lower root)) then wrong.Root
    else if bytes_eq (text_at row 1) count then wrong.RootRow else wrong.Count

-- what is wrong with row k, from 0, of a receipt's result
abbrev pub result_wrong : List ℕ → Receipt → List Cells → ℕ → Wrong
result_wrong root r rows k =
    if k == end_of r then (if bytes_eq (cell rows k 0) (codes "result") then root_wrong root r.count (row_at rows k) else wrong.List)
    else if k == end_of r + 1 then (if bytes_eq (cell rows k 2) r.index then wrong.OpeningRow else wrong.Place)
    else wrong.Result

-- what is wrong with row k, from 0, which comes after the rows of the lists
abbrev pub later_wrong : Option (List ℕ) → Receipt → List Cells → ℕ → Wrong
later_wrong None r rows k = if bytes_eq (cell rows k 0) (codes "result") then wrong.Unasked else wrong.List
later_wrong (Some root) r rows k = result_wrong root r rows k

-- What is wrong with row k, the first row that differs from the printed receipt. If the file has no row k, the
-- receipt is cut off.
unfoldable pub shape_wrong : List ℕ → Option (List ℕ) → Receipt → List Cells → ℕ → Wrong
shape_wrong lists_root result_root r rows k =
    if nat_le (length rows) k then wrong.Missing
    else if k == 0 then header_wrong rows
    else if k == 1 then root_wrong lists_root r.count (row_at rows 1)
    else if k == 2 then wrong.OpeningRow
    else if nat_lt k (end_of r) then wrong.List
    else later_wrong result_root r rows k

-- what is wrong, as a fault of row k, where k is from 0
abbrev pub at : ℕ → Wrong → Fault
at k w = record { row = k + 1; wrong = w }

-- the fault of the first row of a text that differs from the printed receipt with this content
unfoldable pub shape_fault : List ℕ → Option (List ℕ) → Receipt → List Cells → List ℕ → Option Fault
shape_fault lists_root result_root r rows text =
    option_map (λ k. at k (shape_wrong lists_root result_root r rows k)) (first_unlike text (receipt_text lists_root result_root r))

-- whether this fault shows that the file isn't as it was given: changed by a program, without a part, or of an earlier
-- form; any other fault shows that the receipt is wrong
abbrev pub is_changed : Wrong → Bool
is_changed wrong.Header = true
is_changed wrong.Age = true
is_changed wrong.RootRow = true
is_changed wrong.OpeningRow = true
is_changed wrong.Missing = true
is_changed wrong.Long = true
is_changed other = false
