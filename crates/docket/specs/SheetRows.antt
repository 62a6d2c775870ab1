-- What the code keeps of the rows of a sheet.
use Rattle.std.specs.Prelude.{◌≡◌, ◌≤◌, ◌⊎◌, ℕ, ◌+◌, Some, false, List, [], ◌∷◌, ◌++◌, length, slice_get}
use Rattle.docket.specs.Fields.{kind_of}
use Rattle.records.specs.Reading.{Fields, field}
use Rattle.docket.specs.Contents.{is_sheet_row}
use Rattle.docket_names.specs.Words.{number_of}
use Rattle.docket.specs.declared.store.sheet_rows.Mark.{Mark}
use Rattle.docket.specs.declared.store.sheet_rows.Mark.TheVariants.{Matched, Unmatched, Filled}
use Rattle.docket.specs.declared.store.sheet_rows.SheetRow.{SheetRow}
use Rattle.docket.specs.declared.vocabulary.TheConstants.{MATCHED, UNMATCHED, FILLED, MOST_NAMES}

-- the text with this number stands in field i of the record
abbrev pub IsText : Fields → ℕ → ℕ → Fields → Type 0
IsText texts number i row = slice_get texts number ≡ Some (field row i)

-- the mark has the record's kind, the numbers of its names' texts, and its numbers
abbrev pub MarkSays : Fields → Mark → Fields → Type 0
MarkSays texts (Matched resident programme) row = (kind_of row ≡ MATCHED) × IsText texts resident 1 row × IsText texts programme 2 row
MarkSays texts (Unmatched resident) row = (kind_of row ≡ UNMATCHED) × IsText texts resident 1 row
MarkSays texts (Filled programme filled quota) row =
    (kind_of row ≡ FILLED) × IsText texts programme 1 row × (number_of (field row 2) ≡ Some filled) × (number_of (field row 3) ≡ Some quota)

-- the kept row has record n's number, and says what the record says
pub record IsKeptOf (texts : Fields) (n : ℕ) (kept : SheetRow) (row : Fields) : Type 0 where
  pub record_no : kept.record_no ≡ n
  pub says : MarkSays texts kept.mark row

-- one row is kept for each record of a sheet, and none for any other record; the first of these records has number n
abbrev pub AreKeptFrom : Fields → ℕ → List SheetRow → List Fields → Type 0
AreKeptFrom texts n kept [] = kept ≡ []
AreKeptFrom texts n [] (row ∷ rows) = (is_sheet_row row ≡ false) × AreKeptFrom texts (n + 1) [] rows
AreKeptFrom texts n (k ∷ kept) (row ∷ rows) =
    (IsKeptOf texts n k row × AreKeptFrom texts (n + 1) kept rows) ⊎ ((is_sheet_row row ≡ false) × AreKeptFrom texts (n + 1) (k ∷ kept) rows)

-- The rows of the sheet in the front of the records are kept. The front has all records, unless more rows are kept than
-- there can be members.
pub record AreSheetRows (texts : Fields) (kept : List SheetRow) (rows : List Fields) : Type 0 where
  pub front : List Fields
  pub rest : List Fields
  pub rows_are : rows ≡ front ++ rest
  pub kept_are : AreKeptFrom texts 1 kept front
  pub whole : length kept ≤ MOST_NAMES → rest ≡ []
