-- What the code keeps during the first walk of the third pass, which checks the sheet.
use Rattle.std.specs.Prelude.{◌≡◌, ℕ, List, ◌∷◌, ◌++◌, false, None, length, replicate, map, find, count_by, Option, option_and_then}
use Rattle.std.specs.List.{list_any}
use Rattle.docket.specs.Fields.{is_row_of}
use Rattle.records.specs.Reading.{Fields, field}
use Rattle.docket.specs.Contents.{programmes_of, residents_of, is_mark_of, is_matched_with}
use Rattle.docket.specs.Known.{AreKnown}
use Rattle.docket.specs.Passes.{next_place}
use Rattle.docket.specs.SheetRows.{MarkSays}
use Rattle.docket_names.specs.Texts.{number_in}
use Rattle.docket.specs.declared.passes.sheet.Marks.{Marks}
use Rattle.docket.specs.declared.store.sheet_rows.Mark.{Mark}
use Rattle.docket.specs.declared.vocabulary.TheConstants.{MATCHED, FILLED}

-- the programme in the resident's M row among the finished rows, or none
abbrev pub placed_in : List (List ℕ) → List Fields → List ℕ → Option ℕ
placed_in programmes done resident = option_and_then (λ row. number_in programmes (field row 2)) (find (is_row_of MATCHED resident) done)

-- The marks are what the finished rows say: each resident's programme, which residents have an M or U
-- row, which programmes have an F row, and how many M rows name each programme.
pub record IsMarked (marks : Marks) (rows done : List Fields) : Type 0 where
  pub sheet : marks.sheet ≡ map (placed_in (programmes_of rows) done) (residents_of rows)
  pub marked : marks.marked_residents.items ≡ map (λ name. list_any (is_mark_of name) done) (residents_of rows)
  pub filled : marks.filled_programmes.items ≡ map (λ name. list_any (is_row_of FILLED name) done) (programmes_of rows)
  pub counts : marks.matched_counts.items ≡ map (λ name. count_by (is_matched_with name) done) (programmes_of rows)

-- the marks for this many programmes and residents before any row was entered into them
pub record IsBlank (marks : Marks) (programmes residents : ℕ) : Type 0 where
  pub sheet : marks.sheet ≡ replicate residents None
  pub marked : marks.marked_residents.items ≡ replicate residents false
  pub filled : marks.filled_programmes.items ≡ replicate programmes false
  pub counts : marks.matched_counts.items ≡ replicate programmes 0

-- the marks have one entry for each of this many programmes and residents
pub record IsSized (marks : Marks) (programmes residents : ℕ) : Type 0 where
  pub sheet : length marks.sheet ≡ residents
  pub marked : length marks.marked_residents.items ≡ residents
  pub filled : length marks.filled_programmes.items ≡ programmes
  pub counts : length marks.matched_counts.items ≡ programmes

-- in the list of all records this record follows the records in `before`; `place` is its number, and
-- the mark says what the record says
pub record StandsAfter (texts : Fields) (programmes residents : List ℕ) (all before : List Fields) (place : ℕ) (mark : Mark) (row : Fields) : Type 0 where
  pub known : AreKnown texts programmes residents all
  pub rest : List Fields
  pub all_are : all ≡ before ++ row ∷ rest
  pub place_is : place ≡ next_place before
  pub says : MarkSays texts mark row
