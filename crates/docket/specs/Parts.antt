-- The parts of a market's files: which kinds of record belong to each, and the first fault of files that are read as
-- parts.
use Rattle.std.specs.Prelude.{◌≡◌, ◌⊎◌, option_map, ℕ, nat_le, nat_lt, slice_index_or, ◌==◌, ◌||◌, ◌++◌, Bool, true, false, if◌then◌else◌, Option, Some, None, List, [], length}
use Rattle.std.specs.List.{list_all}
use Rattle.std.specs.Option.{option_or}
use Rattle.match_model.specs.declared.limits.Limits.{Limits}
use Rattle.match_model.specs.Written.{Written, written_of}
use Rattle.docket.specs.Fields.{kind_of, version_kind, withdrawal_kind}
use Rattle.records.specs.Reading.{Fields, rows_of, AreAll}
use Rattle.docket.specs.Limits.{most_records}
use Rattle.docket.specs.Contents.{Contents, contents_of, draft_of}
use Rattle.docket.specs.WithLists.{IsReadWithin}
use Rattle.docket.specs.Passes.{fault_in, first_from, first_pass_fault, later_fault, next_place}
use Rattle.docket.specs.Passed.{IsPassed}
use Rattle.docket.specs.Read.{IsSourceFault}
use Rattle.docket.specs.FileFault.{located, there}
use Rattle.docket.specs.declared.file_fault.FileFault.{FileFault}
use Rattle.docket.specs.declared.file_fault.Ends.{Ends}
use Rattle.docket.specs.declared.reading.Reading.{Reading}
use Rattle.docket.specs.declared.vocabulary.TheConstants.{QUOTA, PROGRAMME_LIST, RESIDENT_LIST, MATCHED, UNMATCHED, FILLED, CAPACITY, EVENT}
use Rattle.docket.specs.declared.part.Part.{Part}
use Rattle.docket.specs.declared.part.Part.TheVariants as of
use Rattle.docket.specs.declared.fault.DocketFault.TheVariants.{TooManyRecords, Memory}
use Rattle.docket.specs.declared.records_fault.RecordsFault.{RecordsFault}
use Rattle.docket.specs.declared.records_fault.RecordsFault.TheVariants.{AnotherPart, Docket}

-- the part to which a kind of record belongs, or none for an unknown kind
unfoldable pub part_of : ℕ → Option Part
part_of kind =
    if (kind == EVENT) || (kind == CAPACITY) then Some of.Journal
    else if (((kind == QUOTA) || (kind == PROGRAMME_LIST)) || (kind == RESIDENT_LIST)) || (kind == version_kind) || (kind == withdrawal_kind) then Some of.Docket
    else if ((kind == MATCHED) || (kind == UNMATCHED)) || (kind == FILLED) then Some of.Sheet
    else None

-- whether the second part is known and differs from the first part
abbrev pub is_other : Part → Option Part → Bool
is_other part None = false
is_other of.Docket (Some of.Docket) = false
is_other of.Docket (Some of.Sheet) = true
is_other of.Docket (Some of.Journal) = true
is_other of.Sheet (Some of.Docket) = true
is_other of.Sheet (Some of.Sheet) = false
is_other of.Sheet (Some of.Journal) = true
is_other of.Journal (Some of.Docket) = true
is_other of.Journal (Some of.Sheet) = true
is_other of.Journal (Some of.Journal) = false

-- whether a record's kind belongs to a part other than the file's part; in a file without a part each kind may
-- stand
abbrev pub is_elsewhere : Option Part → Fields → Bool
is_elsewhere None row = false
is_elsewhere (Some part) row = is_other part (part_of (kind_of row))

-- the fault of a record whose kind belongs to a part other than the file's part
abbrev pub kind_fault : Option Part → ℕ → Fields → Option RecordsFault
kind_fault part n row = if is_elsewhere part row then Some (AnotherPart n) else None

-- the first fault of the record that follows these records in a file of this part: too many records, a record of
-- another part, or a fault that the first pass finds
unfoldable pub part_fault : Option Part → Limits → List Fields → Fields → Option RecordsFault
part_fault part limits before row =
    if nat_le (most_records limits) (length before) then Some (Docket (TooManyRecords (next_place before)))
    else option_or (kind_fault part (next_place before) row) (first_pass_fault limits before row)

-- After these records, one more file of this part was read without a fault. If the file's records are known, all of
-- them were read.
pub record GoesOn (part : Option Part) (kept : List Fields) (left : Option (List Fields)) (reading : Reading) : Type 0 where
  pub rows : List Fields
  pub all_are : AreAll left rows
  pub own : first_from (part_fault part reading.declared.builder.limits) kept rows ≡ None
  pub passed : IsPassed reading (kept ++ rows)

-- the records of three files, one file after another
abbrev pub rows_of_all : List ℕ → List ℕ → List ℕ → List Fields
rows_of_all docket sheet journal = (rows_of docket ++ rows_of sheet) ++ rows_of journal

-- the first fault that the first pass finds in a file, after these records of other files
abbrev pub file_fault : Part → Limits → List Fields → List Fields → Option FileFault
file_fault file limits kept rows = option_map (there file (length kept)) (first_from (part_fault (Some file) limits) kept rows)

-- the first fault that the first pass finds in three files, with its file
abbrev pub files_fault : Limits → List ℕ → List ℕ → List ℕ → Option FileFault
files_fault limits docket sheet journal =
    option_or (file_fault of.Docket limits [] (rows_of docket))
    (option_or (file_fault of.Sheet limits (rows_of docket) (rows_of sheet))
    (file_fault of.Journal limits (rows_of docket ++ rows_of sheet) (rows_of journal)))

-- memory ran out, or the reader failed
abbrev pub IsOutsideFile : FileFault → Type 0
IsOutsideFile e = (e.fault ≡ Docket Memory) ⊎ IsSourceFault e.fault

-- the error is this first fault, or memory ran out, or the reader failed
abbrev pub Tells : Option FileFault → FileFault → Type 0
Tells first e = IsOutsideFile e ⊎ (first ≡ Some e)

-- how many records there are up to the end of the docket, and up to the end of the sheet
pub record AreEnds (docket sheet : List ℕ) (ends : Ends) : Type 0 where
  pub docket_end : ends.docket ≡ length (rows_of docket)
  pub sheet_end : ends.sheet ≡ length (rows_of docket ++ rows_of sheet)

-- the first fault of three files, with its file: that of the first pass, else that of a later pass over the records of
-- all files
abbrev pub fault_of_files : Limits → List ℕ → List ℕ → List ℕ → Option FileFault
fault_of_files limits docket sheet journal =
    option_or (files_fault limits docket sheet journal)
    (option_map (located (length (rows_of docket)) (length (rows_of docket ++ rows_of sheet))) (later_fault limits (rows_of_all docket sheet journal)))

-- the three files have no fault, and the docket is that of their records, one file after another
pub record IsInFiles (limits : Limits) (docket sheet journal : List ℕ) (d : Contents) : Type 0 where
  pub faultless : fault_of_files limits docket sheet journal ≡ None
  pub sound : fault_in limits (rows_of_all docket sheet journal) ≡ None
  pub docket_is : d ≡ contents_of (rows_of_all docket sheet journal)

-- the docket of three files without a fault, and the rank lists in their records, as they were written
pub record IsInFilesWithLists (limits : Limits) (docket sheet journal : List ℕ) (d : Contents) (written : Written) : Type 0 where
  pub docket_is : IsInFiles limits docket sheet journal d
  pub written_is : written ≡ written_of (draft_of (rows_of_all docket sheet journal))
  pub read : IsReadWithin limits None d written

-- for each programme the list in its record, or none if it has no list; a list has only numbers of residents of this
-- docket
pub record AreGiven (rows : List Fields) (d : Contents) (given : List (Option (List ℕ))) : Type 0 where
  pub given_are : given ≡ (draft_of rows).programme_lists
  pub members : (p : ℕ) (list : List ℕ) → slice_index_or given p None ≡ Some list → list_all (λ r. nat_lt r (length d.residents)) list ≡ true
