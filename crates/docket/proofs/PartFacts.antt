-- The first fault of records in parts, file after file.
use Rattle.std.proofs.Common.{◌≡◌, ◌⊎◌, ◌<◌, ◌≤◌, ◌+◌, ◌∙◌, ◌++◌, ◌∷◌, ℕ, List, [], Bool, true, false, length, sym, refl, ap, subst, Option, Some, None, Result, Ok, Err, inl, inr, append_assoc, append-nil, arith, rules}
use Rattle.std.specs.Prelude.{nat_le, if◌then◌else◌, IfErr, OnOk}
use Rattle.std.specs.Option.{option_or}
use Rattle.docket.specs.Answers.{Refuses, Stops}
use Rattle.records.specs.Reading.{Fields, GivesRow, IsSplit}
use Rattle.docket.specs.FileFault.{there}
use Rattle.docket.specs.Parts.{AreGiven, GoesOn, IsInFiles, IsInFilesWithLists, Tells, rows_of_all, file_fault, is_elsewhere, kind_fault, part_fault}
use Rattle.docket.specs.Passed.{IsPassed, HasPassed}
use Rattle.docket.specs.Limits.{is_above, most_listed, most_records}
use Rattle.docket.specs.Passes.{first_from, first_pass_fault, reading_fault, next_place}
use Rattle.docket.specs.Read.{IsSourceFault, Explains}
use Rattle.docket.specs.Reading.{IsReading}
use Rattle.docket.specs.declared.part.Part.{Part}
use Rattle.docket.specs.declared.file_fault.FileFault.{FileFault}
use Rattle.docket.specs.Contents.{Contents, draft_of}
use Rattle.docket.specs.WithLists.{KeptLists, lists_if}
use Rattle.match_model.specs.Written.{Written, written_of}
use Rattle.std.proofs.lemmas.Option.{same_Some}
use Rattle.docket.proofs.WithListsFacts.{given_below, lists_read}
use Rattle.docket.specs.declared.reading.Reading.{Reading}
use Rattle.match_model.specs.declared.limits.Limits.{Limits}
use Rattle.docket.specs.declared.fault.DocketFault.{DocketFault}
use Rattle.docket.specs.declared.fault.DocketFault.TheVariants.{TooManyRecords}
use Rattle.docket.specs.declared.records_fault.RecordsFault.{RecordsFault}
use Rattle.docket.specs.declared.records_fault.RecordsFault.TheVariants.{AnotherPart, Docket, TooManyListed}
use Rattle.records.proofs.SplitFacts.{split_end, split_more, split_start}
use Rattle.docket.proofs.PassFacts.{first_from-append, first_from-none}
use Rattle.docket.proofs.CountFacts.{listed_asked}
use Rattle.docket.proofs.SoundFacts.{both_none}
use Rattle.docket.proofs.ReadRowsInvariant.{Goes}

-- if some rows have no fault and the next row has none, all of these rows together have none
push_from : (f : List Fields → Fields → Option RecordsFault) (kept rows : List Fields) (row : Fields)
    → first_from f kept rows ≡ None → f (kept ++ rows) row ≡ None → first_from f kept (rows ++ row ∷ []) ≡ None
unfolding first_from
push_from f kept rows row none here = rw (first_from-append f kept rows (row ∷ []), none, here) refl

found_from : (f : List Fields → Fields → Option RecordsFault) (kept rows rest : List Fields) (row : Fields) (e : RecordsFault)
    → first_from f kept rows ≡ None → f (kept ++ rows) row ≡ Some e → first_from f kept (rows ++ row ∷ rest) ≡ Some e
unfolding first_from
found_from f kept rows rest row e none here = rw (first_from-append f kept rows (row ∷ rest), none, here) refl

-- if the next row has a fault and no earlier row of the file has one, this is the file's first fault
pub fault_from : (f : List Fields → Fields → Option RecordsFault) (all : Option (List Fields)) (kept rows : List Fields) (left after : Option (List Fields)) (row : Fields) (e : RecordsFault)
    → IsSplit all rows left → GivesRow left after true row → first_from f kept rows ≡ None → Stops (f (kept ++ rows) row) e → Explains all (first_from f kept) e
fault_from f None kept rows left after row e s g none (inl memory) = ([], inl memory)
fault_from f None kept rows left after row e s g none (inr here) = (rows ++ row ∷ [], inr (found_from f kept rows [] row e none here))
fault_from f (Some all) kept rows None after row e s g none here = cc s.1
fault_from f (Some all) kept rows (Some l) after row e s g none (inl memory) = inl memory
fault_from f (Some all) kept rows (Some l) after row e s g none (inr here) =
    let same : l ≡ s.0 = cc s.1 in
    let whole : all ≡ rows ++ row ∷ g.0 = s.2 ∙ ap (λ (r : List Fields). rows ++ r) (sym same ∙ g.2) in
    inr (rw whole (found_from f kept rows g.0 row e none here))

-- within the limit on records: first the fault of a record of another part, then the first pass's
-- fault
pub part_few : (part : Option Part) (lim : Limits) (before : List Fields) (row : Fields) → length before < most_records lim
    → part_fault part lim before row ≡ option_or (kind_fault part (next_place before) row) (first_pass_fault lim before row)
unfolding part_fault
part_few part lim before row few = by (nat_le (most_records lim) (length before)) refl
  where
    by : (b : Bool) → nat_le (most_records lim) (length before) ≡ b
        → (if b then Some (Docket (TooManyRecords (next_place before))) else option_or (kind_fault part (next_place before) row) (first_pass_fault lim before row))
        ≡ option_or (kind_fault part (next_place before) row) (first_pass_fault lim before row)
    by true e = absurd (search (rules, few, e))
    by false e = refl

pub part_many : (part : Option Part) (lim : Limits) (before : List Fields) (row : Fields) → length before ≡ most_records lim
    → part_fault part lim before row ≡ Some (Docket (TooManyRecords (most_records lim + 1)))
unfolding part_fault
part_many part lim before row many = by (nat_le (most_records lim) (length before)) refl
  where
    by : (b : Bool) → nat_le (most_records lim) (length before) ≡ b
        → (if b then Some (Docket (TooManyRecords (next_place before))) else option_or (kind_fault part (next_place before) row) (first_pass_fault lim before row))
        ≡ Some (Docket (TooManyRecords (most_records lim + 1)))
    by true e = rw many refl
    by false e = let less : length before < most_records lim = search (rules, e) in absurd (omega (arith, less, many))

-- a record without a fault in its file has no fault in the first pass
part_sound : (part : Option Part) (lim : Limits) (before : List Fields) (row : Fields) → part_fault part lim before row ≡ None → first_pass_fault lim before row ≡ None
unfolding part_fault
part_sound part lim before row none = by (nat_le (most_records lim) (length before)) none
  where
    by : (b : Bool) → (if b then Some (Docket (TooManyRecords (next_place before))) else option_or (kind_fault part (next_place before) row) (first_pass_fault lim before row)) ≡ None
        → first_pass_fault lim before row ≡ None
    by true e = absurd (cc e)
    by false e = (both_none (kind_fault part (next_place before) row) (first_pass_fault lim before row) e).1

pub from_sound : (part : Option Part) (lim : Limits) (before rows : List Fields) → first_from (part_fault part lim) before rows ≡ None → first_from (first_pass_fault lim) before rows ≡ None
unfolding first_from
from_sound part lim before [] none = refl
from_sound part lim before (row ∷ rest) none =
    let parts = both_none (part_fault part lim before row) (first_from (part_fault part lim) (before ++ row ∷ []) rest) none in
    rw (part_sound part lim before row parts.0) (from_sound part lim (before ++ row ∷ []) rest parts.1)

-- without a part the fault is the first pass's
one_fault : (lim : Limits) (before : List Fields) (row : Fields) → part_fault None lim before row ≡ first_pass_fault lim before row
unfolding part_fault reading_fault
one_fault lim before row = by (nat_le (most_records lim) (length before)) refl
  where
    by : (b : Bool) → nat_le (most_records lim) (length before) ≡ b → part_fault None lim before row ≡ first_pass_fault lim before row
    by true e = rw e refl
    by false e = rw e refl

one_stream : (lim : Limits) (before rows : List Fields) → first_from (part_fault None lim) before rows ≡ first_from (first_pass_fault lim) before rows
unfolding first_from
one_stream lim before [] = refl
one_stream lim before (row ∷ rest) = rw (one_fault lim before row, one_stream lim (before ++ row ∷ []) rest) refl

none_from : (f : List Fields → Fields → Option RecordsFault) (kept : List Fields) → first_from f kept [] ≡ None
unfolding first_from
none_from f kept = refl

-- before the first record of a file is read, all records of the file are left
pub goes_start : (part : Option Part) (lim : Limits) (all : Option (List Fields)) (kept : List Fields) (reading : Reading) → IsPassed reading kept → Goes part lim all all kept reading
goes_start part lim all kept reading p = record {
  rows = [];
  reading_is = rw (append-nil kept) p.reading_is;
  clean = none_from (part_fault part lim) kept;
  split = split_start all;
}

-- if the next record of a file was read without a fault, one more record of the file was read
pub goes_more : (part : Option Part) (lim : Limits) (all left after : Option (List Fields)) (kept : List Fields) (row : Fields) (old new : Reading)
    → (o : Goes part lim all left kept old) → GivesRow left after true row → IsReading new ((kept ++ o.rows) ++ row ∷ []) → part_fault part lim (kept ++ o.rows) row ≡ None
    → Goes part lim all after kept new
goes_more part lim all left after kept row old new o gives is none = record {
  rows = o.rows ++ row ∷ [];
  reading_is = subst (IsReading new) (append_assoc kept o.rows (row ∷ [])) is;
  clean = push_from (part_fault part lim) kept o.rows row o.clean none;
  split = split_more all o.rows left after row o.split gives;
}

-- if a file was read to its end, none of its records has a fault
pub goes_end : (part : Option Part) (lim : Limits) (all left after : Option (List Fields)) (kept : List Fields) (row : Fields) (old reading : Reading)
    → IsPassed old kept → old.declared.builder.limits ≡ lim → reading.declared.builder.limits ≡ lim → reading.records ≤ most_records lim
    → Goes part lim all left kept reading → GivesRow left after false row → GoesOn part kept all reading
goes_end part lim all left after kept row old reading p was same few o gives =
    let sound : first_from (first_pass_fault lim) [] kept ≡ None = rw was at p.sound in
    record {
      rows = o.rows;
      all_are = split_end all o.rows left after row o.split gives;
      own = rw same o.clean;
      passed = record {
        reading_is = o.reading_is;
        sound = rw (same, first_from-append (first_pass_fault lim) [] kept o.rows, sound) (from_sound part lim kept o.rows o.clean);
        few = let count = o.reading_is.records in rw same (omega (arith, count, few));
      };
    }

-- before the first file no records are read and none has a fault
pub passed_empty : (reading : Reading) → IsReading reading [] → IsPassed reading []
passed_empty reading is = record { reading_is = is; sound = first_from-none (first_pass_fault reading.declared.builder.limits); few = omega arith }

-- one more file without a fault adds its records to the records read
pub passed_on : (part : Option Part) (kept rows : List Fields) (reading : Reading) → GoesOn part kept (Some rows) reading → IsPassed reading (kept ++ rows)
passed_on part kept rows reading g = rw g.all_are g.passed

pub own_on : (part : Option Part) (lim : Limits) (kept rows : List Fields) (reading : Reading) → reading.declared.builder.limits ≡ lim → GoesOn part kept (Some rows) reading → first_from (part_fault part lim) kept rows ≡ None
own_on part lim kept rows reading same g = rw (← same, g.all_are) g.own

-- if a stream whose records may be of any kind was read to its end, its records have no fault
pub one_passed : (all : Option (List Fields)) (old new : Reading) → IsReading old [] → ((kept : List Fields) → IsPassed old kept → GoesOn None kept all new) → HasPassed all new
one_passed all old new is on = let g = on [] (passed_empty old is) in record { rows = g.rows; all_are = g.all_are; passed = g.passed }

pub one_told : (all : Option (List Fields)) (lim : Limits) (old : Reading) (e : RecordsFault) → IsReading old []
    → ((kept : List Fields) → IsPassed old kept → IsSourceFault e ⊎ Explains all (first_from (part_fault None lim) kept) e)
    → IsSourceFault e ⊎ Explains all (first_from (first_pass_fault lim) []) e
one_told all lim old e is on = by all (on [] (passed_empty old is))
  where
    by : (all : Option (List Fields)) → IsSourceFault e ⊎ Explains all (first_from (part_fault None lim) []) e → IsSourceFault e ⊎ Explains all (first_from (first_pass_fault lim) []) e
    by all (inl read) = inl read
    by None (inr h) = inr (h.0, rw (← one_stream lim [] h.0) h.1)
    by (Some rows) (inr h) = inr (rw (← one_stream lim [] rows) h)

-- the number of the next record is one more than the number of those that were read
pub next_is : (reading : Reading) (rows : List Fields) (place : ℕ) → IsReading reading rows → place ≡ reading.records + 1 → place ≡ next_place rows
next_is reading rows place is at = let count = is.records in omega (arith, at, count)

pub few_rows : (reading : Reading) (rows : List Fields) → reading.records < most_records reading.declared.builder.limits → IsReading reading rows → length rows < most_records reading.declared.builder.limits
few_rows reading rows few is = rw is.records at few

-- a record that belongs to another part of the docket than the file's is refused at once
pub part_refused : (part : Option Part) (reading : Reading) (rows : List Fields) (row : Fields) (place : ℕ) → reading.records < most_records reading.declared.builder.limits → IsReading reading rows
    → place ≡ reading.records + 1 → is_elsewhere part row ≡ true → Stops (part_fault part reading.declared.builder.limits rows row) (AnotherPart place)
part_refused part reading rows row place few is at other =
    inr (part_few part reading.declared.builder.limits rows row (few_rows reading rows few is) ∙ rw (other, next_is reading rows place is at) refl)

-- a record of the file's part is refused with the fault that the first pass finds in it
pub part_stopped : (part : Option Part) (reading : Reading) (rows : List Fields) (row : Fields) (e : DocketFault) → reading.records < most_records reading.declared.builder.limits → IsReading reading rows
    → is_elsewhere part row ≡ false → Refuses (reading_fault reading.declared.builder.limits rows row) e → Stops (part_fault part reading.declared.builder.limits rows row) (Docket e)
part_stopped part reading rows row e few is own (inl memory) = inl (ap Docket memory)
part_stopped part reading rows row e few is own (inr here) =
    inr (part_few part reading.declared.builder.limits rows row (few_rows reading rows few is) ∙ rw (own, here) refl)

-- for a record of the file's part that the first pass accepts, only the number of listed names remains to
-- be tested
pub part_passed : (part : Option Part) (reading new : Reading) (rows : List Fields) (row : Fields) (place : ℕ) → reading.records < most_records reading.declared.builder.limits → IsReading reading rows
    → place ≡ reading.records + 1 → is_elsewhere part row ≡ false → reading_fault reading.declared.builder.limits rows row ≡ None
    → new.declared.builder.limits ≡ reading.declared.builder.limits → IsReading new (rows ++ row ∷ [])
    → part_fault part reading.declared.builder.limits rows row ≡ (if is_above (most_listed new.declared.builder.limits) new.declared.listed_count then Some (TooManyListed place) else None)
part_passed part reading new rows row place few is at own none same next =
    rw (same, part_few part reading.declared.builder.limits rows row (few_rows reading rows few is), own, none)
    (listed_asked reading.declared.builder.limits rows row new.declared.listed_count place next.declared.listed (next_is reading rows place is at))

-- one record more than the limit allows is refused, with the greatest number of records
pub one_too_many : (part : Option Part) (lim : Limits) (before : List Fields) (row : Fields) (most : ℕ) → length before ≡ most_records lim → most ≡ most_records lim
    → Stops (part_fault part lim before row) (Docket (TooManyRecords (most + 1)))
one_too_many part lim before row most many is = inr (part_many part lim before row many ∙ ap (λ n. Some (Docket (TooManyRecords (n + 1)))) (sym is))

pub one_all : (all : Option (List Fields)) (old new : Reading) {T : Type 0} (result : Result T RecordsFault) → IsReading old []
    → OnOk result ((kept : List Fields) → IsPassed old kept → GoesOn None kept all new) → OnOk result (HasPassed all new)
one_all all old new (Ok value) is on = one_passed all old new is on
one_all all old new (Err e) is on = tt

pub one_refused : (all : Option (List Fields)) (lim : Limits) (old : Reading) {T : Type 0} (result : Result T RecordsFault) → IsReading old []
    → IfErr result (λ e. (kept : List Fields) → IsPassed old kept → IsSourceFault e ⊎ Explains all (first_from (part_fault None lim) kept) e)
    → IfErr result (λ e. IsSourceFault e ⊎ Explains all (first_from (first_pass_fault lim) []) e)
one_refused all lim old (Ok value) is on = tt
one_refused all lim old (Err e) is on = one_told all lim old e is on

pub within : (reading : Reading) (rows : List Fields) → IsPassed reading rows → reading.records ≤ most_records reading.declared.builder.limits
within reading rows p = let count = p.reading_is.records in let few = p.few in omega (arith, count, few)

-- the fault of a record is reported with the record's file and its number in this file
pub file_told : (file : Part) (lim : Limits) (kept rows : List Fields) (old : Reading) (before : ℕ) (e : RecordsFault) → IsPassed old kept → before ≡ old.records
    → IsSourceFault e ⊎ Explains (Some rows) (first_from (part_fault (Some file) lim) kept) e → Tells (file_fault file lim kept rows) (there file before e)
file_told file lim kept rows old before e p is (inl read) = inl (inr (read.0, rw read.1 refl))
file_told file lim kept rows old before e p is (inr (inl memory)) = inl (inl (rw memory refl))
file_told file lim kept rows old before e p is (inr (inr first)) =
    let count : before ≡ length kept = is ∙ p.reading_is.records in
    inr (rw (first, count) refl)

pub tells_first : (a b : Option FileFault) (e : FileFault) → Tells a e → Tells (option_or a b) e
tells_first a b e (inl outside) = inl outside
tells_first a b e (inr is) = inr (rw is refl)

pub tells_later : (a b : Option FileFault) (e : FileFault) → a ≡ None → Tells b e → Tells (option_or a b) e
tells_later a b e none (inl outside) = inl outside
tells_later a b e none (inr is) = inr (rw none is)

pub file_own : (file : Part) (lim : Limits) (kept rows : List Fields) (reading : Reading) → reading.declared.builder.limits ≡ lim → GoesOn (Some file) kept (Some rows) reading → file_fault file lim kept rows ≡ None
file_own file lim kept rows reading same g = rw (own_on (Some file) lim kept rows reading same g) refl

pub files_none : (a b c : Option FileFault) → a ≡ None → b ≡ None → c ≡ None → option_or a (option_or b c) ≡ None
files_none a b c x y z = rw (x, y, z) refl

-- all records of the files so far were read
pub all_passed : (rows : List Fields) (reading : Reading) → IsPassed reading rows → HasPassed (Some rows) reading
all_passed rows reading p = record { rows = rows; all_are = refl; passed = p }

-- the docket in the files was read together with the lists that were kept
pub lists_in_files : (lim : Limits) (d s j : List ℕ) (c : Contents) (kept : Option KeptLists) (w : Written) (given : List (Option (List ℕ))) → kept ≡ Some (w, given) → IsInFiles lim d s j c
    → kept ≡ lists_if true (rows_of_all d s j) → IsInFilesWithLists lim d s j c w
lists_in_files lim d s j c kept w given is h lists = record {
  docket_is = h;
  written_is = ap (λ (k : KeptLists). k.0) (same_Some (w, given) (written_of (draft_of (rows_of_all d s j)), (draft_of (rows_of_all d s j)).programme_lists) (sym is ∙ lists));
  read = lists_read lim None c kept w given is (record { rows = rows_of_all d s j; all = tt; faultless = h.sound; docket_is = h.docket_is; lists_are = lists });
}

-- the programmes' lists that were kept are those of the docket in the files, and have only numbers of
-- residents
pub given_in_files : (lim : Limits) (d s j : List ℕ) (c : Contents) (kept : Option KeptLists) (w : Written) (given : List (Option (List ℕ))) → kept ≡ Some (w, given) → IsInFiles lim d s j c
    → kept ≡ lists_if true (rows_of_all d s j) → AreGiven (rows_of_all d s j) c given
given_in_files lim d s j c kept w given is h lists =
    let rows : List Fields = rows_of_all d s j in
    let same : given ≡ (draft_of rows).programme_lists = ap (λ (k : KeptLists). k.1) (same_Some (w, given) (written_of (draft_of rows), (draft_of rows).programme_lists) (sym is ∙ lists)) in
    record { given_are = same; members = λ p list e. rw h.docket_is (given_below lim rows p list h.sound (rw same at e)) }
