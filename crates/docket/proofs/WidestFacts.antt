-- Rows without a fault within any limits have no fault within the widest limits.
use Rattle.std.proofs.Common.{◌≡◌, ◌≤◌, ℕ, List, [], ◌∷◌, ◌++◌, Bool, true, false, length, arith, rules, refl, Option, None}
use Rattle.std.specs.Prelude.{nat_le, nat_lt, if◌then◌else◌, unwrap_or, Some}
use Rattle.std.specs.Option.{option_or}
use Rattle.match_model.specs.Limits.{most_programmes, most_residents}
use Rattle.match_model.specs.declared.limits.Limits.{Limits}
use Rattle.match_model.specs.declared.limits.Limits.TheVariants.{Standard, National}
use Rattle.match_model.specs.declared.limits.TheConstants.{MAX_QUOTA}
use Rattle.match_model.specs.declared.fault.ModelFault.TheVariants as model
use Rattle.docket_names.specs.Words.{number_of}
use Rattle.docket.specs.Fields.{is_kind, row_fault}
use Rattle.records.specs.Reading.{Fields, field}
use Rattle.docket.specs.Contents.{programmes_of, residents_of, workers_in}
use Rattle.docket.specs.Limits.{most_records, widest}
use Rattle.docket.specs.Passes.{first_from, reading_fault, repeat_fault, limit_fault, next_place}
use Rattle.docket.specs.declared.vocabulary.TheConstants.{QUOTA, RESIDENT_LIST, MAX_RECORDS}
use Rattle.docket.specs.declared.fault.DocketFault.{DocketFault}
use Rattle.docket.specs.declared.fault.DocketFault.TheVariants.{TooManyRecords, Model}
use Rattle.docket.proofs.SoundFacts.{both_none}
use Rattle.docket.proofs.DeclarationFacts.{no_fault}

-- a number of records within any limits is within the widest limits
pub few_widest : (lim : Limits) (n : ℕ) → n ≤ most_records lim → n ≤ MAX_RECORDS
few_widest Standard n h = omega (arith, h)
few_widest National n h = h

programmes_widest : (lim : Limits) (n : ℕ) → nat_le (most_programmes lim) n ≡ false → nat_le (most_programmes widest) n ≡ false
programmes_widest Standard n h = search (rules, h)
programmes_widest National n h = h

residents_widest : (lim : Limits) (n : ℕ) → nat_le (most_residents lim) n ≡ false → nat_le (most_residents widest) n ≡ false
residents_widest Standard n h = search (rules, h)
residents_widest National n h = h

-- a row within any limits is within the widest limits
limit_widest : (lim : Limits) (before : List Fields) (row : Fields) → limit_fault lim before row ≡ None → limit_fault widest before row ≡ None
unfolding limit_fault
limit_widest lim before row none = by (is_kind QUOTA row) (is_kind RESIDENT_LIST row) none
  where
    n : ℕ
    n = length (programmes_of before)

    m : ℕ
    m = length (residents_of before)

    over : Bool
    over = nat_lt MAX_QUOTA (unwrap_or (number_of (field row 2)) 0)

    programmes : (a b : Bool) → nat_le (most_programmes lim) n ≡ a → over ≡ b
        → (if a then Some (Model (next_place before) model.TooManyProgrammes) else if b then Some (Model (next_place before) model.QuotaTooLarge) else None) ≡ None
        → (if nat_le (most_programmes widest) n then Some (Model (next_place before) model.TooManyProgrammes) else if over then Some (Model (next_place before) model.QuotaTooLarge) else None) ≡ None
    programmes true b e f h = absurd (cc h)
    programmes false true e f h = absurd (cc h)
    programmes false false e f h = rw (programmes_widest lim n e, f) refl

    residents : (a : Bool) → nat_le (most_residents lim) m ≡ a → (if a then Some (Model (next_place before) model.TooManyResidents) else None) ≡ None
        → (if nat_le (most_residents widest) m then Some (Model (next_place before) model.TooManyResidents) else None) ≡ None
    residents true e h = absurd (cc h)
    residents false e h = rw (residents_widest lim m e) refl

    by : (q r : Bool)
        → (if q then (if nat_le (most_programmes lim) n then Some (Model (next_place before) model.TooManyProgrammes) else if over then Some (Model (next_place before) model.QuotaTooLarge) else None)
        else if r then (if nat_le (most_residents lim) m then Some (Model (next_place before) model.TooManyResidents) else None) else None) ≡ None
        → (if q then (if nat_le (most_programmes widest) n then Some (Model (next_place before) model.TooManyProgrammes) else if over then Some (Model (next_place before) model.QuotaTooLarge) else None)
        else if r then (if nat_le (most_residents widest) m then Some (Model (next_place before) model.TooManyResidents) else None) else None) ≡ None
    by true r h = programmes (nat_le (most_programmes lim) n) over refl refl h
    by false true h = residents (nat_le (most_residents lim) m) refl h
    by false false h = refl

-- a row that the first pass accepts within any limits is accepted within the widest limits
row_widest : (lim : Limits) (before : List Fields) (row : Fields) → reading_fault lim before row ≡ None → reading_fault widest before row ≡ None
unfolding reading_fault
row_widest lim before row none = by (nat_le (most_records lim) (length before)) refl none
  where
    own : Option DocketFault
    own = row_fault (next_place before) (workers_in before) row

    fine : option_or own (option_or (repeat_fault before row) (limit_fault lim before row)) ≡ None → option_or own (option_or (repeat_fault before row) (limit_fault widest before row)) ≡ None
    fine h =
        let parts = both_none own (option_or (repeat_fault before row) (limit_fault lim before row)) h in
        let rest = both_none (repeat_fault before row) (limit_fault lim before row) parts.1 in
        no_fault own _ parts.0 (no_fault (repeat_fault before row) _ rest.0 (limit_widest lim before row rest.1))

    room : nat_le (most_records lim) (length before) ≡ false → nat_le (most_records widest) (length before) ≡ false
    room h = records lim (length before) h
      where
        records : (l : Limits) (k : ℕ) → nat_le (most_records l) k ≡ false → nat_le (most_records widest) k ≡ false
        records Standard k h = search (rules, h)
        records National k h = h

    by : (b : Bool) → nat_le (most_records lim) (length before) ≡ b
        → (if b then Some (TooManyRecords (next_place before)) else option_or own (option_or (repeat_fault before row) (limit_fault lim before row))) ≡ None
        → (if nat_le (most_records widest) (length before) then Some (TooManyRecords (next_place before)) else option_or own (option_or (repeat_fault before row) (limit_fault widest before row))) ≡ None
    by true e h = absurd (cc h)
    by false e h = rw (room e) (fine h)

-- if the first pass accepts all rows within any limits, it accepts them within the widest limits
rows_widest : (lim : Limits) (before rows : List Fields) → first_from (reading_fault lim) before rows ≡ None → first_from (reading_fault widest) before rows ≡ None
unfolding first_from
rows_widest lim before [] none = refl
rows_widest lim before (row ∷ rows) none =
    let parts = both_none (reading_fault lim before row) (first_from (reading_fault lim) (before ++ row ∷ []) rows) none in
    no_fault (reading_fault widest before row) _ (row_widest lim before row parts.0) (rows_widest lim (before ++ row ∷ []) rows parts.1)

pub sound_widest : (lim : Limits) (rows : List Fields) → first_from (reading_fault lim) [] rows ≡ None → first_from (reading_fault widest) [] rows ≡ None
sound_widest lim rows none = rows_widest lim [] rows none
