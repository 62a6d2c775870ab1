-- There are no more members than the widest limits allow.
use Rattle.docket.specs.Limits.{widest}
use Rattle.std.proofs.Common.{◌≡◌, ◌≤◌, ◌<◌, ◌+◌, ℕ, zero, suc, List, [], ◌∷◌, ◌++◌, Bool, true, false, length, take, sym, ◌∙◌, refl, arith, rules, Some, None}
use Rattle.std.specs.Prelude.{if◌then◌else◌, nat_le, nat_lt, unwrap_or}
use Rattle.std.specs.Option.{option_or}
use Rattle.std.proofs.lemmas.List.{length-append, length-take, take_more, take_all}
use Rattle.match_model.specs.declared.limits.TheConstants.{NATIONAL_PROGRAMMES, NATIONAL_RESIDENTS, MAX_QUOTA}
use Rattle.match_model.specs.declared.fault.ModelFault.TheVariants as model
use Rattle.docket_names.specs.Words.{number_of}
use Rattle.docket.specs.Fields.{kind_of, is_kind, row_fault}
use Rattle.records.specs.Reading.{Fields, field}
use Rattle.docket.specs.Rows.{row_at}
use Rattle.docket.specs.Contents.{names_of, programmes_of, residents_of, workers_in}
use Rattle.docket.specs.Passes.{first_from, reading_fault, repeat_fault, limit_fault, next_place}
use Rattle.docket.specs.declared.vocabulary.TheConstants.{QUOTA, RESIDENT_LIST, MAX_RECORDS}
use Rattle.docket.specs.declared.fault.DocketFault.TheVariants.{Model}
use Rattle.docket.proofs.DeclarationFacts.{names_of-if}
use Rattle.docket.proofs.PassFacts.{reading_fault-few}
use Rattle.docket.proofs.RankingFacts.{clean_at}
use Rattle.docket.proofs.SoundFacts.{both_none}

-- a row that the first pass accepted is within the widest limits
limit_none : (before : List Fields) (row : Fields) → length before < MAX_RECORDS → reading_fault widest before row ≡ None → limit_fault widest before row ≡ None
limit_none before row few e =
    let own = both_none (row_fault (next_place before) (workers_in before) row) (option_or (repeat_fault before row) (limit_fault widest before row)) (sym (reading_fault-few widest before row few) ∙ e) in
    (both_none (repeat_fault before row) (limit_fault widest before row) own.1).1

quota_room : (before : List Fields) (row : Fields) → kind_of row ≡ QUOTA → limit_fault widest before row ≡ None → length (programmes_of before) < NATIONAL_PROGRAMMES
unfolding limit_fault
quota_room before row kind none = by (nat_le NATIONAL_PROGRAMMES (length (programmes_of before))) refl (rw kind at none)
  where
    by : (b : Bool) → nat_le NATIONAL_PROGRAMMES (length (programmes_of before)) ≡ b
        → (if b then Some (Model (next_place before) model.TooManyProgrammes)
        else if nat_lt MAX_QUOTA (unwrap_or (number_of (field row 2)) 0) then Some (Model (next_place before) model.QuotaTooLarge) else None) ≡ None
        → length (programmes_of before) < NATIONAL_PROGRAMMES
    by true e h = absurd (cc h)
    by false e h = search (rules, e)

resident_room : (before : List Fields) (row : Fields) → kind_of row ≡ RESIDENT_LIST → limit_fault widest before row ≡ None → length (residents_of before) < NATIONAL_RESIDENTS
unfolding limit_fault
resident_room before row kind none = by (nat_le NATIONAL_RESIDENTS (length (residents_of before))) refl (rw kind at none)
  where
    by : (b : Bool) → nat_le NATIONAL_RESIDENTS (length (residents_of before)) ≡ b
        → (if b then Some (Model (next_place before) model.TooManyResidents) else None) ≡ None → length (residents_of before) < NATIONAL_RESIDENTS
    by true e h = absurd (cc h)
    by false e h = search (rules, e)

-- if each row of one kind passes the test of the limit, the number of names of this kind is within the limit
few_names : (k most : ℕ) → ((before : List Fields) (row : Fields) → kind_of row ≡ k → limit_fault widest before row ≡ None → length (names_of k before) < most)
    → (rows : List Fields) → first_from (reading_fault widest) [] rows ≡ None → length rows ≤ MAX_RECORDS → (n : ℕ) → n ≤ length rows → length (names_of k (take n rows)) ≤ most
few_names k most room rows none few zero le = omega arith
few_names k most room rows none few (suc n) le = by (is_kind k (row_at rows n)) refl (few_names k most room rows none few n (omega (arith, le)))
  where
    here : length (take n rows) < MAX_RECORDS
    here = let size = length-take n rows in omega (arith, size, le, few)

    next : take (suc n) rows ≡ take n rows ++ row_at rows n ∷ []
    next = let same : suc n ≡ n + 1 = omega arith in rw same (take_more rows n [] (omega arith))

    grown : names_of k (take (suc n) rows) ≡ (if is_kind k (row_at rows n) then names_of k (take n rows) ++ field (row_at rows n) 1 ∷ [] else names_of k (take n rows))
    grown = rw next (names_of-if k (take n rows) (row_at rows n))

    by : (b : Bool) → is_kind k (row_at rows n) ≡ b → length (names_of k (take n rows)) ≤ most → length (names_of k (take (suc n) rows)) ≤ most
    by true e before =
        let kind : kind_of (row_at rows n) ≡ k = search (rules, e) in
        let less = room (take n rows) (row_at rows n) kind (limit_none (take n rows) (row_at rows n) here (clean_at (reading_fault widest) rows n none (omega arith))) in
        let size = length-append (names_of k (take n rows)) (field (row_at rows n) 1 ∷ []) in
        rw (grown, e) (omega (arith, size, less))
    by false e before = rw (grown, e) before

-- the members are at most as many as the widest limits allow
pub record AreFew (rows : List Fields) : Type 0 where
  pub programmes : length (programmes_of rows) ≤ NATIONAL_PROGRAMMES
  pub residents : length (residents_of rows) ≤ NATIONAL_RESIDENTS

pub few_members : (rows : List Fields) → first_from (reading_fault widest) [] rows ≡ None → length rows ≤ MAX_RECORDS → AreFew rows
unfolding programmes_of residents_of
few_members rows none few =
    let programmes = few_names QUOTA NATIONAL_PROGRAMMES quota_room rows none few (length rows) (omega arith) in
    let residents = few_names RESIDENT_LIST NATIONAL_RESIDENTS resident_room rows none few (length rows) (omega arith) in
    let all = take_all (length rows) rows (omega arith) in
    record { programmes = rw all at programmes; residents = rw all at residents }
