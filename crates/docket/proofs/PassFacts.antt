-- The first fault of a pass over the rows, as the rows are read one by one.
use Rattle.docket.specs.Limits.{most_records}
use Rattle.match_model.specs.declared.limits.Limits.{Limits}
use Rattle.std.proofs.Common.{◌≡◌, ◌⊎◌, ◌<◌, ◌+◌, ℕ, List, [], ◌∷◌, ◌++◌, Bool, true, false, length, take, drop, sym, ◌∙◌, refl, ap, Option, Some, None, inl, inr, append_assoc, append-nil, rules}
use Rattle.std.specs.Prelude.{nat_le, if◌then◌else◌}
use Rattle.std.proofs.lemmas.List.{take_more, take-append-drop, length-append}
use Rattle.std.specs.Option.{option_or}
use Rattle.docket.specs.Fields.{row_fault}
use Rattle.records.specs.Reading.{Fields}
use Rattle.docket.specs.Contents.{workers_in}
use Rattle.docket.specs.Rows.{row_at}
use Rattle.docket.specs.Answers.{Refuses}
use Rattle.docket.specs.Read.{IsOutside, IsSourceFault, Explains}
use Rattle.docket.specs.Passes.{first_from, reading_fault, repeat_fault, limit_fault, next_place}
use Rattle.docket.specs.declared.fault.DocketFault.{DocketFault}
use Rattle.docket.specs.declared.records_fault.RecordsFault.{RecordsFault}
use Rattle.docket.specs.declared.fault.DocketFault.TheVariants.{TooManyRecords}

-- the first fault of three tests is the same, whichever two neighbours are joined first
pub option_or-assoc : {F : Type 0} (a b c : Option F) → option_or a (option_or b c) ≡ option_or (option_or a b) c
option_or-assoc None b c = refl
option_or-assoc (Some f) b c = refl

-- the first fault in two joined lists of rows is the first list's, or else the second's
pub first_from-append : {F : Type 0} (f : List Fields → Fields → Option F) (before xs ys : List Fields)
    → first_from f before (xs ++ ys) ≡ option_or (first_from f before xs) (first_from f (before ++ xs) ys)
unfolding first_from
first_from-append f before [] ys = rw (append-nil before) refl
first_from-append f before (x ∷ xs) ys =
    ap (option_or (f before x)) (first_from-append f (before ++ x ∷ []) xs ys)
    ∙ option_or-assoc (f before x) (first_from f (before ++ x ∷ []) xs) (first_from f ((before ++ x ∷ []) ++ xs) ys)
    ∙ ap (λ (b : List Fields). option_or (option_or (f before x) (first_from f (before ++ x ∷ []) xs)) (first_from f b ys)) (append_assoc before (x ∷ []) xs)

-- if the rows so far have no fault and the next row has none, the rows with the next row have none
pub first_from-push : {F : Type 0} (f : List Fields → Fields → Option F) (kept : List Fields) (row : Fields)
    → first_from f [] kept ≡ None → f kept row ≡ None → first_from f [] (kept ++ row ∷ []) ≡ None
unfolding first_from
first_from-push f kept row none here = rw (first_from-append f [] kept (row ∷ []), none, here) refl

-- if the rows so far have no fault and the next row has one, this fault is the first, whatever rows follow
pub first_from-found : {F : Type 0} (f : List Fields → Fields → Option F) (kept rest : List Fields) (row : Fields) (e : F)
    → first_from f [] kept ≡ None → f kept row ≡ Some e → first_from f [] (kept ++ row ∷ rest) ≡ Some e
unfolding first_from
first_from-found f kept rest row e none here = rw (first_from-append f [] kept (row ∷ rest), none, here) refl

-- a fault of the reader or out of memory is right whatever the docket's rows are
pub outside_fault : (all : Option (List Fields)) (f : List Fields → Option RecordsFault) (place : ℕ) (e : RecordsFault)
    → IsOutside place e → IsSourceFault e ⊎ Explains all f e
outside_fault None f place e (inl memory) = inr ([], inl memory)
outside_fault (Some rows) f place e (inl memory) = inr (inl memory)
outside_fault all f place e (inr read) = inl (place, read)

-- within the limit on records, the first pass finds in a row the fault that the row has by itself, or
-- else the fault that it has because of earlier rows
pub reading_fault-few : (lim : Limits) (before : List Fields) (row : Fields) → length before < most_records lim
    → reading_fault lim before row ≡ option_or (row_fault (next_place before) (workers_in before) row) (option_or (repeat_fault before row) (limit_fault lim before row))
unfolding reading_fault
reading_fault-few lim before row few = by (nat_le (most_records lim) (length before)) refl
  where
    by : (b : Bool) → nat_le (most_records lim) (length before) ≡ b
        → (if b then Some (TooManyRecords (next_place before)) else option_or (row_fault (next_place before) (workers_in before) row) (option_or (repeat_fault before row) (limit_fault lim before row)))
        ≡ option_or (row_fault (next_place before) (workers_in before) row) (option_or (repeat_fault before row) (limit_fault lim before row))
    by true e = absurd (search (rules, few, e))
    by false e = refl

-- an empty list of rows has no fault
pub first_from-none : {F : Type 0} (f : List Fields → Fields → Option F) → first_from f [] [] ≡ None
unfolding first_from
first_from-none f = refl

pub length-push : {A : Type 0} (xs : List A) (x : A) → length (xs ++ x ∷ []) ≡ length xs + 1
length-push xs x = length-append xs (x ∷ [])

pub pass_more : (f : List Fields → Fields → Option DocketFault) (rows : List Fields) (k : ℕ) → k < length rows → first_from f [] (take k rows) ≡ None
    → f (take k rows) (row_at rows k) ≡ None → first_from f [] (take (k + 1) rows) ≡ None
pass_more f rows k lt none here = rw (take_more rows k [] lt) (first_from-push f (take k rows) (row_at rows k) none here)

pub pass_fault : (f : List Fields → Fields → Option DocketFault) (rows : List Fields) (k : ℕ) (e : DocketFault) → k < length rows → first_from f [] (take k rows) ≡ None
    → Refuses (f (take k rows) (row_at rows k)) e → Refuses (first_from f [] rows) e
pass_fault f rows k e lt none (inl memory) = inl memory
pass_fault f rows k e lt none (inr here) =
    let whole : take k rows ++ row_at rows k ∷ drop (k + 1) rows ≡ rows = sym (append_assoc (take k rows) (row_at rows k ∷ []) (drop (k + 1) rows)) ∙ ap (λ (l : List Fields). l ++ drop (k + 1) rows) (sym (take_more rows k [] lt)) ∙ take-append-drop (k + 1) rows in
    inr (ap (first_from f []) (sym whole) ∙ first_from-found f (take k rows) (drop (k + 1) rows) (row_at rows k) e none here)
