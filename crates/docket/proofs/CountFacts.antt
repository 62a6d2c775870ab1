-- How many names the rank lists have together, after one more record.
use Rattle.match_model.specs.declared.limits.Limits.{Limits}
use Rattle.std.proofs.Common.{◌≡◌, ◌+◌, ℕ, List, [], ◌∷◌, ◌++◌, Bool, true, false, filter, ◌∙◌, refl, ap, arith, Option, Some, None}
use Rattle.std.specs.Prelude.{if◌then◌else◌, option_map}
use Rattle.std.specs.List.{sum_by}
use Rattle.std.proofs.lemmas.List.Elements.{filter-append}
use Rattle.std.proofs.lemmas.List.Sums.{sum_by-append}
use Rattle.records.specs.Reading.{Fields}
use Rattle.docket.specs.Limits.{most_listed, is_above}
use Rattle.docket.specs.Contents.{is_list_row, names_listed, all_listed}
use Rattle.docket.specs.Passes.{first_from, reading_fault, listed_fault, first_pass_fault, next_place}
use Rattle.docket.specs.declared.fault.DocketFault.{DocketFault}
use Rattle.docket.specs.declared.records_fault.RecordsFault.TheVariants.{Docket, TooManyListed}
use Rattle.docket.proofs.SoundFacts.{both_none}

-- one more record adds to the names in all rank lists the names that it lists, if it is a rank list
pub all_listed-if : (rows : List Fields) (row : Fields)
    → all_listed (rows ++ row ∷ []) ≡ (if is_list_row row then all_listed rows + names_listed row else all_listed rows)
unfolding all_listed
all_listed-if rows row = ap (sum_by names_listed) (filter-append is_list_row rows (row ∷ [])) ∙ sum_by-append names_listed (filter is_list_row rows) (filter is_list_row (row ∷ [])) ∙ by (is_list_row row)
  where
    by : (b : Bool) → sum_by names_listed (filter is_list_row rows) + sum_by names_listed (if b then row ∷ [] else [])
        ≡ (if b then sum_by names_listed (filter is_list_row rows) + names_listed row else sum_by names_listed (filter is_list_row rows))
    by true = omega arith
    by false = omega arith

pub none_listed : all_listed [] ≡ 0
unfolding all_listed
none_listed = refl

-- the test of the number of listed names, in terms of the count that the code keeps
pub listed_asked : (lim : Limits) (rows : List Fields) (row : Fields) (listed n : ℕ) → listed ≡ all_listed (rows ++ row ∷ []) → n ≡ next_place rows
    → listed_fault lim rows row ≡ (if is_above (most_listed lim) listed then Some (TooManyListed n) else None)
unfolding listed_fault
listed_asked lim rows row listed n e f = rw (e, f) refl

-- if the docket's fault as a fault of records is none, the docket's fault is none
pub unmapped : (o : Option DocketFault) → option_map Docket o ≡ None → o ≡ None
unmapped None e = refl
unmapped (Some f) e = absurd (cc e)

-- if no record has a fault in the first pass's two tests, none has a fault in the first of them
pub reading_sound : (lim : Limits) (before rows : List Fields) → first_from (first_pass_fault lim) before rows ≡ None → first_from (reading_fault lim) before rows ≡ None
unfolding first_from
reading_sound lim before [] h = refl
reading_sound lim before (row ∷ rows) h =
    let parts = both_none (first_pass_fault lim before row) (first_from (first_pass_fault lim) (before ++ row ∷ []) rows) h in
    let here = both_none (option_map Docket (reading_fault lim before row)) (listed_fault lim before row) parts.0 in
    rw (unmapped (reading_fault lim before row) here.0) (reading_sound lim (before ++ row ∷ []) rows parts.1)
