-- The records of a docket without a fault are within its limits.
use Rattle.std.proofs.Common.{◌≡◌, ◌≤◌, ℕ, List, [], ◌∷◌, ◌++◌, Bool, true, false, length, subst, sym, refl, arith, rules, append_assoc, append-nil, Option, Some, None}
use Rattle.std.specs.Prelude.{if◌then◌else◌, nat_le, nat_lt, unwrap_or}
use Rattle.std.specs.List.{All}
use Rattle.std.specs.Option.{option_or}
use Rattle.std.proofs.lemmas.List.{length-append}
use Rattle.std.proofs.lemmas.List.Elements.{All-nil, All-push}
use Rattle.match_model.specs.Limits.{most_programmes, most_residents}
use Rattle.match_model.specs.declared.limits.Limits.{Limits}
use Rattle.match_model.specs.declared.limits.TheConstants.{MAX_QUOTA}
use Rattle.match_model.specs.declared.fault.ModelFault.TheVariants as model
use Rattle.docket_names.specs.Words.{number_of}
use Rattle.docket.specs.Fields.{is_kind, row_fault}
use Rattle.records.specs.Reading.{Fields, field}
use Rattle.docket.specs.Contents.{programmes_of, residents_of, quotas_of, workers_in}
use Rattle.docket.specs.Passes.{first_from, reading_fault, repeat_fault, limit_fault, next_place}
use Rattle.docket.specs.declared.fault.DocketFault.{DocketFault}
use Rattle.docket.specs.declared.fault.DocketFault.TheVariants.{TooManyRecords, Model}
use Rattle.docket.proofs.SoundFacts.{both_none}
use Rattle.docket.proofs.DeclarationFacts.{programmes_of-if, residents_of-if, quotas_of-if}

-- the ASCII letters of three kinds of row: `Q` declares a programme, `P` has a programme's list, and `R` declares a
-- resident with a list
abbrev pub quota_letter : ℕ
quota_letter = 81

abbrev pub programme_letter : ℕ
programme_letter = 80

abbrev pub resident_letter : ℕ
resident_letter = 82

-- a property holds for all records if it holds for no records, and still holds after each further record without a
-- fault
pub over_records : (f : List Fields → Fields → Option DocketFault) (P : List Fields → Type 0) → P []
    → ((before : List Fields) (row : Fields) → f before row ≡ None → P before → P (before ++ row ∷ []))
    → (rows : List Fields) → first_from f [] rows ≡ None → P rows
unfolding first_from
over_records f P start step rows none = over [] rows none start
  where
    over : (before rest : List Fields) → first_from f before rest ≡ None → P before → P (before ++ rest)
    over before [] e h = subst P (sym (append-nil before)) h
    over before (row ∷ rest) e h =
        let parts = both_none (f before row) (first_from f (before ++ row ∷ []) rest) e in
        subst P (append_assoc before (row ∷ []) rest) (over (before ++ row ∷ []) rest parts.1 (step before row parts.0 h))

-- a record without a fault in the first pass is within the limits
limit_none : (lim : Limits) → (before : List Fields) (row : Fields) → reading_fault lim before row ≡ None → limit_fault lim before row ≡ None
unfolding reading_fault
limit_none lim before row none = by _ none
  where
    own : Option DocketFault
    own = row_fault (next_place before) (workers_in before) row

    by : (b : Bool) → (if b then Some (TooManyRecords (next_place before)) else option_or own (option_or (repeat_fault before row) (limit_fault lim before row))) ≡ None
        → limit_fault lim before row ≡ None
    by true e = absurd (cc e)
    by false e = (both_none (repeat_fault before row) (limit_fault lim before row) (both_none own (option_or (repeat_fault before row) (limit_fault lim before row)) e).1).1

-- a record has only one kind
pub one_kind : (row : Fields) (j k : ℕ) → is_kind j row ≡ true → is_kind k row ≡ true → j ≡ k
one_kind row j k e f = search (rules, e, f)

-- the quota that a record declares, or 0 if it declares none
abbrev quota_in : Fields → ℕ
quota_in row = unwrap_or (number_of (field row 2)) 0

-- if a record that declares a programme is within the limits, there is room for one more programme, and the quota is
-- not too large
programme_limits : (lim : Limits) → (before : List Fields) (row : Fields) → is_kind quota_letter row ≡ true → limit_fault lim before row ≡ None
    → (nat_le (most_programmes lim) (length (programmes_of before)) ≡ false) × (nat_lt MAX_QUOTA (quota_in row) ≡ false)
unfolding limit_fault
programme_limits lim before row kind none = by (is_kind quota_letter row) kind none
  where
    both : (b c : Bool) → (if b then Some (Model (next_place before) model.TooManyProgrammes) else if c then Some (Model (next_place before) model.QuotaTooLarge) else None) ≡ None → (b ≡ false) × (c ≡ false)
    both true c e = absurd (cc e)
    both false true e = absurd (cc e)
    both false false e = (refl, refl)

    by : (b : Bool) → b ≡ true → (if b then (if nat_le (most_programmes lim) (length (programmes_of before)) then Some (Model (next_place before) model.TooManyProgrammes) else if nat_lt MAX_QUOTA (quota_in row) then Some (Model (next_place before) model.QuotaTooLarge) else None)
        else if is_kind resident_letter row then (if nat_le (most_residents lim) (length (residents_of before)) then Some (Model (next_place before) model.TooManyResidents) else None) else None) ≡ None
        → (nat_le (most_programmes lim) (length (programmes_of before)) ≡ false) × (nat_lt MAX_QUOTA (quota_in row) ≡ false)
    by true t e = both (nat_le (most_programmes lim) (length (programmes_of before))) (nat_lt MAX_QUOTA (quota_in row)) e
    by false t e = absurd (cc t)

-- if a record that declares a resident is within the limits, there is room for one more resident
resident_limits : (lim : Limits) → (before : List Fields) (row : Fields) → is_kind resident_letter row ≡ true → limit_fault lim before row ≡ None
    → nat_le (most_residents lim) (length (residents_of before)) ≡ false
unfolding limit_fault
resident_limits lim before row kind none = by (is_kind quota_letter row) (is_kind resident_letter row) refl kind none
  where
    one : (b : Bool) → (if b then Some (Model (next_place before) model.TooManyResidents) else None) ≡ None → b ≡ false
    one true e = absurd (cc e)
    one false e = refl

    by : (a b : Bool) → is_kind quota_letter row ≡ a → b ≡ true → (if a then (if nat_le (most_programmes lim) (length (programmes_of before)) then Some (Model (next_place before) model.TooManyProgrammes) else if nat_lt MAX_QUOTA (quota_in row) then Some (Model (next_place before) model.QuotaTooLarge) else None)
        else if b then (if nat_le (most_residents lim) (length (residents_of before)) then Some (Model (next_place before) model.TooManyResidents) else None) else None) ≡ None
        → nat_le (most_residents lim) (length (residents_of before)) ≡ false
    by true b q t e = let same : quota_letter ≡ resident_letter = one_kind row quota_letter resident_letter q kind in absurd (omega (arith, same))
    by false true q t e = one (nat_le (most_residents lim) (length (residents_of before))) e
    by false false q t e = absurd (cc t)

-- the number of programmes is at most the limit on programmes
pub programmes_within : (lim : Limits) → (rows : List Fields) → first_from (reading_fault lim) [] rows ≡ None → length (programmes_of rows) ≤ most_programmes lim
unfolding programmes_of
programmes_within lim rows none = over_records (reading_fault lim) (λ some. length (programmes_of some) ≤ most_programmes lim) (omega arith) more rows none
  where
    more : (before : List Fields) (row : Fields) → reading_fault lim before row ≡ None → length (programmes_of before) ≤ most_programmes lim → length (programmes_of (before ++ row ∷ [])) ≤ most_programmes lim
    more before row e h = subst (λ (names : List (List ℕ)). length names ≤ most_programmes lim) (sym (programmes_of-if before row)) (by (is_kind quota_letter row) refl)
      where
        by : (b : Bool) → is_kind quota_letter row ≡ b → length (if b then programmes_of before ++ field row 1 ∷ [] else programmes_of before) ≤ most_programmes lim
        by true kind = search (rules, (programme_limits lim before row kind (limit_none lim before row e)).0, length-append (programmes_of before) (field row 1 ∷ []))
        by false kind = h

-- the number of residents is at most the limit on residents
pub residents_within : (lim : Limits) → (rows : List Fields) → first_from (reading_fault lim) [] rows ≡ None → length (residents_of rows) ≤ most_residents lim
unfolding residents_of
residents_within lim rows none = over_records (reading_fault lim) (λ some. length (residents_of some) ≤ most_residents lim) (omega arith) more rows none
  where
    more : (before : List Fields) (row : Fields) → reading_fault lim before row ≡ None → length (residents_of before) ≤ most_residents lim → length (residents_of (before ++ row ∷ [])) ≤ most_residents lim
    more before row e h = subst (λ (names : List (List ℕ)). length names ≤ most_residents lim) (sym (residents_of-if before row)) (by (is_kind resident_letter row) refl)
      where
        by : (b : Bool) → is_kind resident_letter row ≡ b → length (if b then residents_of before ++ field row 1 ∷ [] else residents_of before) ≤ most_residents lim
        by true kind = search (rules, resident_limits lim before row kind (limit_none lim before row e), length-append (residents_of before) (field row 1 ∷ []))
        by false kind = h

-- each quota is at most the limit on quotas
pub quotas_within : (lim : Limits) → (rows : List Fields) → first_from (reading_fault lim) [] rows ≡ None → All (λ q. q ≤ MAX_QUOTA) (quotas_of rows)
unfolding quotas_of
quotas_within lim rows none = over_records (reading_fault lim) (λ some. All (λ q. q ≤ MAX_QUOTA) (quotas_of some)) (All-nil (λ q. q ≤ MAX_QUOTA)) more rows none
  where
    more : (before : List Fields) (row : Fields) → reading_fault lim before row ≡ None → All (λ q. q ≤ MAX_QUOTA) (quotas_of before) → All (λ q. q ≤ MAX_QUOTA) (quotas_of (before ++ row ∷ []))
    more before row e h = subst (All (λ q. q ≤ MAX_QUOTA)) (sym (quotas_of-if before row)) (by (is_kind quota_letter row) refl)
      where
        by : (b : Bool) → is_kind quota_letter row ≡ b → All (λ q. q ≤ MAX_QUOTA) (if b then quotas_of before ++ quota_in row ∷ [] else quotas_of before)
        by true kind = All-push (λ q. q ≤ MAX_QUOTA) (quotas_of before) (quota_in row) h (search (rules, (programme_limits lim before row kind (limit_none lim before row e)).1))
        by false kind = h
