-- What the fields of a record without a fault of its own have.
use Rattle.match_model.specs.declared.limits.Limits.{Limits}
use Rattle.std.proofs.Common.{◌≡◌, ◌<◌, ℕ, List, [], ◌∷◌, Bool, true, false, length, drop, arith, refl, Option, Some, None, rules}
use Rattle.std.specs.Prelude.{◌==◌, nat_lt}
use Rattle.std.specs.List.{list_all}
use Rattle.docket_names.specs.Words.{is_name}
use Rattle.std.specs.Option.{option_or}
use Rattle.docket.specs.Fields.{kind_of, unless, list_row_fault, lists_names, version_kind, withdrawal_kind}
use Rattle.records.specs.Reading.{Fields, field}
use Rattle.docket.specs.declared.vocabulary.TheConstants.{QUOTA, PROGRAMME_LIST, RESIDENT_LIST, CAPACITY, EVENT}
use Rattle.docket.specs.declared.fault.DocketFault.{DocketFault}
use Rattle.docket.specs.declared.fault.DocketFault.TheVariants.{FieldCount, BadName}
use Rattle.docket.specs.Passes.{repeat_fault, limit_fault}
use Rattle.docket_names.proofs.WordFacts.{list_all_true_at}
use Rattle.docket.proofs.FieldFacts.{field-get_or}

-- if two tests together have no fault, neither test has a fault
pub both_none : {F : Type 0} (first second : Option F) → option_or first second ≡ None → (first ≡ None) × (second ≡ None)
both_none None second e = (refl, e)
both_none (Some f) second e = absurd (cc e)

pub unless_none : (test : Bool) (fault : DocketFault) → unless test fault ≡ None → test ≡ true
unless_none true fault e = refl
unless_none false fault e = absurd (cc e)

-- a P or R row without a fault of its own has a name in field 1
pub list_row_sound : (n : ℕ) (row : Fields) → list_row_fault n row ≡ None → is_name (field row 1) ≡ true
unfolding lists_names
list_row_sound n row own =
    let rest = both_none (unless (nat_lt 1 (length row)) (FieldCount n)) (unless (lists_names row) (BadName n)) own in
    let long = unless_none (nat_lt 1 (length row)) (FieldCount n) rest.0 in
    let named = unless_none (lists_names row) (BadName n) rest.1 in
    first row (search (rules, long)) named
  where
    first : (r : Fields) → 1 < length r → list_all is_name (drop 1 r) ≡ true → is_name (field r 1) ≡ true
    first [] lt all = absurd (omega arith)
    first (k ∷ []) lt all = absurd (omega arith)
    first (k ∷ name ∷ rest) lt all = rw (field-get_or (k ∷ name ∷ rest) 1) (list_all_true_at is_name (name ∷ rest) 0 [] (omega arith) all)

-- the first pass tests a row of a sheet only by itself
pub sheet_row_free : (lim : Limits) (before : List Fields) (row : Fields) (k : ℕ) → kind_of row ≡ k → (k == QUOTA) ≡ false → (k == PROGRAMME_LIST) ≡ false
    → (k == RESIDENT_LIST) ≡ false → (k == CAPACITY) ≡ false → (k == EVENT) ≡ false → (k == version_kind) ≡ false → (k == withdrawal_kind) ≡ false
    → option_or (repeat_fault before row) (limit_fault lim before row) ≡ None
unfolding repeat_fault limit_fault
sheet_row_free lim before row k kind q p r c e v w = rw (kind, q, p, r, c, e, v, w) refl
