-- The faults and the entry of one rank list or withdrawal.
use Rattle.std.proofs.Common.{◌≡◌, ◌≤◌, ℕ, List, [], ◌∷◌, Bool, true, false, length, drop, sym, refl, ap, arith, rules, Some, None}
use Rattle.std.specs.Prelude.{◌&&◌, nat_lt, bytes_eq, codes, if◌then◌else◌}
use Rattle.std.specs.List.{list_all}
use Rattle.docket.specs.Fields.{kind_of, is_side, unless, lists_names, list_row_fault, withdrawal_row_fault, withdrawal_kind}
use Rattle.records.specs.Reading.{Fields, field}
use Rattle.docket.specs.Lists.{list_letter, list_entry, gone_entry, entry_in}
use Rattle.docket.specs.Words.{side_of}
use Rattle.docket.specs.Rows.{side_text}
use Rattle.docket.specs.declared.fault.DocketFault.TheVariants.{BadName, BadWithdrawal}
use Rattle.docket.specs.declared.vocabulary.Side.{Side}
use Rattle.docket.specs.declared.vocabulary.Side.TheVariants.{Programmes, Residents}
use Rattle.docket_names.specs.Words.{is_name}
use Rattle.docket_names.proofs.NameFacts.{same_bytes}
use Rattle.docket.proofs.FieldFacts.{field-get_or}

-- the entry in a P or R row is that of a rank list of its side
pub list_entry_in : (n m : ℕ) (side : Side) (row : Fields) → kind_of row ≡ list_letter side → m ≡ n → entry_in n row ≡ list_entry m side row ∷ []
unfolding entry_in
list_entry_in n m Programmes row kind place = rw (kind, place) refl
list_entry_in n m Residents row kind place = rw (kind, place) refl

-- the entry in a W row is that of a withdrawal on the side that it names
pub gone_entry_in : (n m : ℕ) (side : Side) (row : Fields) → kind_of row ≡ withdrawal_kind → side_of (field row 1) ≡ Some side → m ≡ n → entry_in n row ≡ gone_entry m side row ∷ []
unfolding entry_in
gone_entry_in n m side row kind at place = rw (kind, at, place) refl

named_parts : (row : Fields) → 2 ≤ length row → lists_names row ≡ (is_name (field row 1) && list_all is_name (drop 2 row))
unfolding lists_names
named_parts [] le = absurd (omega (arith, le))
named_parts (x ∷ []) le = absurd (omega (arith, le))
named_parts (x ∷ y ∷ row) le = ap (λ (t : List ℕ). is_name t && list_all is_name row) (sym (field-get_or (x ∷ y ∷ row) 1))

-- the only fault that a P or R row can have by itself is that a field after the first is no name
pub list_tested : (n : ℕ) (row : Fields) (named : Bool) → 2 ≤ length row → named ≡ (is_name (field row 1) && list_all is_name (drop 2 row)) → list_row_fault n row ≡ unless named (BadName n)
list_tested n row named le is =
    let wide : nat_lt 1 (length row) ≡ true = search (rules, le) in
    rw (wide, named_parts row le, is) refl

pub side_is : (text : List ℕ) (side : Side) → side_of text ≡ Some side → (text ≡ side_text side) × (is_side text ≡ true)
unfolding side_of
side_is text side h = by (bytes_eq text (codes "P")) refl (bytes_eq text (codes "R")) refl side h
  where
    by : (a : Bool) → bytes_eq text (codes "P") ≡ a → (b : Bool) → bytes_eq text (codes "R") ≡ b → (side : Side)
        → (if a then Some Programmes else if b then Some Residents else None) ≡ Some side → (text ≡ side_text side) × (is_side text ≡ true)
    by true e b f Programmes h = (same_bytes text (codes "P") e, rw e refl)
    by true e b f Residents h = absurd (cc h)
    by false e true f Programmes h = absurd (cc h)
    by false e true f Residents h = (same_bytes text (codes "R") f, rw (e, f) refl)
    by false e false f side h = absurd (cc h)

pub no_side : (text : List ℕ) → side_of text ≡ None → is_side text ≡ false
unfolding side_of
no_side text h = by (bytes_eq text (codes "P")) refl (bytes_eq text (codes "R")) refl h
  where
    by : (a : Bool) → bytes_eq text (codes "P") ≡ a → (b : Bool) → bytes_eq text (codes "R") ≡ b
        → (if a then Some Programmes else if b then Some Residents else None) ≡ None → is_side text ≡ false
    by true e b f h = absurd (cc h)
    by false e true f h = absurd (cc h)
    by false e false f h = rw (e, f) refl

-- the only fault that a W row of three fields with a known side can have by itself is that field 2
-- is no name
pub gone_tested : (n : ℕ) (row : Fields) (side : Side) (named : Bool) → length row ≡ 3 → side_of (field row 1) ≡ Some side → named ≡ is_name (field row 2)
    → withdrawal_row_fault n row ≡ unless named (BadName n)
gone_tested n row side named size at is = let sided = (side_is (field row 1) side at).1 in rw (size, sided, is) refl

pub gone_unsided : (n : ℕ) (row : Fields) → length row ≡ 3 → side_of (field row 1) ≡ None → withdrawal_row_fault n row ≡ Some (BadWithdrawal n)
gone_unsided n row size at = rw (size, no_side (field row 1) at) refl
