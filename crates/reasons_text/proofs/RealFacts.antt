-- The real names that the rows of a key give, one row after another.
use Rattle.std.proofs.Common.{◌≡◌, ◌<◌, ◌≤◌, ◌+◌, ◌∙◌, ℕ, List, [], ◌∷◌, ◌++◌, Option, Some, None, Bool, true, false, length, map, drop, take, get_or, refl, sym, ap, arith, append_assoc, take_all}
use Rattle.std.specs.Prelude.{◌==◌, find, is_none, option_map, slice_set, if◌then◌else◌}
use Rattle.std.specs.Option.{option_or}
use Rattle.std.proofs.lemmas.List.{get_or-set_other, get_or-set_same, get_or-map, length-map, length-set, length-take-le, take-append-drop, take_more}
use Rattle.std.proofs.lemmas.Bool.{eqb-false, eqb-true}
use Rattle.std.proofs.lemmas.List.Folds.{find-append}
use Rattle.docket.specs.Contents.{Contents}
use Rattle.csv.specs.Records.{Row, fields_of}
use Rattle.records.specs.Reading.{Fields}
use Rattle.reasons_text.specs.Keys.{added, all_added, unnamed}
use Rattle.reasons_text.specs.Naming.{KeyNames, member_count}
use Rattle.reasons_text.specs.RealNames.{AreNamed, AreRealIn, Real, is_member, named_by, names_member, real_fault, real_fault_from, real_fields, real_name, with_first, with_row}
use Rattle.reasons_text.proofs.KeyFacts.{none_added, one_added}
use Rattle.reasons_text.specs.declared.real_names.NamesFault.{NamesFault}
use Rattle.reasons_text.specs.declared.side.Side.{Side}
use Rattle.reasons_text.specs.declared.side.Side.TheVariants.{Programmes, Residents}

or_nothing : (o : Option Fields) → option_or o None ≡ o
or_nothing None = refl
or_nothing (Some x) = refl

-- a row that doesn't name the member leaves the member's real name as it was
not_named : (d : Contents) (side : Side) (done : List Fields) (row : Fields) (n : ℕ) → names_member d side n row ≡ false → real_name d side (done ++ row ∷ []) n ≡ real_name d side done n
not_named d side done row n e = ap (option_map real_fields) (find-append (names_member d side n) done (row ∷ []) ∙ rw e (or_nothing (find (names_member d side n) done)))

-- a row that names a member who had no real name gives the member's real name
first_named : (d : Contents) (side : Side) (done : List Fields) (row : Fields) (n : ℕ) → names_member d side n row ≡ true → real_name d side done n ≡ None
    → real_name d side (done ++ row ∷ []) n ≡ Some (real_fields row)
first_named d side done row n e none =
    ap (option_map real_fields) (find-append (names_member d side n) done (row ∷ []) ∙ by (find (names_member d side n) done) none)
  where
    by : (o : Option Fields) → option_map real_fields o ≡ None → option_or o (if names_member d side n row then Some row else None) ≡ Some row
    by None h = rw e refl
    by (Some r) h = absurd (cc h)

-- a member who has a real name keeps it after one more row
still_named : (d : Contents) (side : Side) (done : List Fields) (row fields : Fields) (n : ℕ) → real_name d side done n ≡ Some fields
    → real_name d side (done ++ row ∷ []) n ≡ Some fields
still_named d side done row fields n some =
    ap (option_map real_fields) (find-append (names_member d side n) done (row ∷ [])) ∙ by (find (names_member d side n) done) some
  where
    by : (o : Option Fields) → option_map real_fields o ≡ Some fields → option_map real_fields (option_or o (if names_member d side n row then Some row else None)) ≡ Some fields
    by None h = absurd (cc h)
    by (Some r) h = h

-- the real names of a side's members after one more row: the row gives its member a real name if the
-- member had none
pub named_more : (d : Contents) (side : Side) (done : List Fields) (row : Fields) (names : List (Option Fields)) → AreNamed d side done names
    → AreNamed d side (done ++ row ∷ []) (with_first names (named_by d side row) (real_fields row))
named_more d side done row names h = by (named_by d side row) refl
  where
    by : (o : Option ℕ) → named_by d side row ≡ o → AreNamed d side (done ++ row ∷ []) (with_first names (named_by d side row) (real_fields row))
    by None e = rw e (record { each = h.each; are = λ n within. h.are n within ∙ sym (not_named d side done row n (ap (is_member n) e)) })
    by (Some m) e = rw e (known (get_or names m None) refl)
      where
        names_it : (n : ℕ) → names_member d side n row ≡ (m == n)
        names_it n = ap (is_member n) e

        other : (n : ℕ) → n < member_count d side → (m == n) ≡ false → get_or names n None ≡ real_name d side (done ++ row ∷ []) n
        other n within apart = h.are n within ∙ sym (not_named d side done row n (names_it n ∙ apart))

        known : (o : Option Fields) → get_or names m None ≡ o → AreNamed d side (done ++ row ∷ []) (if is_none (get_or names m None) then slice_set names m (Some (real_fields row)) else names)
        known (Some fields) at = rw at (record { each = h.each; are = λ n within. here n within (m == n) refl })
          where
            here : (n : ℕ) → n < member_count d side → (b : Bool) → (m == n) ≡ b → get_or names n None ≡ real_name d side (done ++ row ∷ []) n
            here n within false apart = other n within apart
            here n within true same =
                let e : m ≡ n = eqb-true m n same in
                let own : get_or names n None ≡ Some fields = ap (λ k. get_or names k None) (sym e) ∙ at in
                own ∙ sym (still_named d side done row fields n (sym (h.are n within) ∙ own))
        known None at = rw at (record { each = length-set names m (Some (real_fields row)) ∙ h.each; are = λ n within. here n within (m == n) refl })
          where
            here : (n : ℕ) → n < member_count d side → (b : Bool) → (m == n) ≡ b → get_or (slice_set names m (Some (real_fields row))) n None ≡ real_name d side (done ++ row ∷ []) n
            here n within false apart = get_or-set_other names m n (Some (real_fields row)) None (λ (e : n ≡ m). eqb-false m n apart (sym e)) ∙ other n within apart
            here n within true same =
                let e : m ≡ n = eqb-true m n same in
                let none : real_name d side done n ≡ None = sym (h.are n within) ∙ ap (λ k. get_or names k None) (sym e) ∙ at in
                ap (λ k. get_or (slice_set names m (Some (real_fields row))) k None) (sym e)
                ∙ get_or-set_same names m (Some (real_fields row)) None (omega (arith, within, e, h.each))
                ∙ sym (first_named d side done row n (names_it n ∙ same) none)

-- one more row adds its real name to those of both sides, if its member had none
pub real_more : (d : Contents) (done : List Fields) (row : Fields) (real : Real) → AreRealIn d done real → AreRealIn d (done ++ row ∷ []) (with_row d real row)
real_more d done row real h = record { programmes = named_more d Programmes done row real.programmes h.programmes; residents = named_more d Residents done row real.residents h.residents }

or_none : (a b : Option NamesFault) → option_or a b ≡ None → (a ≡ None) × (b ≡ None)
or_none None b h = (refl, h)
or_none (Some x) b h = absurd (cc h)

module _ (d : Contents) where
  -- if the first rows have no fault, the first fault of all rows is the first fault of the remaining rows
  pub real_fault_after : (key : KeyNames) (n : ℕ) (done rest : List Fields) → real_fault_from d key n done ≡ None
      → real_fault_from d key n (done ++ rest) ≡ real_fault_from d (all_added d key done) (n + length done) rest
  unfolding real_fault_from all_added
  real_fault_after key n [] rest h = let e : n ≡ n + 0 = omega arith in ap (λ k. real_fault_from d key k rest) e
  real_fault_after key n (row ∷ more) rest h =
      let both = or_none (real_fault d key (n + 1) row) (real_fault_from d (added d key row) (n + 1) more) h in
      let e : n + 1 + length more ≡ n + length (row ∷ more) = omega arith in
      rw both.0 (real_fault_after (added d key row) (n + 1) more rest both.1 ∙ ap (λ k. real_fault_from d (all_added d (added d key row) more) k rest) e)

  -- if the rows so far have no fault, a fault of the next row is the first fault of all rows
  pub real_fault_next : (key now : KeyNames) (done rest : List Fields) (row : Fields) (fault : NamesFault) → real_fault_from d key 0 done ≡ None → now ≡ all_added d key done
      → real_fault d now (length done + 1) row ≡ Some fault → real_fault_from d key 0 (done ++ (row ∷ rest)) ≡ Some fault
  unfolding real_fault_from
  real_fault_next key now done rest row fault good was here =
      let there : 0 + length done ≡ length done = omega arith in
      real_fault_after key 0 done (row ∷ rest) good ∙ ap (λ k. real_fault_from d (all_added d key done) k (row ∷ rest)) there
      ∙ ap (λ (o : Option NamesFault). option_or o (real_fault_from d (added d (all_added d key done) row) (length done + 1) rest))
      (ap (λ (k : KeyNames). real_fault d k (length done + 1) row) (sym was) ∙ here)

  -- if the rows read have no fault and the next row has none, all these rows have none
  pub real_fault_more : (key now : KeyNames) (done : List Fields) (row : Fields) → real_fault_from d key 0 done ≡ None → now ≡ all_added d key done
      → real_fault d now (length done + 1) row ≡ None → real_fault_from d key 0 (done ++ row ∷ []) ≡ None
  unfolding real_fault_from
  real_fault_more key now done row good was here =
      let there : 0 + length done ≡ length done = omega arith in
      real_fault_after key 0 done (row ∷ []) good ∙ ap (λ k. real_fault_from d (all_added d key done) k (row ∷ [])) there
      ∙ ap (λ (o : Option NamesFault). option_or o None) (ap (λ (k : KeyNames). real_fault d k (length done + 1) row) (sym was) ∙ here)

-- the key and the real names have the names in the rows of a key that were read, and these rows
-- have no fault
pub record HasNamed (d : Contents) (done : List Fields) (key : KeyNames) (real : Real) : Type 0 where
  pub key_is : key ≡ all_added d (unnamed d) done
  pub clear : real_fault_from d (unnamed d) 0 done ≡ None
  pub named : AreRealIn d done real

pub has_none : (d : Contents) (key : KeyNames) (real : Real) → key ≡ unnamed d → AreRealIn d [] real → HasNamed d [] key real
unfolding real_fault_from
has_none d key real is named = record { key_is = is ∙ none_added d (unnamed d); clear = refl; named = named }

pub has_more : (d : Contents) (done : List Fields) (row : Fields) (key more : KeyNames) (real next : Real) → HasNamed d done key real → more ≡ added d key row
    → real_fault d key (length done + 1) row ≡ None → next ≡ with_row d real row → HasNamed d (done ++ row ∷ []) more next
has_more d done row key more real next h is clear e = record {
  key_is = one_added d (unnamed d) key more done row h.key_is is;
  clear = real_fault_more d (unnamed d) key done row h.clear h.key_is clear;
  named = rw e (real_more d done row real h.named);
}

-- the first k + 1 rows are the first k and the row at place k
pub rows_to : (rows : List Row) (k : ℕ) (r : Row) → k < length rows → r ≡ get_or rows k r → take (k + 1) (map fields_of rows) ≡ take k (map fields_of rows) ++ fields_of r ∷ []
rows_to rows k r within here =
    take_more (map fields_of rows) k (fields_of r) (omega (arith, within, length-map rows fields_of))
    ∙ ap (λ (x : Fields). take k (map fields_of rows) ++ x ∷ []) (get_or-map fields_of rows k r (fields_of r) within ∙ ap fields_of (sym here))

-- all rows are the first k, then the row at place k, then those after it
pub rows_split : (rows : List Row) (k : ℕ) (r : Row) → k < length rows → r ≡ get_or rows k r
    → map fields_of rows ≡ take k (map fields_of rows) ++ (fields_of r ∷ drop (k + 1) (map fields_of rows))
rows_split rows k r within here =
    sym (take-append-drop (k + 1) (map fields_of rows)) ∙ ap (λ t. t ++ drop (k + 1) (map fields_of rows)) (rows_to rows k r within here)
    ∙ append_assoc (take k (map fields_of rows)) (fields_of r ∷ []) (drop (k + 1) (map fields_of rows))

pub rows_before : (rows : List Row) (k : ℕ) → k < length rows → length (take k (map fields_of rows)) ≡ k
rows_before rows k within = length-take-le k (map fields_of rows) (omega (arith, within, length-map rows fields_of))

-- if the names of the first k rows were noted, and there are at most k rows, the names of all rows were
-- noted
pub has_all : (d : Contents) (rows : List Fields) (k : ℕ) (key : KeyNames) (real : Real) → length rows ≤ k → HasNamed d (take k rows) key real → HasNamed d rows key real
has_all d rows k key real past h = rw (take_all k rows past) at h

-- if the first k rows were noted without a fault, a fault of the next row is the first fault of all rows
pub has_fault : (d : Contents) (rows : List Row) (k : ℕ) (r : Row) (key : KeyNames) (real : Real) (fault : NamesFault) → k < length rows → r ≡ get_or rows k r
    → HasNamed d (take k (map fields_of rows)) key real → real_fault d key (k + 1) (fields_of r) ≡ Some fault → real_fault_from d (unnamed d) 0 (map fields_of rows) ≡ Some fault
has_fault d rows k r key real fault within here h at =
    let place = rows_before rows k within in
    ap (real_fault_from d (unnamed d) 0) (rows_split rows k r within here)
    ∙ real_fault_next d (unnamed d) key (take k (map fields_of rows)) (drop (k + 1) (map fields_of rows)) (fields_of r) fault h.clear h.key_is (rw place at)

pub is_none_too : {A B : Type 0} (f : A → B) (o : Option A) → is_none (option_map f o) ≡ is_none o
is_none_too f None = refl
is_none_too f (Some x) = refl
