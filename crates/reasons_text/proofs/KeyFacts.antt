-- The names that the rows of a key give, one row after another.
use Rattle.std.proofs.Common.{add-one, ◌≡◌, ◌+◌, ◌∙◌, ℕ, List, [], ◌∷◌, ◌++◌, length, Option, Some, None, Bool, true, refl, sym, ap, arith}
use Rattle.std.specs.Prelude.{◌==◌, ◌&&◌}
use Rattle.std.specs.Option.{option_or}
use Rattle.docket.specs.Contents.{Contents}
use Rattle.records.specs.Reading.{Fields, field}
use Rattle.reasons_text.specs.Keys.{added, all_added, fault_from, is_blank_below, row_fault}
use Rattle.reasons_text.specs.Naming.{KeyNames}
use Rattle.reasons_text.specs.declared.fault.WhyFault.{WhyFault}

or_none : (a b : Option WhyFault) → option_or a b ≡ None → (a ≡ None) × (b ≡ None)
or_none None b h = (refl, h)
or_none (Some x) b h = absurd (cc h)

module _ (d : Contents) where
  -- the names that two joined lists of rows give are the names of the first list with the names of the second list
  -- added
  added_after : (key : KeyNames) (done rest : List Fields) → all_added d key (done ++ rest) ≡ all_added d (all_added d key done) rest
  unfolding all_added
  added_after key [] rest = refl
  added_after key (row ∷ more) rest = added_after (added d key row) more rest

  -- if the first rows have no fault, the first fault of all rows is the first fault of the remaining rows
  fault_after : (key : KeyNames) (n : ℕ) (done rest : List Fields) → fault_from d key n done ≡ None
      → fault_from d key n (done ++ rest) ≡ fault_from d (all_added d key done) (n + length done) rest
  unfolding fault_from all_added
  fault_after key n [] rest h = let e : n ≡ n + 0 = omega arith in ap (λ k. fault_from d key k rest) e
  fault_after key n (row ∷ more) rest h =
      let both = or_none (row_fault d key (n + 1) row) (fault_from d (added d key row) (n + 1) more) h in
      let e : n + 1 + length more ≡ n + length (row ∷ more) = omega arith in
      rw both.0 (fault_after (added d key row) (n + 1) more rest both.1 ∙ ap (λ k. fault_from d (all_added d (added d key row) more) k rest) e)

  -- without rows the key's names stay as they are
  pub none_added : (key : KeyNames) → key ≡ all_added d key []
  unfolding all_added
  none_added key = refl

  pub none_bad : (key : KeyNames) → fault_from d key 0 [] ≡ None
  unfolding fault_from
  none_bad key = refl

  -- if the names of the rows read were added, and the names of one more row are added, the names are
  -- right for these rows
  pub one_added : (key now new : KeyNames) (done : List Fields) (row : Fields) → now ≡ all_added d key done → new ≡ added d now row
      → new ≡ all_added d key (done ++ row ∷ [])
  unfolding all_added
  one_added key now new done row was is = is ∙ ap (λ (k : KeyNames). added d k row) was ∙ sym (added_after key done (row ∷ []))

  -- if the rows read have no fault, the first fault of these rows and the next row is the next row's fault
  pub next_fault : (key now : KeyNames) (done : List Fields) (row : Fields) (count : ℕ) (fault : Option WhyFault) → now ≡ all_added d key done
      → length done ≡ count → fault_from d key 0 done ≡ None → row_fault d now (count + 1) row ≡ fault → fault_from d key 0 (done ++ row ∷ []) ≡ fault
  unfolding fault_from
  next_fault key now done row count fault was counted good here =
      let there : 0 + length done ≡ count = omega (arith, counted) in
      fault_after key 0 done (row ∷ []) good
      ∙ ap (λ k. fault_from d (all_added d key done) k (row ∷ [])) there
      ∙ ap (λ (o : Option WhyFault). option_or o None) (ap (λ (k : KeyNames). row_fault d k (count + 1) row) (sym was) ∙ here)
      ∙ or_nothing fault
    where
      or_nothing : (fault : Option WhyFault) → option_or fault None ≡ fault
      or_nothing None = refl
      or_nothing (Some x) = refl

-- the fields of a row before field 0 are all blank
pub blank_none : (row : Fields) → true ≡ is_blank_below row 0
unfolding is_blank_below
blank_none row = refl

pub blank_more : (row : Fields) (i : ℕ) (was now : Bool) (text : List ℕ) → was ≡ is_blank_below row i → text ≡ field row i
    → now ≡ (was && length text == 0) → now ≡ is_blank_below row (i + 1)
unfolding is_blank_below
blank_more row i was now text b t n = n ∙ rw (b, t, add-one) refl
