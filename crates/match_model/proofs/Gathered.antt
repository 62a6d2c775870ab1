-- Lists that are made one after another, until their items together are more than a limit.
use Rattle.std.proofs.Common.{◌≡◌, ◌∙◌, ℕ, ◌+◌, ◌<◌, ◌≤◌, ◌⊎◌, inl, inr, true, false, List, [], ◌∷◌, ◌++◌, length, take, Option, Some, None, refl, sym, ap, subst, arith}
use Rattle.std.specs.List.{filter, sum_by}
use Rattle.std.specs.Result.{IsErrAnd}
use Rattle.std.specs.Prelude.{Result, Ok, Err, IfErr}
use Rattle.std.proofs.lemmas.Bool.{ltb-true, lt-ltb}
use Rattle.std.proofs.lemmas.Bool.Decides.{nat_tests}
use Rattle.std.proofs.lemmas.List.{take_more}
use Rattle.std.proofs.lemmas.List.Sums.{sum_by-take-le}
use Rattle.match_model.specs.Ranking.{is_listed}
use Rattle.match_model.specs.Instance.{list_at}
use Rattle.match_model.specs.Draft.{are_over, IsGatherFault}
use Rattle.match_model.specs.declared.fault.ModelFault.{ModelFault}
use Rattle.match_model.specs.declared.fault.ModelFault.TheVariants.{Memory, TooManyPairs}
use Rattle.match_model.specs.Owners.{kept_lists}
use Rattle.match_model.specs.Rows.{RowLists}
use Rattle.match_model.proofs.Entered.{length-kept_lists, get_or-kept_lists}

-- no items are more than a limit
pub over_none : (most : Option ℕ) → are_over most 0 ≡ false
over_none None = refl
over_none (Some n) = grind (arith, nat_tests)

pub over_more : (most : Option ℕ) (n m : ℕ) → n ≤ m → are_over most n ≡ true → are_over most m ≡ true
over_more None n m l e = absurd (cc)
over_more (Some k) n m l e = let h : k < n = ltb-true k n e in lt-ltb k m (omega arith)

-- what is true after k finished lists: their rows, an empty open row, and the number of their items
pub record AreGathered (made : List (List ℕ)) (k : ℕ) (kept : RowLists ℕ) (items : ℕ) : Type 0 where
  pub ended : kept.rows ≡ take k made
  pub none_begun : kept.begun ≡ []
  pub counted : items ≡ sum_by length (take k made)

-- after one more finished list there is one more row, with as many items more as the list has
module _ (all rows : List (List ℕ)) (i : ℕ) (within : i < length all) (list row : List ℕ) (here : list ≡ list_at all i) (at : row ≡ list_at rows i) (before kept after : RowLists ℕ) where
  rows_more : before.rows ≡ take i (kept_lists all rows) → before.begun ≡ [] → kept ≡ record before { begun = before.begun ++ filter (is_listed row) list }
      → after ≡ record { rows = kept.rows ++ kept.begun ∷ []; begun = [] } → after.rows ≡ take (i + 1) (kept_lists all rows)
  rows_more ended none keeps ends =
      let made : List (List ℕ) = kept_lists all rows in
      let item : kept.begun ≡ list_at made i = ap (λ (t : RowLists ℕ). t.begun) keeps
      ∙ ap (λ (xs : List ℕ). xs ++ filter (is_listed row) list) none
      ∙ ap (λ (xs : List ℕ). filter (is_listed row) xs) here
      ∙ ap (λ (r : List ℕ). filter (λ x. is_listed r x) (list_at all i)) at
      ∙ sym (get_or-kept_lists all rows i within) in
      ap (λ (t : RowLists ℕ). t.rows) ends
      ∙ ap (λ (t : RowLists ℕ). t.rows ++ kept.begun ∷ []) keeps
      ∙ ap (λ (ls : List (List ℕ)). ls ++ kept.begun ∷ []) ended
      ∙ ap (λ (l : List ℕ). take i made ++ l ∷ []) item
      ∙ sym (take_more made i [] (omega (arith, length-kept_lists all rows)))

  pub kept_more : before.rows ≡ take i (kept_lists all rows) → before.begun ≡ [] → kept ≡ record before { begun = before.begun ++ filter (is_listed row) list }
      → after ≡ record { rows = kept.rows ++ kept.begun ∷ []; begun = [] } → (n : ℕ) → n ≡ sum_by length after.rows + length after.begun → AreGathered (kept_lists all rows) (i + 1) after n
  kept_more ended none keeps ends n counted =
      let more = rows_more ended none keeps ends in
      let begun = ap (λ (t : RowLists ℕ). t.begun) ends in
      let items = ap (sum_by (length {A = ℕ})) more in
      let nothing = ap (length {A = ℕ}) begun in
      record { ended = more; none_begun = begun; counted = omega arith }

-- the first k lists have at most as many items as all lists, so they exceed a limit only if all lists
-- together exceed it
pub over_in_all : (most : Option ℕ) (made : List (List ℕ)) (n k : ℕ) → n ≡ sum_by length (take k made) → are_over most n ≡ true → are_over most (sum_by length made) ≡ true
over_in_all most made n k counted e = over_more most n (sum_by length made) (let l = sum_by-take-le (length {A = ℕ}) made k in omega arith) e

-- if P is true of an error, P is true of the error in a result that is this error
pub same_err : {T E : Type 0} (r : Result T E) (e : E) (P : E → Type 0) → IsErrAnd r (λ x. x ≡ e) → P e → IfErr r P
same_err (Ok v) e P h p = tt
same_err (Err x) e P h p = subst P (sym h) p

-- a fault with a limit is either out of memory, or there are more items than the limit
pub fault_of_most : (most n : ℕ) (e : ModelFault) → IsGatherFault (Some most) n e → (e ≡ Memory) ⊎ ((e ≡ TooManyPairs) × (most < n))
fault_of_most most n e (inl m) = inl m
fault_of_most most n e (inr t) = inr (t.0, ltb-true most n t.1)

-- a fault without a limit is out of memory
pub memory_alone : (n : ℕ) (e : ModelFault) → IsGatherFault None n e → e ≡ Memory
memory_alone n e (inl m) = m
memory_alone n e (inr t) = absurd (false≢true t.1)
  where
    false≢true : false ≡ true → ⊥
    false≢true h = cc
