-- A search that finds nothing, and an offer's resident, who ranks the programme.
use Rattle.std.proofs.Common.{◌≡◌, ℕ, ◌<◌, ◌≤◌, Bool, false, List, get_or, Some, None, sym, ap, ◌∙◌, arith, ⊎_elim}
use Rattle.std.specs.Prelude.{Err, slice_get, if◌then◌else◌}
use Rattle.std.specs.List.Sorted.{IsBinarySearchResult, IsNonDecreasing, IsNonDecreasingBy}
use Rattle.std.specs.Ordering.{nat_cmp, ordering_index}
use Rattle.std.proofs.lemmas.Bool.{cases_lt}
use Rattle.std.proofs.lemmas.Option.{none-some, same_Some, slice_get_within, slice_get-get_or}
use Rattle.std.proofs.lemmas.Cmp.{ranked as ranked_number}
use Rattle.std.proofs.lemmas.List.Sorted.{IsNonDecreasingBy-from_default}
use Rattle.std.proofs.lemmas.Bool.Decides.{nat_tests}
use Rattle.match_model.specs.Ranking.{is_listed, IsListed, place}
use Rattle.match_model.specs.Instance.{Instance, IsInstance, rank, list_of_programme, list_of_resident}
use Rattle.match_model.proofs.Rankings.{is_listed_nowhere, is_listed_at, is_listed-true, is_listed_from}

-- if a binary search in a sorted row does not find a number, the number does not stand in the row
pub missed : (row : List ℕ) (x at : ℕ) → IsBinarySearchResult (λ y. nat_cmp y x) row (Err at) → IsNonDecreasing row → is_listed row x ≡ false
missed row x at parted up = is_listed_nowhere row x (λ k l e. ⊎_elim
    (λ (b : k < at). let less : get_or row k 0 < x = ranked_number (get_or row k 0) x _ (sym ((parted rises).0 k 0 (omega arith) b)) in absurd (omega arith))
    (λ (b : at ≤ k). let more : x < get_or row k 0 = ranked_number (get_or row k 0) x _ (sym ((parted rises).1 k 0 b l)) in absurd (omega arith))
    (cases_lt k at))
  where
    rises : IsNonDecreasingBy (λ y. ordering_index (nat_cmp y x)) row
    rises = IsNonDecreasingBy-from_default (λ y. ordering_index (nat_cmp y x)) row 0 (λ i j l h.
        let keys_rise = up i j 0 l h in
        grind (arith, nat_tests))

module _ (inst : Instance) (is : IsInstance inst) (p r k : ℕ) (at : slice_get (list_of_programme inst p) k ≡ Some r) where
  -- a resident on a programme's list ranks the programme
  pub listed_back : IsListed (list_of_resident inst r) p
  listed_back =
      let within = slice_get_within (list_of_programme inst p) k r at in
      let here = same_Some _ _ (sym (slice_get-get_or (list_of_programme inst p) k 0 within) ∙ at) in
      (is.both_rank p r).0 (is_listed-true _ r (is_listed_at (list_of_programme inst p) r k within here))

  pub rank_there : None ≡ rank (list_of_resident inst r) p → ⊥
  rank_there none = none-some (place (list_of_resident inst r) p) (none ∙ ap (λ (b : Bool). if b then Some (place (list_of_resident inst r) p) else None) (is_listed_from _ p listed_back))
