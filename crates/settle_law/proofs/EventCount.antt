-- A legal list of events has at most six events for each acceptable pair, and one close.
use Rattle.std.proofs.Common.{◌≡◌, ℕ, zero, suc, ◌+◌, ◌*◌, ◌≤◌, List, [], ◌∷◌, length, arith, sum_by}
use Rattle.std.proofs.lemmas.List.Sums.{sum_by-cons}
use Rattle.match_model.specs.Instance.{Instance, pair_count, list_at, list_of_programme, list_of_resident}
use Rattle.exchange_core.specs.declared.event.Event.{Event}
use Rattle.exchange_core.specs.declared.event.Capacity.{Capacity}
use Rattle.exchange_core.specs.Mail.{offers_of, offers_to, takes, answers_of, answers_to, hears}
use Rattle.exchange_core.specs.Calls.{calls}
use Rattle.exchange_core.specs.Legal.{IsLegal}
use Rattle.match_model.proofs.Counts.{sum_below, sum_below-le, sum_below-add, sum_below_zero}
use Rattle.match_model.proofs.Prefixes.{prefix_length}
use Rattle.exchange_core.proofs.Calls.{length-calls-le}
use Rattle.exchange_core.proofs.InOrder.{offers_in_order, takes_in_order, answers_in_order, hears_in_order}
use Rattle.exchange_core.proofs.Totals.{over_programmes, over_residents, offers_of_total, offers_to_total, takes_total, answers_of_total, answers_to_total, hears_total, length_by_kind, closes_within_one}

sum_below_first : (f : ℕ → ℕ) (n : ℕ) → sum_below f (suc n) ≡ f 0 + sum_below (λ k. f (suc k)) n
sum_below_first f zero = omega arith
sum_below_first f (suc n) = omega (arith, sum_below_first f n)

-- the lists of some members together have at most as many items as all members' lists together
lists_within : (lists : List (List ℕ)) (n : ℕ) → sum_below (λ i. length (list_at lists i)) n ≤ sum_by (λ (xs : List ℕ). length xs) lists
lists_within [] n = omega (arith, sum_below_zero n)
lists_within (xs ∷ rest) zero = omega arith
lists_within (xs ∷ rest) (suc n) = omega (arith, sum_below_first (λ i. length (list_at (xs ∷ rest) i)) n, lists_within rest n, sum_by-cons (λ (ys : List ℕ). length ys) xs rest)

module _ (inst : Instance) (cap : Capacity) (j : List Event) (legal : IsLegal inst cap j) where
  offers_within : over_programmes inst (λ p. length (offers_of p j)) ≤ pair_count inst
  offers_within = omega (arith, sum_below-le offered ranked (length inst.quotas) (λ p l. each p), lists_within inst.programme_lists (length inst.quotas))
    where
      offered : ℕ → ℕ
      offered p = length (offers_of p j)

      ranked : ℕ → ℕ
      ranked p = length (list_of_programme inst p)

      each : (p : ℕ) → length (offers_of p j) ≤ length (list_of_programme inst p)
      each p = prefix_length (offers_of p j) (list_of_programme inst p) (offers_in_order inst cap j legal p)

  takes_within : over_residents inst (λ r. length (takes r j)) ≤ over_residents inst (λ r. length (offers_to r j))
  takes_within = sum_below-le _ _ (length inst.resident_lists) (λ r l. prefix_length (takes r j) (offers_to r j) (takes_in_order inst cap j legal r))

  answers_within : over_residents inst (λ r. length (answers_of r j)) ≤ 2 * over_residents inst (λ r. length (takes r j))
  answers_within = omega (arith, sum_below-le answered (λ r. taken r + taken r) (length inst.resident_lists) (λ r l. each r), sum_below-add taken taken (length inst.resident_lists))
    where
      answered : ℕ → ℕ
      answered r = length (answers_of r j)

      taken : ℕ → ℕ
      taken r = length (takes r j)

      each : (r : ℕ) → length (answers_of r j) ≤ length (takes r j) + length (takes r j)
      each r =
          let called = calls (list_of_resident inst r) (takes r j) in
          let a = prefix_length (answers_of r j) called (answers_in_order inst cap j legal r) in
          omega (arith, a, length-calls-le (list_of_resident inst r) (takes r j))

  hears_within : over_programmes inst (λ p. length (hears p j)) ≤ over_programmes inst (λ p. length (answers_to p j))
  hears_within = sum_below-le _ _ (length inst.quotas) (λ p l. prefix_length (hears p j) (answers_to p j) (hears_in_order inst cap j legal p))

  -- with E acceptable pairs there are at most E offers, E takes, 2E answers, 2E hears and one close
  pub bound : length j ≤ 6 * pair_count inst + 1
  bound =
      let offers = offers_of_total inst cap j legal in
      let offers_again = offers_to_total inst cap j legal in
      let taken = takes_total inst cap j legal in
      let answers = answers_of_total inst cap j legal in
      let answers_again = answers_to_total inst cap j legal in
      let heard = hears_total inst cap j legal in
      let closes = closes_within_one inst cap j legal in
      omega (arith, length_by_kind j, offers, offers_again, taken, answers, answers_again, heard, closes, offers_within, takes_within, answers_within, hears_within)
