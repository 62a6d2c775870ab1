-- Why every stable assignment matches the same residents as a closed exchange, and gives no resident a programme that
-- is ranked below the programme held.
use Rattle.std.proofs.Common.{◌≡◌, ℕ, ◌≤◌, ◌↔◌, Bool, true, false, List, length, arith, refl, sym, ap, ◌∙◌, inl, inr, subst}
use Rattle.std.specs.Prelude.{Option, Some, None, is_some, IsSome}
use Rattle.std.specs.List.{count_by, sum_by, range_with_len}
use Rattle.std.proofs.lemmas.List.Sums.{count_by-le-length}
use Rattle.std.proofs.lemmas.Bool.{cases_lt, cases_eq, false_from_ne_true}
use Rattle.std.proofs.lemmas.Option.{same_Some}
use Rattle.match_model.specs.Ranking.{place, IsListed, is_listed, IsBefore}
use Rattle.match_model.specs.Instance.{Instance, IsInstance, IsProgramme, IsResident, quota, list_of_resident}
use Rattle.match_model.specs.Placement.{programme_of, IsMemberOf, member_count, IsAssignment}
use Rattle.match_model.proofs.Instances.{acceptable_programme}
use Rattle.match_model.proofs.Listed.{same_from_place}
use Rattle.settle_law.specs.Stable.{Prefers, IsStable, IsAchievable, ComesFirst, IsWorst, IsSettled}
use Rattle.settle_law.proofs.Places.{range_has}
use Rattle.settle_law.proofs.Counting.{one_if, one_if_le, sum_by-le_listed, different_among, count_by-le_listed, same_terms}
use Rattle.settle_law.proofs.Placements.{members_of, length-members_of, members_differ, member_from_listed, member_listed, members_add_up, count_by-numbers}
use Rattle.settle_law.proofs.NeverRejects.{has_turned_down, full_of_better}
use Rattle.settle_law.proofs.AtClose.{Closing, all_listed, given_is_stable, given_is_assignment, member_is_best, best_is_member, offered_is_member, full_or_offered_all}

-- a programme in an assignment belongs to the instance
pub given_is_programme : (inst : Instance) → IsInstance inst → (m : List (Option ℕ)) → IsAssignment inst m → (r p : ℕ) →
    IsMemberOf m r p → IsProgramme inst p
given_is_programme inst good m a r p e = acceptable_programme inst good r p (a.pairs_acceptable r p e)

same_tests : (b c : Bool) → one_if b ≡ one_if c → b ≡ c
same_tests true true e = refl
same_tests true false e = absurd (omega arith)
same_tests false true e = absurd (omega arith)
same_tests false false e = refl

some_or_none : (o : Option ℕ) → is_some o ≡ true → (o ≡ None → ⊥)
some_or_none None e = absurd (cc)
some_or_none (Some p) e = λ n. absurd (cc)

is_some_from_not_none : (o : Option ℕ) → (o ≡ None → ⊥) → is_some o ≡ true
is_some_from_not_none None n = absurd (n refl)
is_some_from_not_none (Some p) n = refl

module _ (inst : Instance) (good : IsInstance inst) (offers taken : ℕ → List ℕ) (m : List (Option ℕ)) (c : Closing inst offers taken m) where
  -- a resident never prefers the programme of the closed exchange to the programme of another stable assignment
  pub none_is_better_off : (n : List (Option ℕ)) → IsStable inst n → (r p : ℕ) → IsMemberOf m r p → ¬ IsMemberOf n r p →
      ¬ Prefers (list_of_resident inst r) p (programme_of n r)
  none_is_better_off n st r p e ne would =
      let f = full_of_better inst n r p st ((given_is_assignment inst good offers taken m c).pairs_acceptable r p e) ne would in
      let full = f.full in
      let kept = st.is_assignment.quotas_kept p in
      let size : length (members_of n p) ≡ quota inst p = omega (arith, length-members_of n p) in
      (member_is_best inst good offers taken m c p r e).no_quota_first (members_of n p) (members_differ n p) size
      (all_listed (ComesFirst inst p r) (members_of n p) (λ s l.
      let is_member = member_from_listed n p s l in
      record { before = f.better s is_member; achievable = record { matching = n; is_stable = st; has_both = is_member } }))

  -- a resident matched in the closed exchange is matched in every stable assignment
  pub matched_everywhere : (n : List (Option ℕ)) → IsStable inst n → (r : ℕ) → is_some (programme_of m r) ≡ true →
      is_some (programme_of n r) ≡ true
  matched_everywhere n st r s = go (programme_of m r) refl s
    where
      go : (o : Option ℕ) → programme_of m r ≡ o → is_some o ≡ true → is_some (programme_of n r) ≡ true
      go None e t = absurd (cc)
      go (Some p) e t = is_some_from_not_none (programme_of n r)
          (λ none. none_is_better_off n st r p e (λ same. absurd (cc)) (subst (Prefers (list_of_resident inst r) p) (sym none) tt))

  -- no programme has more members in a stable assignment than in the closed exchange
  pub no_more_members : (n : List (Option ℕ)) → IsStable inst n → (p : ℕ) → member_count n p ≤ member_count m p
  no_more_members n st p = elim (full_or_offered_all inst good offers taken m c p) [
    | inl full ↦ omega (arith, st.is_assignment.quotas_kept p)
    | inr all ↦
        let among = different_among (members_of n p) (members_of m p) (members_differ n p) (λ s l.
        let is_member = member_from_listed n p s l in
        let offered = subst (λ xs. IsListed xs s) (sym all) (st.is_assignment.pairs_acceptable s p is_member) in
        let ach : IsAchievable inst s p = record { matching = n; is_stable = st; has_both = is_member } in
        member_listed m p s (offered_is_member inst good offers taken m c p s offered
        (false_from_ne_true (has_turned_down inst taken p s) (λ t. c.spares_all.spares s p t ach)))) in
        let most = count_by-le-length (is_listed (members_of n p)) (members_of m p) in
        omega (arith, length-members_of n p, length-members_of m p)
  ]

  module _ (n : List (Option ℕ)) (st : IsStable inst n) where
    all_members : sum_by (member_count n) (range_with_len 0 (length inst.quotas)) ≡ count_by is_some n
    all_members = members_add_up (length inst.quotas) n (λ r p e. given_is_programme inst good n st.is_assignment r p e)

    all_held : sum_by (member_count m) (range_with_len 0 (length inst.quotas)) ≡ count_by is_some m
    all_held = members_add_up (length inst.quotas) m (λ r p e. given_is_programme inst good m (given_is_assignment inst good offers taken m c) r p e)

    numbers_of : (k : List (Option ℕ)) → length k ≡ length inst.resident_lists →
        count_by is_some k ≡ count_by (λ r. is_some (programme_of k r)) (range_with_len 0 (length inst.resident_lists))
    numbers_of k e = count_by-numbers is_some k ∙ ap (λ l. count_by (λ r. is_some (programme_of k r)) (range_with_len 0 l)) e

    no_fewer_matched : count_by is_some m ≤ count_by is_some n
    no_fewer_matched =
        let a = numbers_of m c.one_place_each in
        let b = numbers_of n st.is_assignment.one_place_each in
        let le = count_by-le_listed (λ r. is_some (programme_of m r)) (λ r. is_some (programme_of n r)) (range_with_len 0 (length inst.resident_lists)) (λ r l s. matched_everywhere n st r s) in
        omega arith

    pub same_numbers : (p : ℕ) → IsProgramme inst p → member_count n p ≡ member_count m p
    same_numbers p i =
        same_terms (member_count n) (member_count m) (range_with_len 0 (length inst.quotas)) (λ q l. no_more_members n st q)
        (omega (arith, all_members, all_held, no_fewer_matched)) p (range_has 0 (length inst.quotas) p (omega arith) (omega arith))

    no_more_matched : count_by is_some n ≤ count_by is_some m
    no_more_matched =
        let le = sum_by-le_listed (member_count n) (member_count m) (range_with_len 0 (length inst.quotas)) (λ q l. no_more_members n st q) in
        omega (arith, all_members, all_held)

    same_matched_here : (r : ℕ) → IsResident inst r → is_some (programme_of m r) ≡ is_some (programme_of n r)
    same_matched_here r i =
        let a = numbers_of m c.one_place_each in
        let b = numbers_of n st.is_assignment.one_place_each in
        let le = no_more_matched in
        same_tests (is_some (programme_of m r)) (is_some (programme_of n r))
        (same_terms (λ s. one_if (is_some (programme_of m s))) (λ s. one_if (is_some (programme_of n s))) (range_with_len 0 (length inst.resident_lists))
        (λ s l. one_if_le (is_some (programme_of m s)) (is_some (programme_of n s)) (matched_everywhere n st s))
        (omega arith) r (range_has 0 (length inst.resident_lists) r (omega arith) (omega arith)))

    pub same_matched : (r : ℕ) → IsResident inst r → IsSome (programme_of n r) ↔ IsSome (programme_of m r)
    same_matched r i = (λ s. same_matched_here r i ∙ s, matched_everywhere n st r)

  -- each resident gets the last-ranked of the resident's achievable programmes
  pub has_worst : (r : ℕ) → IsResident inst r → IsWorst inst r (programme_of m r)
  has_worst r i = go (programme_of m r) refl
    where
      go : (o : Option ℕ) → programme_of m r ≡ o → IsWorst inst r o
      go None e = λ p ach.
          let matched : is_some (programme_of m r) ≡ true = (same_matched ach.matching ach.is_stable r i).0 (ap is_some ach.has_both) in
          some_or_none (programme_of m r) matched e
      go (Some p) e = (
        record { matching = m; is_stable = given_is_stable inst good offers taken m c; has_both = e },
        λ q ach. elim (cases_eq q p) [
          | inl same ↦ inl same
          | inr other ↦ elim (cases_lt (place (list_of_resident inst r) q) (place (list_of_resident inst r) p)) [
            | inl b ↦ inr b
            | inr b ↦
                let ac : IsListed (list_of_resident inst r) p = (good.both_rank p r).0 ((given_is_assignment inst good offers taken m c).pairs_acceptable r p e) in
                let first : IsBefore (list_of_resident inst r) p q = elim (cases_lt (place (list_of_resident inst r) p) (place (list_of_resident inst r) q)) [
                  | inl d ↦ d
                  | inr d ↦ absurd (other (sym (same_from_place (list_of_resident inst r) p q ac (omega arith))))
                ] in
                absurd (none_is_better_off ach.matching ach.is_stable r p e (λ same. other (same_Some q p (sym ach.has_both ∙ same)))
                (subst (Prefers (list_of_resident inst r) p) (sym ach.has_both) first))
          ]
        ],
      )

  pub given_is_settled : IsSettled inst m
  given_is_settled = record {
    one_place_each = c.one_place_each;
    members_are_best = λ p r. (member_is_best inst good offers taken m c p r, best_is_member inst good offers taken m c p r);
    residents_have_worst = has_worst;
  }
