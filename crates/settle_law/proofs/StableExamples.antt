-- Small instances that show what the definitions of stable and settled mean.
use Rattle.std.proofs.Common.{◌≡◌, ℕ, zero, suc, ◌<◌, ◌≤◌, ◌⊎◌, false, List, [], ◌∷◌, length, get_or, arith, refl, sym, ap, ◌∙◌, inl, inr, subst}
use Rattle.std.specs.Prelude.{Option, Some, None}
use Rattle.std.specs.List.{All}
use Rattle.std.proofs.lemmas.List.Sums.{count_by-le-length}
use Rattle.std.proofs.lemmas.Option.{same_Some}
use Rattle.match_model.specs.Ranking.{IsBefore, IsListed, is_listed, HasNoRepeats}
use Rattle.match_model.specs.Instance.{Instance, Acceptable, quota, list_of_programme}
use Rattle.match_model.specs.Placement.{programme_of, IsMemberOf, member_count}
use Rattle.settle_law.specs.Stable.{Prefers, HasRoomFor, IsStable, IsAchievable, ComesFirst, IsBest, IsWorst, IsSettled}
use Rattle.settle_law.proofs.Places.{HasNoRepeats-cons, HasNoRepeats-nil, IsListed-nil, IsListed-cons_cases}
use Rattle.settle_law.proofs.Counting.{different_among}
use Rattle.settle_law.proofs.Placements.{members_of, length-members_of, members_differ, member_from_listed, member_listed}
use Rattle.settle_law.proofs.AtClose.{all_listed, at_listed}
use Rattle.settle_law.proofs.OneSettled.{one_settled}

-- if all members of a programme are on a list, there are at most as many members as items on the list
members_within : (m : List (Option ℕ)) (p : ℕ) (xs : List ℕ) → ((r : ℕ) → IsMemberOf m r p → IsListed xs r) →
    member_count m p ≤ length xs
members_within m p xs h =
    let among = different_among (members_of m p) xs (members_differ m p) (λ r l. h r (member_from_listed m p r l)) in
    omega (arith, length-members_of m p, count_by-le-length (is_listed (members_of m p)) xs)

members_at_least : (m : List (Option ℕ)) (p : ℕ) (xs : List ℕ) → HasNoRepeats xs →
    ((r : ℕ) → IsListed xs r → IsMemberOf m r p) → length xs ≤ member_count m p
members_at_least m p xs n h =
    let among = different_among xs (members_of m p) n (λ r l. member_listed m p r (h r l)) in
    omega (arith, length-members_of m p, count_by-le-length (is_listed xs) (members_of m p))

is_the_one : (a x : ℕ) → IsListed (a ∷ []) x → a ≡ x
is_the_one a x l = elim (IsListed-cons_cases a [] x l) [ inl c ↦ c | inr c ↦ absurd (IsListed-nil x c) ]

is_one_of_two : (a b x : ℕ) → IsListed (a ∷ b ∷ []) x → (a ≡ x) ⊎ (b ≡ x)
is_one_of_two a b x l = elim (IsListed-cons_cases a (b ∷ []) x l) [ inl c ↦ inl c | inr c ↦ inr (is_the_one b x c) ]

-- if no resident stands before r on programme p's list, a list of residents who come first has no item
nobody_first : (inst : Instance) (p r : ℕ) (first : List ℕ) → ((s : ℕ) → IsBefore (list_of_programme inst p) s r → ⊥) →
    0 < length first → ¬ All (ComesFirst inst p r) first
nobody_first inst p r first n l all = n (get_or first 0 0) (all 0 0 l).before

-- the residents who come first are at most as many as the items of a list that has all of them
few_first : (inst : Instance) (p r : ℕ) (first ys : List ℕ) → HasNoRepeats first → All (ComesFirst inst p r) first →
    ((s : ℕ) → ComesFirst inst p r s → IsListed ys s) → length first ≤ length ys
few_first inst p r first ys n all h =
    let among = different_among first ys n (λ s l. h s (at_listed (ComesFirst inst p r) first s all l)) in
    omega (arith, count_by-le-length (is_listed first) ys)

achievable_pair : (inst : Instance) (r p : ℕ) → IsAchievable inst r p → Acceptable inst r p
achievable_pair inst r p a = a.is_stable.is_assignment.pairs_acceptable r p a.has_both

-- two programmes with one place each, and two residents; the residents rank the programmes in the opposite order to the
-- programmes' own rankings
abbrev two_each : Instance
two_each = record {
  quotas = 1 ∷ 1 ∷ [];
  programme_lists = (0 ∷ 1 ∷ []) ∷ (1 ∷ 0 ∷ []) ∷ [];
  resident_lists = (1 ∷ 0 ∷ []) ∷ (0 ∷ 1 ∷ []) ∷ [];
  programmes_withdrawn = false ∷ false ∷ [];
  residents_withdrawn = false ∷ false ∷ [];
}

-- the matching that is best for both programmes, and the matching that is best for both residents
abbrev best_for_programmes : List (Option ℕ)
best_for_programmes = Some 0 ∷ Some 1 ∷ []

abbrev best_for_residents : List (Option ℕ)
best_for_residents = Some 1 ∷ Some 0 ∷ []

-- all four pairs of this instance are acceptable
two_each_pairs : (P : ℕ → ℕ → Type 0) → P 0 0 → P 0 1 → P 1 0 → P 1 1 → (r p : ℕ) → Acceptable two_each r p → P r p
two_each_pairs P a b c d r zero l = elim (is_one_of_two 0 1 r l) [ inl e ↦ subst (λ z. P z 0) e a | inr e ↦ subst (λ z. P z 0) e c ]
two_each_pairs P a b c d r (suc zero) l = elim (is_one_of_two 1 0 r l) [ inl e ↦ subst (λ z. P z 1) e d | inr e ↦ subst (λ z. P z 1) e b ]
two_each_pairs P a b c d r (suc (suc p)) l = absurd (IsListed-nil r l)

first_members : (P : ℕ → ℕ → Type 0) → P 0 0 → P 1 1 → (r p : ℕ) → IsMemberOf best_for_programmes r p → P r p
first_members P a d zero p e = subst (P 0) (same_Some 0 p e) a
first_members P a d (suc zero) p e = subst (P 1) (same_Some 1 p e) d
first_members P a d (suc (suc r)) p e = absurd (cc)

second_members : (P : ℕ → ℕ → Type 0) → P 0 1 → P 1 0 → (r p : ℕ) → IsMemberOf best_for_residents r p → P r p
second_members P b c zero p e = subst (P 0) (same_Some 1 p e) b
second_members P b c (suc zero) p e = subst (P 1) (same_Some 0 p e) c
second_members P b c (suc (suc r)) p e = absurd (cc)

first_kept : (p : ℕ) → member_count best_for_programmes p ≤ quota two_each p
first_kept zero = omega arith
first_kept (suc zero) = omega arith
first_kept (suc (suc p)) = members_within best_for_programmes (suc (suc p)) [] (λ r e.
    let low : suc (suc p) < 2 = first_members (λ s q. q < 2) (omega arith) (omega arith) r (suc (suc p)) e in absurd (omega arith))

second_kept : (p : ℕ) → member_count best_for_residents p ≤ quota two_each p
second_kept zero = omega arith
second_kept (suc zero) = omega arith
second_kept (suc (suc p)) = members_within best_for_residents (suc (suc p)) [] (λ r e.
    let low : suc (suc p) < 2 = second_members (λ s q. q < 2) (omega arith) (omega arith) r (suc (suc p)) e in absurd (omega arith))

-- each programme has the first resident of its list, so it prefers no other resident
first_has_no_room : (r p : ℕ) → (p < 2) → (IsMemberOf best_for_programmes r p → ⊥) →
    HasRoomFor two_each best_for_programmes p r → ⊥
first_has_no_room r zero l n (inl free) = omega arith
first_has_no_room r zero l n (inr w) = first_members (λ s q. q ≡ 0 → IsBefore (list_of_programme two_each q) r s → ⊥) (λ e b. omega arith) (λ e b. omega arith) w.0 0 w.1 refl w.2
first_has_no_room r (suc zero) l n (inl free) = omega arith
first_has_no_room r (suc zero) l n (inr w) = first_members (λ s q. q ≡ 1 → IsBefore (list_of_programme two_each q) r s → ⊥) (λ e b. omega arith) (λ e b. omega arith) w.0 1 w.1 refl w.2
first_has_no_room r (suc (suc p)) l n room = omega arith

-- each resident has the first programme of the resident's list, so the resident prefers no other programme
second_would_not : (r p : ℕ) → Acceptable two_each r p → (IsMemberOf best_for_residents r p → ⊥) →
    Prefers (get_or two_each.resident_lists r []) p (programme_of best_for_residents r) → ⊥
second_would_not = two_each_pairs (λ r p. (IsMemberOf best_for_residents r p → ⊥) → Prefers (get_or two_each.resident_lists r []) p (programme_of best_for_residents r) → ⊥)
    (λ n b. omega arith) (λ n b. omega arith) (λ n b. omega arith) (λ n b. omega arith)

pub first_is_stable : IsStable two_each best_for_programmes
first_is_stable = record {
  is_assignment = record {
    one_place_each = refl;
    pairs_acceptable = first_members (λ r p. Acceptable two_each r p) (omega arith) (omega arith);
    quotas_kept = first_kept;
  };
  nothing_blocks = λ r p b. first_has_no_room r p (two_each_pairs (λ s q. q < 2) (omega arith) (omega arith) (omega arith) (omega arith) r p b.acceptable) b.not_placed b.programme_would;
}

pub second_is_stable : IsStable two_each best_for_residents
second_is_stable = record {
  is_assignment = record {
    one_place_each = refl;
    pairs_acceptable = second_members (λ r p. Acceptable two_each r p) (omega arith) (omega arith);
    quotas_kept = second_kept;
  };
  nothing_blocks = λ r p b. second_would_not r p b.acceptable b.not_placed b.resident_would;
}

-- if nobody is placed, each acceptable pair blocks, since each programme has a free place
pub nobody_placed_is_not_stable : ¬ IsStable two_each (None ∷ None ∷ [])
nobody_placed_is_not_stable s = s.nothing_blocks 0 0 (record { acceptable = omega arith; not_placed = λ e. absurd (cc); resident_would = tt; programme_would = inl (omega arith) })

-- all four pairs of this instance are achievable
both_achievable : (r p : ℕ) → Acceptable two_each r p → IsAchievable two_each r p
both_achievable = two_each_pairs (IsAchievable two_each)
    (record { matching = best_for_programmes; is_stable = first_is_stable; has_both = refl })
    (record { matching = best_for_residents; is_stable = second_is_stable; has_both = refl })
    (record { matching = best_for_residents; is_stable = second_is_stable; has_both = refl })
    (record { matching = best_for_programmes; is_stable = first_is_stable; has_both = refl })

-- if an achievable resident comes before r on the list of a programme with one place, r is not the programme's best
other_first : (p r s : ℕ) → quota two_each p ≡ 1 → Acceptable two_each s p →
    IsBefore (list_of_programme two_each p) s r → IsBest two_each p r → ⊥
other_first p r s q l b best = best.no_quota_first (s ∷ []) (HasNoRepeats-cons s [] (IsListed-nil s) HasNoRepeats-nil) (sym q)
    (all_listed (ComesFirst two_each p r) (s ∷ []) (λ x m. subst (ComesFirst two_each p r) (is_the_one s x m) (record { before = b; achievable = both_achievable s p l })))

-- of the two stable matchings only the one that is best for both programmes is settled
pub first_is_settled : IsSettled two_each best_for_programmes
first_is_settled = record { one_place_each = refl; members_are_best = λ p r. (best r p, back p r); residents_have_worst = worst }
  where
    best : (r p : ℕ) → IsMemberOf best_for_programmes r p → IsBest two_each p r
    best = first_members (λ r p. IsBest two_each p r)
        (record { achievable = both_achievable 0 0 (omega arith); no_quota_first = λ xs n e. nobody_first two_each 0 0 xs (λ s b. omega arith) (omega arith) })
        (record { achievable = both_achievable 1 1 (omega arith); no_quota_first = λ xs n e. nobody_first two_each 1 1 xs (λ s b. omega arith) (omega arith) })

    back : (p r : ℕ) → IsBest two_each p r → IsMemberOf best_for_programmes r p
    back p r b = two_each_pairs (λ s q. IsBest two_each q s → IsMemberOf best_for_programmes s q)
        (λ h. refl) (λ h. absurd (other_first 1 0 1 refl (omega arith) (omega arith) h)) (λ h. absurd (other_first 0 1 0 refl (omega arith) (omega arith) h)) (λ h. refl)
        r p (b.achievable.is_stable.is_assignment.pairs_acceptable r p b.achievable.has_both) b

    worst : (r : ℕ) → r < 2 → IsWorst two_each r (programme_of best_for_programmes r)
    worst zero l = (
      both_achievable 0 0 (omega arith),
      λ q a. two_each_pairs (λ r s. r ≡ 0 → (s ≡ 0) ⊎ IsBefore (1 ∷ 0 ∷ []) s 0)
          (λ e. inl refl) (λ e. inr (omega arith)) (λ e. inl refl) (λ e. inr (omega arith)) 0 q (a.is_stable.is_assignment.pairs_acceptable 0 q a.has_both) refl,
    )
    worst (suc zero) l = (
      both_achievable 1 1 (omega arith),
      λ q a. two_each_pairs (λ r s. r ≡ 1 → (s ≡ 1) ⊎ IsBefore (0 ∷ 1 ∷ []) s 1)
          (λ e. inr (omega arith)) (λ e. inl refl) (λ e. inr (omega arith)) (λ e. inl refl) 1 q (a.is_stable.is_assignment.pairs_acceptable 1 q a.has_both) refl,
    )
    worst (suc (suc r)) l = absurd (omega arith)

pub only_first_is_settled : (m : List (Option ℕ)) → IsSettled two_each m → m ≡ best_for_programmes
only_first_is_settled m s = one_settled two_each m best_for_programmes s first_is_settled

pub second_is_not_settled : ¬ IsSettled two_each best_for_residents
second_is_not_settled s = other_first 1 0 1 refl (omega arith) (omega arith) ((s.members_are_best 1 0).0 refl)

-- a first programme with two places and a second with one place; only the first resident lists the second programme
abbrev two_and_one : Instance
two_and_one = record {
  quotas = 2 ∷ 1 ∷ [];
  programme_lists = (0 ∷ 1 ∷ 2 ∷ []) ∷ (0 ∷ []) ∷ [];
  resident_lists = (1 ∷ 0 ∷ []) ∷ (0 ∷ []) ∷ (0 ∷ []) ∷ [];
  programmes_withdrawn = false ∷ false ∷ [];
  residents_withdrawn = false ∷ false ∷ false ∷ [];
}

abbrev one_and_two : List (Option ℕ)
one_and_two = Some 1 ∷ Some 0 ∷ Some 0 ∷ []

two_and_one_pairs : (P : ℕ → ℕ → Type 0) → P 0 0 → P 1 0 → P 2 0 → P 0 1 → (r p : ℕ) → Acceptable two_and_one r p →
    P r p
two_and_one_pairs P a b c d r zero l = elim (IsListed-cons_cases 0 (1 ∷ 2 ∷ []) r l) [
  | inl e ↦ subst (λ z. P z 0) e a
  | inr m ↦ elim (is_one_of_two 1 2 r m) [ inl e ↦ subst (λ z. P z 0) e b | inr e ↦ subst (λ z. P z 0) e c ]
]
two_and_one_pairs P a b c d r (suc zero) l = subst (λ z. P z 1) (is_the_one 0 r l) d
two_and_one_pairs P a b c d r (suc (suc p)) l = absurd (IsListed-nil r l)

one_and_two_members : (P : ℕ → ℕ → Type 0) → P 0 1 → P 1 0 → P 2 0 → (r p : ℕ) → IsMemberOf one_and_two r p → P r p
one_and_two_members P a b c zero p e = subst (P 0) (same_Some 1 p e) a
one_and_two_members P a b c (suc zero) p e = subst (P 1) (same_Some 0 p e) b
one_and_two_members P a b c (suc (suc zero)) p e = subst (P 2) (same_Some 0 p e) c
one_and_two_members P a b c (suc (suc (suc r))) p e = absurd (cc)

one_and_two_kept : (p : ℕ) → member_count one_and_two p ≤ quota two_and_one p
one_and_two_kept zero = omega arith
one_and_two_kept (suc zero) = omega arith
one_and_two_kept (suc (suc p)) = members_within one_and_two (suc (suc p)) [] (λ r e.
    let low : suc (suc p) < 2 = one_and_two_members (λ s q. q < 2) (omega arith) (omega arith) (omega arith) r (suc (suc p)) e in absurd (omega arith))

pub one_and_two_is_stable : IsStable two_and_one one_and_two
one_and_two_is_stable = record {
  is_assignment = record {
    one_place_each = refl;
    pairs_acceptable = one_and_two_members (λ r p. Acceptable two_and_one r p) (omega arith) (omega arith) (omega arith);
    quotas_kept = one_and_two_kept;
  };
  nothing_blocks = λ r p b. two_and_one_pairs (λ s q. (IsMemberOf one_and_two s q → ⊥) → Prefers (get_or two_and_one.resident_lists s []) q (programme_of one_and_two s) → ⊥)
      (λ n w. omega arith) (λ n w. n refl) (λ n w. n refl) (λ n w. n refl) r p b.acceptable b.not_placed b.resident_would;
}

-- The first resident is never placed with the first programme, since the first resident and the second programme prefer
-- each other.
first_not_with_first : ¬ IsAchievable two_and_one 0 0
first_not_with_first a =
    let n = a.matching in
    let empty : member_count n 1 ≤ 0 = members_within n 1 [] (λ r e.
    let same : 0 ≡ r = is_the_one 0 r (a.is_stable.is_assignment.pairs_acceptable r 1 e) in
    let here : IsMemberOf n 0 1 = subst (λ z. IsMemberOf n z 1) (sym same) e in
    absurd (cc (a.has_both, here))) in
    a.is_stable.nothing_blocks 0 1 (record {
      acceptable = omega arith;
      not_placed = λ e. cc (a.has_both, e);
      resident_would = subst (Prefers (1 ∷ 0 ∷ []) 1) (sym a.has_both) (omega arith);
      programme_would = inl (omega arith);
    })

pub one_and_two_is_settled : IsSettled two_and_one one_and_two
one_and_two_is_settled = record { one_place_each = refl; members_are_best = λ p r. (best r p, back p r); residents_have_worst = worst }
  where
    here : (r p : ℕ) → IsMemberOf one_and_two r p → IsAchievable two_and_one r p
    here r p e = record { matching = one_and_two; is_stable = one_and_two_is_stable; has_both = e }

    first_of_two : (s : ℕ) → ComesFirst two_and_one 0 1 s → IsListed [] s
    first_of_two s f = two_and_one_pairs (λ x q. q ≡ 0 → IsBefore (0 ∷ 1 ∷ 2 ∷ []) x 1 → IsAchievable two_and_one x 0 → IsListed [] x)
        (λ e b a. absurd (first_not_with_first a)) (λ e b a. absurd (omega arith)) (λ e b a. absurd (omega arith)) (λ e b a. absurd (omega arith))
        s 0 (achievable_pair two_and_one s 0 f.achievable) refl f.before f.achievable

    first_of_three : (s : ℕ) → ComesFirst two_and_one 0 2 s → IsListed (1 ∷ []) s
    first_of_three s f = two_and_one_pairs (λ x q. q ≡ 0 → IsBefore (0 ∷ 1 ∷ 2 ∷ []) x 2 → IsAchievable two_and_one x 0 → IsListed (1 ∷ []) x)
        (λ e b a. absurd (first_not_with_first a)) (λ e b a. omega arith) (λ e b a. absurd (omega arith)) (λ e b a. absurd (omega arith))
        s 0 (achievable_pair two_and_one s 0 f.achievable) refl f.before f.achievable

    best : (r p : ℕ) → IsMemberOf one_and_two r p → IsBest two_and_one p r
    best = one_and_two_members (λ r p. IsBest two_and_one p r)
        (record { achievable = here 0 1 refl; no_quota_first = λ xs n e. nobody_first two_and_one 1 0 xs (λ s b. omega arith) (omega arith) })
        (record { achievable = here 1 0 refl; no_quota_first = λ xs n e all. let few = few_first two_and_one 0 1 xs [] n all first_of_two in omega arith })
        (record { achievable = here 2 0 refl; no_quota_first = λ xs n e all. let few = few_first two_and_one 0 2 xs (1 ∷ []) n all first_of_three in omega arith })

    back : (p r : ℕ) → IsBest two_and_one p r → IsMemberOf one_and_two r p
    back p r b = two_and_one_pairs (λ s q. IsAchievable two_and_one s q → IsMemberOf one_and_two s q)
        (λ a. absurd (first_not_with_first a)) (λ a. refl) (λ a. refl) (λ a. refl) r p (achievable_pair two_and_one r p b.achievable) b.achievable

    worst : (r : ℕ) → r < 3 → IsWorst two_and_one r (programme_of one_and_two r)
    worst zero l = (
      here 0 1 refl,
      λ q a. two_and_one_pairs (λ r s. r ≡ 0 → IsAchievable two_and_one r s → (s ≡ 1) ⊎ IsBefore (1 ∷ 0 ∷ []) s 1)
          (λ e h. absurd (first_not_with_first h)) (λ e h. absurd (omega arith)) (λ e h. absurd (omega arith)) (λ e h. inl refl) 0 q (achievable_pair two_and_one 0 q a) refl a,
    )
    worst (suc zero) l = (
      here 1 0 refl,
      λ q a. two_and_one_pairs (λ r s. r ≡ 1 → (s ≡ 0) ⊎ IsBefore (0 ∷ []) s 0)
          (λ e. inl refl) (λ e. inl refl) (λ e. inl refl) (λ e. absurd (omega arith)) 1 q (achievable_pair two_and_one 1 q a) refl,
    )
    worst (suc (suc zero)) l = (
      here 2 0 refl,
      λ q a. two_and_one_pairs (λ r s. r ≡ 2 → (s ≡ 0) ⊎ IsBefore (0 ∷ []) s 0)
          (λ e. inl refl) (λ e. inl refl) (λ e. inl refl) (λ e. absurd (omega arith)) 2 q (achievable_pair two_and_one 2 q a) refl,
    )
    worst (suc (suc (suc r))) l = absurd (omega arith)

-- one programme with n places, which both residents list
abbrev with_places : ℕ → Instance
with_places n = record {
  quotas = n ∷ [];
  programme_lists = (0 ∷ 1 ∷ []) ∷ [];
  resident_lists = (0 ∷ []) ∷ (0 ∷ []) ∷ [];
  programmes_withdrawn = false ∷ [];
  residents_withdrawn = false ∷ false ∷ [];
}

with_places_pairs : (n : ℕ) (P : ℕ → ℕ → Type 0) → P 0 0 → P 1 0 → (r p : ℕ) → Acceptable (with_places n) r p → P r p
with_places_pairs n P a b r zero l = elim (is_one_of_two 0 1 r l) [ inl e ↦ subst (λ z. P z 0) e a | inr e ↦ subst (λ z. P z 0) e b ]
with_places_pairs n P a b r (suc p) l = absurd (IsListed-nil r l)

-- with three places both residents are placed, and both are among the three best
abbrev both_placed : List (Option ℕ)
both_placed = Some 0 ∷ Some 0 ∷ []

both_members : (P : ℕ → ℕ → Type 0) → P 0 0 → P 1 0 → (r p : ℕ) → IsMemberOf both_placed r p → P r p
both_members P a b zero p e = subst (P 0) (same_Some 0 p e) a
both_members P a b (suc zero) p e = subst (P 1) (same_Some 0 p e) b
both_members P a b (suc (suc r)) p e = absurd (cc)

both_kept : (p : ℕ) → member_count both_placed p ≤ quota (with_places 3) p
both_kept zero = omega arith
both_kept (suc p) = members_within both_placed (suc p) [] (λ r e.
    let low : suc p < 1 = both_members (λ s q. q < 1) (omega arith) (omega arith) r (suc p) e in absurd (omega arith))

pub both_is_stable : IsStable (with_places 3) both_placed
both_is_stable = record {
  is_assignment = record { one_place_each = refl; pairs_acceptable = both_members (λ r p. Acceptable (with_places 3) r p) (omega arith) (omega arith); quotas_kept = both_kept };
  nothing_blocks = λ r p b. with_places_pairs 3 (λ s q. (IsMemberOf both_placed s q → ⊥) → ⊥) (λ n. n refl) (λ n. n refl) r p b.acceptable b.not_placed;
}

pub both_is_settled : IsSettled (with_places 3) both_placed
both_is_settled = record { one_place_each = refl; members_are_best = λ p r. (best r p, back p r); residents_have_worst = worst }
  where
    here : (r p : ℕ) → IsMemberOf both_placed r p → IsAchievable (with_places 3) r p
    here r p e = record { matching = both_placed; is_stable = both_is_stable; has_both = e }

    one_of_both : (r s : ℕ) → ComesFirst (with_places 3) 0 r s → IsListed (0 ∷ 1 ∷ []) s
    one_of_both r s f = achievable_pair (with_places 3) s 0 f.achievable

    best : (r p : ℕ) → IsMemberOf both_placed r p → IsBest (with_places 3) p r
    best = both_members (λ r p. IsBest (with_places 3) p r)
        (record { achievable = here 0 0 refl; no_quota_first = λ xs n e all. let few = few_first (with_places 3) 0 0 xs (0 ∷ 1 ∷ []) n all (one_of_both 0) in omega arith })
        (record { achievable = here 1 0 refl; no_quota_first = λ xs n e all. let few = few_first (with_places 3) 0 1 xs (0 ∷ 1 ∷ []) n all (one_of_both 1) in omega arith })

    back : (p r : ℕ) → IsBest (with_places 3) p r → IsMemberOf both_placed r p
    back p r b = with_places_pairs 3 (λ s q. IsMemberOf both_placed s q) refl refl r p (achievable_pair (with_places 3) r p b.achievable)

    worst : (r : ℕ) → r < 2 → IsWorst (with_places 3) r (programme_of both_placed r)
    worst zero l = (here 0 0 refl, λ q a. inl (with_places_pairs 3 (λ r s. s ≡ 0) refl refl 0 q (achievable_pair (with_places 3) 0 q a)))
    worst (suc zero) l = (here 1 0 refl, λ q a. inl (with_places_pairs 3 (λ r s. s ≡ 0) refl refl 1 q (achievable_pair (with_places 3) 1 q a)))
    worst (suc (suc r)) l = absurd (omega arith)

-- with one place the first resident gets the place, and no programme is achievable for the second resident
abbrev first_placed : List (Option ℕ)
first_placed = Some 0 ∷ None ∷ []

pub none_for_second : IsWorst (with_places 1) 1 None
none_for_second p a = with_places_pairs 1 (λ r q. r ≡ 1 → q ≡ p → ⊥) (λ e f. omega arith) (λ e f. blocked (subst (IsMemberOf n 1) (sym f) a.has_both)) 1 p (achievable_pair (with_places 1) 1 p a) refl refl
  where
    n : List (Option ℕ)
    n = a.matching

    both_in : IsMemberOf n 0 0 → IsMemberOf n 1 0 → ⊥
    both_in e f =
        let two = members_at_least n 0 (0 ∷ 1 ∷ []) (HasNoRepeats-cons 0 (1 ∷ []) (λ l. let same : 1 ≡ 0 = is_the_one 1 0 l in omega arith) (HasNoRepeats-cons 1 [] (IsListed-nil 1) HasNoRepeats-nil))
        (λ r l. elim (is_one_of_two 0 1 r l) [ inl s ↦ subst (λ z. IsMemberOf n z 0) s e | inr s ↦ subst (λ z. IsMemberOf n z 0) s f ]) in
        let one = a.is_stable.is_assignment.quotas_kept 0 in
        omega arith

    would : (o : Option ℕ) → programme_of n 0 ≡ o → IsMemberOf n 1 0 → Prefers (0 ∷ []) 0 o
    would None e f = tt
    would (Some q) e f = with_places_pairs 1 (λ r s. r ≡ 0 → s ≡ q → IsBefore (0 ∷ []) 0 q)
        (λ x y. absurd (both_in (e ∙ ap Some (sym y)) f)) (λ x y. absurd (omega arith)) 0 q (a.is_stable.is_assignment.pairs_acceptable 0 q e) refl refl

    blocked : IsMemberOf n 1 0 → ⊥
    blocked f = a.is_stable.nothing_blocks 0 0 (record {
      acceptable = omega arith;
      not_placed = λ e. both_in e f;
      resident_would = would (programme_of n 0) refl f;
      programme_would = inr (1, f, omega arith);
    })

first_placed_members : (P : ℕ → ℕ → Type 0) → P 0 0 → (r p : ℕ) → IsMemberOf first_placed r p → P r p
first_placed_members P a zero p e = subst (P 0) (same_Some 0 p e) a
first_placed_members P a (suc zero) p e = absurd (cc)
first_placed_members P a (suc (suc r)) p e = absurd (cc)

first_placed_kept : (p : ℕ) → member_count first_placed p ≤ quota (with_places 1) p
first_placed_kept zero = omega arith
first_placed_kept (suc p) = members_within first_placed (suc p) [] (λ r e.
    let low : suc p < 1 = first_placed_members (λ s q. q < 1) (omega arith) r (suc p) e in absurd (omega arith))

first_placed_full : HasRoomFor (with_places 1) first_placed 0 1 → ⊥
first_placed_full (inl free) = omega arith
first_placed_full (inr w) = first_placed_members (λ s q. IsBefore (0 ∷ 1 ∷ []) 1 s → ⊥) (λ b. omega arith) w.0 0 w.1 w.2

pub first_placed_is_stable : IsStable (with_places 1) first_placed
first_placed_is_stable = record {
  is_assignment = record { one_place_each = refl; pairs_acceptable = first_placed_members (λ r p. Acceptable (with_places 1) r p) (omega arith); quotas_kept = first_placed_kept };
  nothing_blocks = λ r p b. with_places_pairs 1 (λ s q. (IsMemberOf first_placed s q → ⊥) → HasRoomFor (with_places 1) first_placed q s → ⊥) (λ n h. n refl) (λ n h. first_placed_full h)
      r p b.acceptable b.not_placed b.programme_would;
}

pub first_placed_is_settled : IsSettled (with_places 1) first_placed
first_placed_is_settled = record { one_place_each = refl; members_are_best = λ p r. (best r p, back p r); residents_have_worst = worst }
  where
    here : IsAchievable (with_places 1) 0 0
    here = record { matching = first_placed; is_stable = first_placed_is_stable; has_both = refl }

    best : (r p : ℕ) → IsMemberOf first_placed r p → IsBest (with_places 1) p r
    best = first_placed_members (λ r p. IsBest (with_places 1) p r)
        (record { achievable = here; no_quota_first = λ xs n e. nobody_first (with_places 1) 0 0 xs (λ s b. omega arith) (omega arith) })

    back : (p r : ℕ) → IsBest (with_places 1) p r → IsMemberOf first_placed r p
    back p r b = with_places_pairs 1 (λ s q. IsAchievable (with_places 1) s q → IsMemberOf first_placed s q) (λ a. refl) (λ a. absurd (none_for_second 0 a))
        r p (achievable_pair (with_places 1) r p b.achievable) b.achievable

    worst : (r : ℕ) → r < 2 → IsWorst (with_places 1) r (programme_of first_placed r)
    worst zero l = (here, λ q a. inl (with_places_pairs 1 (λ r s. s ≡ 0) refl refl 0 q (achievable_pair (with_places 1) 0 q a)))
    worst (suc zero) l = none_for_second
    worst (suc (suc r)) l = absurd (omega arith)
