-- Why no resident turns down an achievable programme, if programmes offer in the order of their lists and within their
-- quotas.
use Rattle.std.proofs.Common.{◌≡◌, ℕ, ◌+◌, ◌<◌, ◌≤◌, Bool, true, false, not, ◌&&◌, List, ◌∷◌, ◌++◌, length, arith, refl, sym, ap, ◌∙◌, inl, inr, subst, true≢false, length-append}
use Rattle.std.specs.Prelude.{Option, Some, None}
use Rattle.std.specs.List.{count_by}
use Rattle.std.proofs.lemmas.Bool.{cases_lt, and_parts, not-true, false_from_ne_true, and_right}
use Rattle.std.proofs.lemmas.Option.{same_Some}
use Rattle.match_model.specs.Ranking.{place, IsListed, is_listed, IsBefore, HasNoRepeats}
use Rattle.match_model.specs.Instance.{Instance, IsInstance, Acceptable, quota, list_of_programme, list_of_resident}
use Rattle.match_model.specs.Placement.{programme_of, IsMemberOf, holds, member_count}
use Rattle.match_model.proofs.Rankings.{is_listed-true}
use Rattle.exchange_core.specs.Calls.{best_of}
use Rattle.match_model.proofs.Listed.{same_from_place, place-append}
use Rattle.exchange_core.proofs.Rankings.{best_of_Some, best_of_None}
use Rattle.settle_law.specs.Stable.{Prefers, IsStable, IsAchievable}
use Rattle.settle_law.proofs.Places.{listed_cases, before_from_not_after, place-append_other, IsListed-cons_cases, HasNoRepeats-cons}
use Rattle.settle_law.proofs.Counting.{different_pass, count_by-not}
use Rattle.settle_law.proofs.Placements.{holds_true, members_of, length-members_of, members_differ, member_from_listed}

-- the best programme among those whose offers resident r took
abbrev pub best_taken : Instance → (ℕ → List ℕ) → ℕ → Option ℕ
best_taken inst taken r = best_of (list_of_resident inst r) (taken r)

-- whether resident r took an offer of programme p, and another programme is r's best
abbrev pub has_turned_down : Instance → (ℕ → List ℕ) → ℕ → ℕ → Bool
has_turned_down inst taken p r = is_listed (taken r) p && not (holds p (best_taken inst taken r))

-- what is known about offers: programmes offer in the order of their lists, residents take only what was offered, and
-- no programme has more open offers than its quota
pub record Standing (inst : Instance) (offers taken : ℕ → List ℕ) : Type 0 where
  pub in_order : (p : ℕ) → (rest : List ℕ) × (offers p ++ rest ≡ list_of_programme inst p)
  pub taken_was_offered : (r p : ℕ) → IsListed (taken r) p → IsListed (offers p) r
  pub within_quota : (p : ℕ) → length (offers p) ≤ quota inst p + count_by (has_turned_down inst taken p) (offers p)

-- no resident has turned down a programme that is achievable for this resident
pub record SparesAll (inst : Instance) (taken : ℕ → List ℕ) : Type 0 where
  pub spares : (r p : ℕ) → has_turned_down inst taken p r ≡ true → ¬ IsAchievable inst r p

-- if a resident prefers a programme in a stable assignment, the programme is full of residents who stand before this
-- resident on its list
pub record IsFullOfBetter (inst : Instance) (m : List (Option ℕ)) (p r : ℕ) : Type 0 where
  pub full : quota inst p ≤ member_count m p
  pub better : (s : ℕ) → IsMemberOf m s p → IsBefore (list_of_programme inst p) s r

pub full_of_better : (inst : Instance) (m : List (Option ℕ)) (r p : ℕ) → IsStable inst m → Acceptable inst r p →
    ¬ IsMemberOf m r p → Prefers (list_of_resident inst r) p (programme_of m r) → IsFullOfBetter inst m p r
full_of_better inst m r p st ac np pr = record {
  full = elim (cases_lt (member_count m p) (quota inst p)) [
    | inl c ↦ absurd (st.nothing_blocks r p (record { acceptable = ac; not_placed = np; resident_would = pr; programme_would = inl c }))
    | inr c ↦ c
  ];
  better = λ s e. before_from_not_after (list_of_programme inst p) s r (st.is_assignment.pairs_acceptable s p e)
      (λ same. np (subst (λ z. IsMemberOf m z p) same e))
      (λ b. st.nothing_blocks r p (record { acceptable = ac; not_placed = np; resident_would = pr; programme_would = inr (s, e, b) }));
}

module _ (inst : Instance) (good : IsInstance inst) (offers taken : ℕ → List ℕ) (st : Standing inst offers taken) where
  -- if programme p offered to n residents, a resident who got an offer is among the first n on p's list
  pub offered_is_listed : (p r : ℕ) → IsListed (offers p) r →
      Acceptable inst r p × (place (list_of_programme inst p) r < length (offers p))
  offered_is_listed p r l =
      let o = st.in_order p in
      let e : place (list_of_programme inst p) r ≡ place (offers p) r = ap (λ xs. place xs r) (sym o.1) ∙ place-append (offers p) o.0 r l in
      let size : length (offers p) ≤ length (list_of_programme inst p) = subst (λ xs. length (offers p) ≤ length xs) o.1 (omega (arith, length-append (offers p) o.0)) in
      (omega arith, omega arith)

  -- if programme p offered to n residents, a resident without an offer is not among the first n on p's list
  others_are_behind : (p r : ℕ) → (IsListed (offers p) r → ⊥) → length (offers p) ≤ place (list_of_programme inst p) r
  others_are_behind p r n =
      let o = st.in_order p in
      subst (λ xs. length (offers p) ≤ place xs r) o.1 (place-append_other (offers p) o.0 r n)

  -- if a resident got an offer, each resident before this one on the programme's list got an offer too
  pub offered_before : (p r s : ℕ) → IsListed (offers p) r → IsBefore (list_of_programme inst p) s r → IsListed (offers p) s
  offered_before p r s l b = elim (listed_cases (offers p) s) [
    | inl c ↦ c
    | inr c ↦
        let within = (offered_is_listed p r l).1 in
        let behind = others_are_behind p s c in
        absurd (omega arith)
  ]

  -- a resident with an offer stands before a resident without an offer on the programme's list
  pub offered_first : (p r s : ℕ) → IsListed (offers p) s → (IsListed (offers p) r → ⊥) → IsBefore (list_of_programme inst p) s r
  offered_first p r s l n =
      let within = (offered_is_listed p s l).1 in
      let behind = others_are_behind p r n in
      omega arith

  -- at most as many different residents got an offer of p and haven't turned p down as p has places
  pub crowd_within : (p : ℕ) (xs : List ℕ) → HasNoRepeats xs →
      ((x : ℕ) → IsListed xs x → IsListed (offers p) x × (has_turned_down inst taken p x ≡ false)) →
      length xs ≤ quota inst p
  crowd_within p xs n h =
      let a = different_pass xs (offers p) (λ r. not (has_turned_down inst taken p r)) n (λ x l. ((h x l).0, ap not (h x l).1)) in
      let b = count_by-not (has_turned_down inst taken p) (offers p) in
      let c = st.within_quota p in
      omega arith

  -- a resident does not turn down the best programme among those taken
  pub best_is_kept : (r b : ℕ) → best_taken inst taken r ≡ Some b → has_turned_down inst taken b r ≡ false
  best_is_kept r b e =
      and_right (is_listed (taken r) b) (not (holds b (best_taken inst taken r))) (ap not (holds_true b (best_taken inst taken r) e))

  -- a programme that resident r turned down stands behind r's best programme on r's list
  pub best_is_before : (r q b : ℕ) → best_taken inst taken r ≡ Some b → has_turned_down inst taken q r ≡ true →
      (b ≡ q → ⊥) × IsBefore (list_of_resident inst r) b q
  best_is_before r q b e t =
      let parts = and_parts (is_listed (taken r) q) (not (holds q (best_taken inst taken r))) t in
      let apart : b ≡ q → ⊥ = λ same. true≢false (sym (holds_true q (best_taken inst taken r) (e ∙ ap Some same)) ∙ not-true (holds q (best_taken inst taken r)) parts.1) in
      let best = best_of_Some (list_of_resident inst r) (taken r) b e in
      let le = best.2 q (is_listed-true (taken r) q parts.0) in (
        apart,
        elim (cases_lt (place (list_of_resident inst r) b) (place (list_of_resident inst r) q)) [
          | inl c ↦ c
          | inr c ↦ absurd (apart (same_from_place (list_of_resident inst r) b q best.0 (omega arith)))
        ],
      )

  -- if no other resident has turned down an achievable programme, resident r has turned down none either
  pub spares_one : (r : ℕ) →
      ((s p : ℕ) → (s ≡ r → ⊥) → has_turned_down inst taken p s ≡ true → ¬ IsAchievable inst s p) → (q : ℕ) →
      has_turned_down inst taken q r ≡ true → ¬ IsAchievable inst r q
  spares_one r others q t ach = go (best_taken inst taken r) refl
    where
      took : IsListed (taken r) q
      took = is_listed-true (taken r) q (and_parts (is_listed (taken r) q) (not (holds q (best_taken inst taken r))) t).0

      go : (o : Option ℕ) → best_taken inst taken r ≡ o → ⊥
      go None e = best_of_None (list_of_resident inst r) (taken r) e q ((good.both_rank q r).0 (offered_is_listed q r (st.taken_was_offered r q took)).0) took
      go (Some b) e =
          let m = ach.matching in
          let behind = best_is_before r q b e t in
          let best = best_of_Some (list_of_resident inst r) (taken r) b e in
          let elsewhere : ¬ IsMemberOf m r b = λ same. behind.0 (same_Some b q (sym same ∙ ach.has_both)) in
          let would : Prefers (list_of_resident inst r) b (programme_of m r) = subst (Prefers (list_of_resident inst r) b) (sym ach.has_both) behind.1 in
          let f = full_of_better inst m r b ach.is_stable ((good.both_rank b r).1 best.0) elsewhere would in
          let offered : IsListed (offers b) r = st.taken_was_offered r b best.1 in
          let different : HasNoRepeats (r ∷ members_of m b) = HasNoRepeats-cons r (members_of m b) (λ l. elsewhere (member_from_listed m b r l)) (members_differ m b) in
          let size = length-members_of m b in
          let within = crowd_within b (r ∷ members_of m b) different (λ s l. elim (IsListed-cons_cases r (members_of m b) s l) [
            | inl c ↦ (subst (IsListed (offers b)) c offered, subst (λ z. has_turned_down inst taken b z ≡ false) c (best_is_kept r b e))
            | inr c ↦
                let is_member = member_from_listed m b s c in (
                  offered_before b r s offered (f.better s is_member),
                  false_from_ne_true (has_turned_down inst taken b s)
                      (λ d. others s b (λ same. elsewhere (subst (λ z. IsMemberOf m z b) same is_member)) d
                      (record { matching = m; is_stable = ach.is_stable; has_both = is_member })),
                )
          ]) in
          let full = f.full in
          absurd (omega arith)
