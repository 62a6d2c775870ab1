-- Why the placement of a closed exchange is stable, and why each programme gets its best achievable residents.
use Rattle.std.proofs.Common.{◌≡◌, ℕ, ◌+◌, ◌⊎◌, Bool, true, false, not, List, ◌∷◌, length, get_or, arith, refl, sym, ap, ◌∙◌, inl, inr, subst, true≢false}
use Rattle.std.specs.Prelude.{Option, Some, None}
use Rattle.std.specs.List.{count_by, filter, All}
use Rattle.std.proofs.lemmas.Bool.{and_from, not_from_false, false_from_ne_true, not-true}
use Rattle.std.proofs.lemmas.List.Sums.{length-filter, count_by-le-length}
use Rattle.match_model.specs.Ranking.{place, IsListed, is_listed, IsBefore, HasNoRepeats}
use Rattle.match_model.specs.Instance.{Instance, IsInstance, Acceptable, quota, list_of_programme, list_of_resident}
use Rattle.match_model.specs.Placement.{programme_of, IsMemberOf, holds, member_count, IsAssignment}
use Rattle.match_model.proofs.Rankings.{is_listed_from}
use Rattle.match_model.proofs.Listed.{no_repeats_before}
use Rattle.exchange_core.proofs.Rankings.{best_of_Some, best_of_None}
use Rattle.settle_law.specs.Stable.{Prefers, HasRoomFor, Blocks, IsStable, ComesFirst, IsBest}
use Rattle.settle_law.proofs.Places.{listed_cases, get_or-place, IsListed-get_or, IsListed-filter, HasNoRepeats-filter, HasNoRepeats-cons, IsListed-cons_cases}
use Rattle.settle_law.proofs.Counting.{different_among, different_pass, count_by-not}
use Rattle.settle_law.proofs.Placements.{same_from_holds, members_of, length-members_of, members_differ, member_from_listed, member_listed}
use Rattle.settle_law.proofs.NeverRejects.{best_taken, has_turned_down, Standing, SparesAll, offered_is_listed, offered_before, offered_first, crowd_within, best_is_kept}

pub at_listed : (P : ℕ → Type 0) (xs : List ℕ) (x : ℕ) → All P xs → IsListed xs x → P x
at_listed P xs x h l = subst P (get_or-place xs x 0 l) (h (place xs x) 0 l)

pub all_listed : (P : ℕ → Type 0) (xs : List ℕ) → ((x : ℕ) → IsListed xs x → P x) → All P xs
all_listed P xs h k d l = h (get_or xs k d) (IsListed-get_or xs k d l)

-- every offer was taken; each programme is full or has offered to its whole list; each resident holds the best offer
-- that came
pub record Closing (inst : Instance) (offers taken : ℕ → List ℕ) (m : List (Option ℕ)) : Type 0 where
  pub standing : Standing inst offers taken
  pub spares_all : SparesAll inst taken
  pub all_taken : (r p : ℕ) → IsListed (offers p) r → IsListed (taken r) p
  pub no_wish : (p : ℕ) →
      (length (offers p) ≡ quota inst p + count_by (has_turned_down inst taken p) (offers p)) ⊎ (offers p ≡ list_of_programme inst p)
  pub one_place_each : length m ≡ length inst.resident_lists
  pub best_given : (r : ℕ) → programme_of m r ≡ best_taken inst taken r

module _ (inst : Instance) (good : IsInstance inst) (offers taken : ℕ → List ℕ) (m : List (Option ℕ)) (c : Closing inst offers taken m) where
  -- the members of a programme are the residents to whom it offered and who didn't turn it down
  pub member_was_offered : (p r : ℕ) → IsMemberOf m r p →
      IsListed (offers p) r × (has_turned_down inst taken p r ≡ false)
  member_was_offered p r e =
      let best = sym (c.best_given r) ∙ e in
      (c.standing.taken_was_offered r p (best_of_Some (list_of_resident inst r) (taken r) p best).1, best_is_kept inst good offers taken c.standing r p best)

  pub offered_is_member : (p r : ℕ) → IsListed (offers p) r → has_turned_down inst taken p r ≡ false → IsMemberOf m r p
  offered_is_member p r l f = c.best_given r ∙ same_from_holds p (best_taken inst taken r) (go (holds p (best_taken inst taken r)) refl)
    where
      took : is_listed (taken r) p ≡ true
      took = is_listed_from (taken r) p (c.all_taken r p l)

      go : (b : Bool) → holds p (best_taken inst taken r) ≡ b → b ≡ true
      go true e = refl
      go false e =
          let turned = and_from (is_listed (taken r) p) (not (holds p (best_taken inst taken r))) took (not_from_false (holds p (best_taken inst taken r)) e) in
          absurd (true≢false (sym turned ∙ f))

  pub members_are_the_rest : (p : ℕ) →
      member_count m p + count_by (has_turned_down inst taken p) (offers p) ≡ length (offers p)
  members_are_the_rest p =
      let o = c.standing.in_order p in
      let stays = λ (r : ℕ). not (has_turned_down inst taken p r) in
      let stayed = filter stays (offers p) in
      let differ = no_repeats_before (offers p) o.0 (subst HasNoRepeats (sym o.1) (good.programmes_rank_strictly p)) in
      let le = different_pass (members_of m p) (offers p) stays (members_differ m p)
      (λ r l. let h = member_was_offered p r (member_from_listed m p r l) in (h.0, ap not h.1)) in
      let ge = different_among stayed (members_of m p) (HasNoRepeats-filter stays (offers p) differ)
      (λ r l. let h = IsListed-filter stays (offers p) r l in member_listed m p r (offered_is_member p r h.0 (not-true (has_turned_down inst taken p r) h.1))) in
      let among = count_by-le-length (is_listed stayed) (members_of m p) in
      let size = length-members_of m p in
      let kept = length-filter stays (offers p) in
      let both = count_by-not (has_turned_down inst taken p) (offers p) in
      omega arith

  pub given_is_assignment : IsAssignment inst m
  given_is_assignment = record {
    one_place_each = c.one_place_each;
    pairs_acceptable = λ r p e. (offered_is_listed inst good offers taken c.standing p r (member_was_offered p r e).0).0;
    quotas_kept = λ p. omega (arith, members_are_the_rest p, c.standing.within_quota p);
  }

  -- a programme that hasn't offered to its whole list has as many members as its quota
  pub full_or_offered_all : (p : ℕ) → (member_count m p ≡ quota inst p) ⊎ (offers p ≡ list_of_programme inst p)
  full_or_offered_all p = elim (c.no_wish p) [ inl d ↦ inl (omega (arith, members_are_the_rest p)) | inr d ↦ inr d ]

  pub full_from_not_offered : (p r : ℕ) → Acceptable inst r p → (IsListed (offers p) r → ⊥) →
      member_count m p ≡ quota inst p
  full_from_not_offered p r ac n = elim (full_or_offered_all p) [ inl d ↦ d | inr d ↦ absurd (n (subst (λ xs. IsListed xs r) (sym d) ac)) ]

  nobody_blocks : (r p : ℕ) → ¬ Blocks inst m r p
  nobody_blocks r p b = elim (listed_cases (offers p) r) [
    | inl l ↦ would (best_taken inst taken r) refl (c.all_taken r p l)
    | inr n ↦ room n b.programme_would
  ]
    where
      would : (o : Option ℕ) → best_taken inst taken r ≡ o → IsListed (taken r) p → ⊥
      would None e l = best_of_None (list_of_resident inst r) (taken r) e p ((good.both_rank p r).0 b.acceptable) l
      would (Some q) e l =
          let first : IsBefore (list_of_resident inst r) p q = subst (Prefers (list_of_resident inst r) p) (c.best_given r ∙ e) b.resident_would in
          let best = (best_of_Some (list_of_resident inst r) (taken r) q e).2 p l in
          omega arith

      room : (IsListed (offers p) r → ⊥) → HasRoomFor inst m p r → ⊥
      room n (inl free) = let full = full_from_not_offered p r b.acceptable n in omega arith
      room n (inr w) =
          let first = offered_first inst good offers taken c.standing p r w.0 (member_was_offered p w.0 w.1).0 n in
          let after = w.2 in
          omega arith

  pub given_is_stable : IsStable inst m
  given_is_stable = record { is_assignment = given_is_assignment; nothing_blocks = nobody_blocks }

  pub member_is_best : (p r : ℕ) → IsMemberOf m r p → IsBest inst p r
  member_is_best p r e = record {
    achievable = record { matching = m; is_stable = given_is_stable; has_both = e };
    no_quota_first = λ first n size all.
        let was = member_was_offered p r e in
        let differ = HasNoRepeats-cons r first (λ l. let b = (at_listed (ComesFirst inst p r) first r all l).before in omega arith) n in
        let within = crowd_within inst good offers taken c.standing p (r ∷ first) differ (λ s l. elim (IsListed-cons_cases r first s l) [
          | inl d ↦ (subst (IsListed (offers p)) d was.0, subst (λ z. has_turned_down inst taken p z ≡ false) d was.1)
          | inr d ↦
              let one = at_listed (ComesFirst inst p r) first s all d in (
                offered_before inst good offers taken c.standing p r s was.0 one.before,
                false_from_ne_true (has_turned_down inst taken p s) (λ t. c.spares_all.spares s p t one.achievable),
              )
        ]) in
        omega arith;
  }

  pub best_is_member : (p r : ℕ) → IsBest inst p r → IsMemberOf m r p
  best_is_member p r best = elim (listed_cases (offers p) r) [
    | inl l ↦ offered_is_member p r l (false_from_ne_true (has_turned_down inst taken p r) (λ t. c.spares_all.spares r p t best.achievable))
    | inr n ↦
        let ac = best.achievable.is_stable.is_assignment.pairs_acceptable r p best.achievable.has_both in
        let full = full_from_not_offered p r ac n in
        absurd (best.no_quota_first (members_of m p) (members_differ m p) (length-members_of m p ∙ full)
        (all_listed (ComesFirst inst p r) (members_of m p) (λ s l.
        let e = member_from_listed m p s l in
        record {
          before = offered_first inst good offers taken c.standing p r s (member_was_offered p s e).0 n;
          achievable = record { matching = m; is_stable = given_is_stable; has_both = e };
        })))
  ]
