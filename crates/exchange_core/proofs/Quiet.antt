-- If no message waits, no answer is due and no programme has a wish, nothing is pending at any desk.
use Rattle.std.specs.Prelude.{IfSome}
use Rattle.std.proofs.Common.{◌≡◌, ◌≢◌, ◌+◌, ℕ, ◌<◌, suc, zero, Option, Some, None, List, [], ◌∷◌, ◌++◌, false, not, refl, sym, ap, ◌∙◌, subst, arith, length, map, cond, zero-add, Bool, slice_get}
use Rattle.std.specs.List.{All, count_by, range_with_len}
use Rattle.match_model.specs.Instance.{Instance, IsResident}
use Rattle.exchange_core.specs.declared.event.Pending.TheVariants.{Offers, Due, Answers, Wish}
use Rattle.exchange_core.specs.Mail.{Answered}
use Rattle.exchange_core.specs.Left.{Left}
use Rattle.exchange_core.specs.Seats.{opened_resident, opened_programme}
use Rattle.exchange_core.specs.Refusal.{first_of, cause, first_below, is_nil}
use Rattle.exchange_core.specs.Pending.{IsQuiet, IsContent, has_wish}
use Rattle.exchange_core.specs.Steps.{IsCoreOf, resident_at, programme_at, resident_pending_at, programme_pending_at, pending_left, HasNoResidentEvent, HasNoProgrammeEvent, HaveNoEvent}
use Rattle.std.proofs.lemmas.List.Sums.{sum_by-cons, sum_by_push}
use Rattle.exchange_core.proofs.Enabled.{take_none, answer_none}
use Rattle.exchange_core.proofs.FirstBelow.{none_below, first_of_none}

-- if every item fails a test, the number of items that pass is 0
pub none_made : {X : Type 0} (p : X → Bool) (f : ℕ → X) → ((k : ℕ) → p (f k) ≡ false) → (a n : ℕ) → 0 ≡ count_by p (map f (range_with_len a n))
none_made p f fails a zero = refl
none_made p f fails a (suc n) = sym (sum_by-cons (λ x. cond (p x) 1 0) (f a) (map f (range_with_len (a + 1) n)) ∙ ap (λ (b : Bool). cond b 1 0 + count_by p (map f (range_with_len (a + 1) n))) (fails a) ∙ zero-add (count_by p (map f (range_with_len (a + 1) n))) ∙ sym (none_made p f fails (a + 1) n))

-- one more item adds 1 to the count if this item passes the test
pub counted_more : {X : Type 0} (p : X → Bool) (xs : List X) (x : X) (n m : ℕ) → n ≡ count_by p xs → m ≡ n + cond (p x) 1 0 → m ≡ count_by p (xs ++ x ∷ [])
counted_more p xs x n m counted more = more ∙ ap (λ (k : ℕ). k + cond (p x) 1 0) counted ∙ sym (sum_by_push (λ y. cond (p y) 1 0) xs x)

module _ (inst : Instance) (left : Left) where
  quiet_at : All IsQuiet left.residents → (r : ℕ) → r < length left.residents → IsQuiet (resident_at left r)
  quiet_at quiet r h = quiet r (opened_resident 0) h

  -- if no offer waits and no answer is due at any resident's desk, nothing is pending at the residents' desks
  pub quiet_residents : IsCoreOf inst left → All IsQuiet left.residents → first_below (resident_pending_at left) (length inst.resident_lists) ≡ None
  quiet_residents core quiet = none_below (resident_pending_at left) (length inst.resident_lists) (λ r h.
      let at = quiet_at quiet r (omega (arith, core.resident_seats)) in
      nothing r (resident_at left r).waiting (resident_at left r).due at.0 at.1)
    where
      nothing : (r : ℕ) (waiting : List ℕ) (due : List Answered) → waiting ≡ [] → due ≡ [] → first_of (cause (not (is_nil waiting)) (Offers r) ∷ cause (not (is_nil due)) (Due r) ∷ []) ≡ None
      nothing r waiting due e f = rw (e, f) refl

  -- if no offer waits and no answer is due at any resident's desk, no event may follow at the residents' desks
  pub quiet_events : IsCoreOf inst left → All IsQuiet left.residents → (r : ℕ) → IsResident inst r → HasNoResidentEvent inst left r
  quiet_events core quiet r member =
      let at = quiet_at quiet r (omega (arith, core.resident_seats)) in
      record {
        no_take = take_none inst left r (ap (λ (xs : List ℕ). slice_get xs 0) at.0);
        no_answer = answer_none inst left r (ap (λ (xs : List Answered). slice_get xs 0) at.1);
      }

  content_at : All IsContent left.programmes → (p : ℕ) → p < length left.programmes → IsContent (programme_at left p)
  content_at content p h = content p (opened_programme 0 0 0) h

  -- if no answer waits at any programme's desk and no programme has a wish, nothing is pending at the programmes' desks
  pub content_programmes : IsCoreOf inst left → All IsContent left.programmes → first_below (programme_pending_at left) (length inst.quotas) ≡ None
  content_programmes core content = none_below (programme_pending_at left) (length inst.quotas) (λ p h.
      let at = content_at content p (omega (arith, core.programme_seats)) in
      nothing p (programme_at left p).waiting (has_wish (programme_at left p)) at.0 at.1)
    where
      nothing : (p : ℕ) (waiting : List Answered) (b : Bool) → waiting ≡ [] → b ≡ false → first_of (cause (not (is_nil waiting)) (Answers p) ∷ cause b (Wish p) ∷ []) ≡ None
      nothing p waiting b e f = rw (e, f) refl

  -- if no message waits, no answer is due and no programme has a wish, nothing is pending
  pub all_at_rest : IsCoreOf inst left → All IsQuiet left.residents → All IsContent left.programmes → pending_left inst left ≡ None
  unfolding pending_left
  all_at_rest core quiet content = first_of_none (first_below (resident_pending_at left) (length inst.resident_lists)) (first_below (programme_pending_at left) (length inst.quotas))
      (quiet_residents core quiet) (content_programmes core content)

  -- if the two desks that were looked at have no event, and one of them is resident r's, no event
  -- of r's desk may follow
  pub resident_looked_at : (desks : Option (ℕ × ℕ)) (r : ℕ) → IfSome desks (λ (d : ℕ × ℕ). d.1 ≡ r) × (desks ≢ None) → IfSome desks (HaveNoEvent inst left) → HasNoResidentEvent inst left r
  resident_looked_at None r at none = absurd (at.1 refl)
  resident_looked_at (Some d) r at none = subst (HasNoResidentEvent inst left) at.0 none.1

  pub programme_looked_at : (desks : Option (ℕ × ℕ)) (p : ℕ) → IfSome desks (λ (d : ℕ × ℕ). d.0 ≡ p) × (desks ≢ None) → IfSome desks (HaveNoEvent inst left) → HasNoProgrammeEvent inst left p
  programme_looked_at None p at none = absurd (at.1 refl)
  programme_looked_at (Some d) p at none = subst (HasNoProgrammeEvent inst left) at.0 none.0
