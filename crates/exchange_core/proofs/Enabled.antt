-- At each desk at most one event may follow: the event for the first waiting message or the first due answer.
use Rattle.std.proofs.Common.{◌≡◌, ◌≢◌, ℕ, Bool, true, false, not, ltb, Option, Some, None, List, [], ◌∷◌, length, refl, sym, ap, ◌∙◌, subst}
use Rattle.std.specs.Prelude.{is_none, slice_get, if◌then◌else◌}
use Rattle.std.proofs.lemmas.Bool.{not-false}
use Rattle.match_model.specs.Instance.{Instance, IsInstance, IsProgramme, IsResident, list_of_programme}
use Rattle.exchange_core.specs.declared.event.Event.{Event}
use Rattle.exchange_core.specs.declared.event.Event.TheVariants.{Offer, Take, Answer, Hear, Close}
use Rattle.exchange_core.specs.declared.event.AnswerKind.{AnswerKind}
use Rattle.exchange_core.specs.declared.event.Capacity.{Capacity}
use Rattle.exchange_core.specs.declared.event.Refused.TheVariants.{Closed, NoSuchDesk, NoPlace, NotNext, AnswerDue, NothingWaiting, WrongFront, NotDue, MailboxFull}
use Rattle.exchange_core.specs.Mail.{Answered}
use Rattle.exchange_core.specs.Legal.{is_closed, MayFollow}
use Rattle.exchange_core.specs.Left.{Left}
use Rattle.exchange_core.specs.Refusal.{cause, is_number, is_answer, is_nil, strange_desk, still_pending}
use Rattle.exchange_core.specs.Steps.{resident_at, programme_at, event_fault_left, fault_left, next_offer_left, pending_left, HasNoResidentEvent, HasNoProgrammeEvent}
use Rattle.exchange_core.specs.Shown.{Shows, IsCapacity}
use Rattle.exchange_core.proofs.Refusal.{three_none, four_none, head_none, rest_none, first_none, cause_none, cause_from, number_from, answer_from}
use Rattle.exchange_core.proofs.Left.{no_fault_from}
use Rattle.exchange_core.proofs.NoJam.{next_event}

-- the event that gives a resident's first due answer
abbrev answering : ℕ → Option Answered → Event
answering r None = Close
answering r (Some a) = Answer r a.0 a.1

abbrev hearing : ℕ → Option Answered → Event
hearing p None = Close
hearing p (Some a) = Hear p a.0 a.1

abbrev taking : ℕ → Option ℕ → Event
taking r None = Close
taking r (Some p) = Take r p

abbrev offering : ℕ → Option ℕ → Event
offering p None = Close
offering p (Some r) = Offer p r

some_none : {X : Type 0} (x : X) → Some x ≡ None → ⊥
some_none x e = cc

module _ (inst : Instance) (left : Left) where
  own : (e : Event) → fault_left inst left e ≡ None → event_fault_left inst left e ≡ None
  unfolding fault_left
  own e h = head_none (event_fault_left inst left e) [] (rest_none (cause left.closed Closed) (event_fault_left inst left e ∷ []) h)

  is_open : (e : Event) → fault_left inst left e ≡ None → left.closed ≡ false
  unfolding fault_left
  is_open e h = cause_none left.closed Closed (head_none (cause left.closed Closed) (event_fault_left inst left e ∷ []) h)

  answer_front : (r p : ℕ) (k : AnswerKind) → fault_left inst left (Answer r p k) ≡ None → slice_get (resident_at left r).due 0 ≡ Some (p, k)
  answer_front r p k h =
      let first : Option Answered = slice_get (resident_at left r).due 0 in
      answer_from first p k (not-false _ (three_none (strange_desk inst p r) (not (is_answer first p k)) (not (ltb (length (programme_at left p).waiting) (programme_at left p).room)) NoSuchDesk NotDue MailboxFull (own (Answer r p k) h)).1)

  take_front : (r p : ℕ) → fault_left inst left (Take r p) ≡ None → slice_get (resident_at left r).waiting 0 ≡ Some p
  take_front r p h =
      let front : Option ℕ = slice_get (resident_at left r).waiting 0 in
      number_from front p (not-false _ (four_none (strange_desk inst p r) (not (is_nil (resident_at left r).due)) (is_none front) (not (is_number front p)) NoSuchDesk AnswerDue NothingWaiting WrongFront (own (Take r p) h)).3)

  hear_front : (p r : ℕ) (k : AnswerKind) → fault_left inst left (Hear p r k) ≡ None → slice_get (programme_at left p).waiting 0 ≡ Some (r, k)
  hear_front p r k h =
      let front : Option Answered = slice_get (programme_at left p).waiting 0 in
      answer_from front r k (not-false _ (three_none (strange_desk inst p r) (is_none front) (not (is_answer front r k)) NoSuchDesk NothingWaiting WrongFront (own (Hear p r k) h)).2)

  offer_next : (p r : ℕ) → fault_left inst left (Offer p r) ≡ None → next_offer_left inst left p ≡ Some r
  unfolding next_offer_left
  offer_next p r h =
      let next : Option ℕ = slice_get (list_of_programme inst p) (programme_at left p).offered in
      let free = four_none (strange_desk inst p r) (not (ltb (programme_at left p).out (programme_at left p).places)) (not (is_number next r)) (not (ltb (length (resident_at left r).waiting) (resident_at left r).room)) NoSuchDesk NoPlace NotNext MailboxFull (own (Offer p r) h) in
      pick left.closed (ltb (programme_at left p).out (programme_at left p).places) next (is_open (Offer p r) h) (not-false _ free.1) (number_from next r (not-false _ free.2))
    where
      pick : (shut place : Bool) (o : Option ℕ) → shut ≡ false → place ≡ true → o ≡ Some r → (if shut then None else (if place then o else None)) ≡ Some r
      pick true b o e f g = cc
      pick false true o e f g = g
      pick false false o e f g = cc

  -- if the event that gives the first due answer may not follow, no other answer of this resident may follow
  pub answer_only : (r q : ℕ) (m : AnswerKind) → slice_get (resident_at left r).due 0 ≡ Some (q, m) → fault_left inst left (Answer r q m) ≢ None → (p : ℕ) (k : AnswerKind) → fault_left inst left (Answer r p k) ≢ None
  answer_only r q m first fault p k h = fault (subst (λ (o : Option Answered). fault_left inst left (answering r o) ≡ None) (sym (answer_front r p k h) ∙ first) h)

  pub answer_none : (r : ℕ) → slice_get (resident_at left r).due 0 ≡ None → (p : ℕ) (k : AnswerKind) → fault_left inst left (Answer r p k) ≢ None
  answer_none r none p k h = some_none (p, k) (sym (answer_front r p k h) ∙ none)

  pub take_only : (r q : ℕ) → slice_get (resident_at left r).waiting 0 ≡ Some q → fault_left inst left (Take r q) ≢ None → (p : ℕ) → fault_left inst left (Take r p) ≢ None
  take_only r q front fault p h = fault (subst (λ (o : Option ℕ). fault_left inst left (taking r o) ≡ None) (sym (take_front r p h) ∙ front) h)

  pub take_none : (r : ℕ) → slice_get (resident_at left r).waiting 0 ≡ None → (p : ℕ) → fault_left inst left (Take r p) ≢ None
  take_none r none p h = some_none p (sym (take_front r p h) ∙ none)

  pub hear_only : (p s : ℕ) (m : AnswerKind) → slice_get (programme_at left p).waiting 0 ≡ Some (s, m) → fault_left inst left (Hear p s m) ≢ None → (r : ℕ) (k : AnswerKind) → fault_left inst left (Hear p r k) ≢ None
  hear_only p s m front fault r k h = fault (subst (λ (o : Option Answered). fault_left inst left (hearing p o) ≡ None) (sym (hear_front p r k h) ∙ front) h)

  pub hear_none : (p : ℕ) → slice_get (programme_at left p).waiting 0 ≡ None → (r : ℕ) (k : AnswerKind) → fault_left inst left (Hear p r k) ≢ None
  hear_none p none r k h = some_none (r, k) (sym (hear_front p r k h) ∙ none)

  pub offer_only : (p s : ℕ) → next_offer_left inst left p ≡ Some s → fault_left inst left (Offer p s) ≢ None → (r : ℕ) → fault_left inst left (Offer p r) ≢ None
  offer_only p s next fault r h = fault (subst (λ (o : Option ℕ). fault_left inst left (offering p o) ≡ None) (sym (offer_next p r h) ∙ next) h)

  pub offer_none : (p : ℕ) → next_offer_left inst left p ≡ None → (r : ℕ) → fault_left inst left (Offer p r) ≢ None
  offer_none p none r h = some_none r (sym (offer_next p r h) ∙ none)

-- if nothing is pending and the exchange is open, there is no cause against a close
pub close_at_rest : (inst : Instance) (left : Left) → left.closed ≡ false → pending_left inst left ≡ None → fault_left inst left Close ≡ None
unfolding fault_left
close_at_rest inst left still_open rest = first_none (cause left.closed Closed) (still_pending (pending_left inst left) ∷ []) (cause_from left.closed Closed still_open) (first_none (still_pending (pending_left inst left)) [] (ap still_pending rest) refl)

-- if no desk has an event and the list of events has no close, a close may follow
module _ (inst : Instance) (cap : Capacity) (j : List Event) (left : Left) (is_instance : IsInstance inst) (is_capacity : IsCapacity cap) (shows : Shows inst cap j left)
    (residents : (r : ℕ) → IsResident inst r → HasNoResidentEvent inst left r) (programmes : (p : ℕ) → IsProgramme inst p → HasNoProgrammeEvent inst left p) where
  it_is_close : (e : Event) → MayFollow inst cap j e → MayFollow inst cap j Close
  it_is_close (Offer p r) may = absurd ((programmes p may.allowed.by_programme).no_offer r (no_fault_from inst left is_instance (Offer p r) cap j shows may))
  it_is_close (Take r p) may = absurd ((residents r may.allowed.by_resident).no_take p (no_fault_from inst left is_instance (Take r p) cap j shows may))
  it_is_close (Answer r p k) may = absurd ((residents r may.allowed.by_resident).no_answer p k (no_fault_from inst left is_instance (Answer r p k) cap j shows may))
  it_is_close (Hear p r k) may = absurd ((programmes p may.allowed.by_programme).no_hear r k (no_fault_from inst left is_instance (Hear p r k) cap j shows may))
  it_is_close Close may = may

  pub close_where_none : is_closed j ≡ false → MayFollow inst cap j Close
  close_where_none open_still = let next = next_event inst cap j is_instance is_capacity shows.legal open_still in it_is_close next.0 next.1
