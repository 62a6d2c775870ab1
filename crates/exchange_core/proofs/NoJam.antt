-- After a legal list of events without a close, some event may follow.
use Rattle.std.proofs.Common.{◌≡◌, ℕ, zero, suc, ◌*◌, ◌<◌, ◌≤◌, Bool, true, false, ◌&&◌, ◌⊎◌, inl, inr, List, [], length, ltb, refl, ap, ◌∙◌, arith, eq-or-lt_of_le, le_of_suc-le-suc, le_antisymm}
use Rattle.std.proofs.lemmas.Bool.{ltb-true, ltb-false, and_parts, and_cases}
use Rattle.std.proofs.lemmas.List.{nil_from_length}
use Rattle.std.specs.Prelude.{nat_le}
use Rattle.match_model.specs.Ranking.{place}
use Rattle.match_model.specs.Instance.{Instance, IsInstance, IsProgramme, IsResident, quota, list_of_programme, list_of_resident}
use Rattle.match_model.proofs.Instances.{ranking_resident}
use Rattle.exchange_core.specs.declared.event.Event.{Event}
use Rattle.exchange_core.specs.declared.event.Event.TheVariants.{Offer, Take, Answer, Hear, Close}
use Rattle.exchange_core.specs.declared.event.Capacity.{Capacity}
use Rattle.exchange_core.specs.declared.event.Capacity.TheVariants.{Full, Each}
use Rattle.exchange_core.specs.Mail.{offers_of, offers_to, takes, answers_of, answers_to, hears}
use Rattle.exchange_core.specs.Calls.{due, out}
use Rattle.exchange_core.specs.Legal.{is_closed, room_for, OfferMayFollow, TakeMayFollow, AnswerMayFollow, HearMayFollow, IsAtRest, MayFollow, IsLegal}
use Rattle.match_model.proofs.Listed.{slice_get_place, listed_item}
use Rattle.match_model.proofs.Prefixes.{item_at, prefix_whole}
use Rattle.exchange_core.proofs.Members.{offers_to_members, takes_members, answers_to_members}
use Rattle.exchange_core.proofs.InOrder.{next_call, offers_in_order, takes_in_order, hears_in_order}
use Rattle.exchange_core.proofs.Rejections.{calls_item_listed, out_within_quota}
use Rattle.exchange_core.specs.Shown.{IsCapacity}

-- the test passes at some number below n, or fails at each number below n
abbrev FoundOrNot : (ℕ → Bool) → ℕ → Type 0
FoundOrNot test n = ((k : ℕ) × (k < n) × (test k ≡ true)) ⊎ ((k : ℕ) → k < n → test k ≡ false)

find_below : (test : ℕ → Bool) (n : ℕ) → FoundOrNot test n
find_below test zero = inr (λ k l. absurd (omega arith))
find_below test (suc n) = step (test n) refl (find_below test n)
  where
    step : (b : Bool) → test n ≡ b → FoundOrNot test n → FoundOrNot test (suc n)
    step true e h = inl (n, omega arith, e)
    step false e (inl h) = inl (h.0, omega (arith, h.1), h.2)
    step false e (inr h) = inr (λ k l. case k (eq-or-lt_of_le (le_of_suc-le-suc l)))
      where
        case : (k : ℕ) → (k ≡ n) ⊎ (k < n) → test k ≡ false
        case k (inl w) = ap test w ∙ e
        case k (inr m) = h k m

-- an empty mailbox has room, if the mailbox can ever get a message
room_some : (cap : Capacity) (most : ℕ) → IsCapacity cap → 0 < room_for cap most
room_some Full most h = omega arith
room_some (Each n) most h = ltb-true 0 n (and_parts (ltb 0 n) (nat_le n 1024) h).0

module _ (inst : Instance) (cap : Capacity) (j : List Event) (is_instance : IsInstance inst) (is_capacity : IsCapacity cap) (legal : IsLegal inst cap j) (still_open : is_closed j ≡ false) where
  -- programme p has heard every answer that was sent to it
  abbrev Heard : ℕ → Type 0
  Heard p = length (answers_to p j) ≤ length (hears p j)

  abbrev Answered : ℕ → Type 0
  Answered r = due inst r j ≡ []

  abbrev Taken : ℕ → Type 0
  Taken r = length (offers_to r j) ≤ length (takes r j)

  -- programme p has no free place, or has offered to every resident on its list
  abbrev Content : ℕ → Type 0
  Content p = (quota inst p ≤ out p j) ⊎ (length (list_of_programme inst p) ≤ length (offers_of p j))

  abbrev AtProgrammes : (ℕ → Type 0) → Type 0
  AtProgrammes P = (p : ℕ) → IsProgramme inst p → P p

  abbrev AtResidents : (ℕ → Type 0) → Type 0
  AtResidents P = (r : ℕ) → IsResident inst r → P r

  abbrev Next : Type 0
  Next = (e : Event) × MayFollow inst cap j e

  -- if an answer waits at programme p, then p may hear this answer
  hear : (p : ℕ) → IsProgramme inst p → length (hears p j) < length (answers_to p j) → Next
  hear p m l =
      let first = item_at (answers_to p j) (length (hears p j)) l in
      let members = answers_to_members inst cap j legal p (length (hears p j)) first.0 first.1 in
      let allowed : HearMayFollow inst j p first.0.0 first.0.1 = record {
        by_programme = m;
        from_resident = members.1;
        first_waiting = first.1;
      } in
      (Hear p first.0.0 first.0.1, record { still_open = still_open; allowed = allowed })

  -- if no answer waits anywhere and resident r owes an answer, then r may send this answer
  answer : (r : ℕ) → IsResident inst r → 0 < length (due inst r j) → AtProgrammes Heard → Next
  answer r m l heard =
      let first = item_at (due inst r j) 0 l in
      let p : ℕ = first.0.0 in
      let called = next_call inst j r first.0 first.1 in
      let taken = calls_item_listed (list_of_resident inst r) (takes r j) (length (answers_of r j)) first.0 called in
      let members = takes_members inst cap j legal r (place (takes r j) p) p (slice_get_place (takes r j) p taken) in
      let room = room_some cap (2 * length (list_of_programme inst p)) is_capacity in
      let empty : length (answers_to p j) ≤ length (hears p j) = heard p members.0 in
      let allowed : AnswerMayFollow inst cap j r p first.0.1 = record {
        by_resident = m;
        to_programme = members.0;
        first_due = first.1;
        mailbox_has_room = omega (arith, room, empty);
      } in
      (Answer r p first.0.1, record { still_open = still_open; allowed = allowed })

  -- if no answer is due at resident r and an offer waits there, then r may take this offer
  take_offer : (r : ℕ) → IsResident inst r → length (takes r j) < length (offers_to r j) → Answered r → Next
  take_offer r m l none =
      let first = item_at (offers_to r j) (length (takes r j)) l in
      let members = offers_to_members inst cap j legal r (length (takes r j)) first.0 first.1 in
      let allowed : TakeMayFollow inst j r first.0 = record {
        by_resident = m;
        from_programme = members.0;
        nothing_due = none;
        first_waiting = first.1;
      } in
      (Take r first.0, record { still_open = still_open; allowed = allowed })

  -- if no offer waits anywhere, and programme p has a free place and a next resident, then p may offer to this resident
  offer : (p : ℕ) → IsProgramme inst p → out p j < quota inst p → length (offers_of p j) < length (list_of_programme inst p) → AtResidents Taken → Next
  offer p m free l taken =
      let next = item_at (list_of_programme inst p) (length (offers_of p j)) l in
      let r : ℕ = next.0 in
      let ranked = (is_instance.both_rank p r).0 (listed_item (list_of_programme inst p) (length (offers_of p j)) r next.1) in
      let member = ranking_resident inst r p ranked in
      let room = room_some cap (length (list_of_resident inst r)) is_capacity in
      let empty : length (offers_to r j) ≤ length (takes r j) = taken r member in
      let allowed : OfferMayFollow inst cap j p r = record {
        by_programme = m;
        to_resident = member;
        place_free = free;
        next_listed = next.1;
        mailbox_has_room = omega (arith, room, empty);
      } in
      (Offer p r, record { still_open = still_open; allowed = allowed })

  -- if nothing waits, nothing is due and no programme has a wish, the exchange may close
  close : AtProgrammes Heard → AtResidents Answered → AtResidents Taken → AtProgrammes Content → Next
  close heard none taken content = (Close, record { still_open = still_open; allowed = rest })
    where
      wish : (p : ℕ) → Content p → (out p j ≡ quota inst p) ⊎ (offers_of p j ≡ list_of_programme inst p)
      wish p (inl l) = inl (le_antisymm (out_within_quota inst cap j legal p) l)
      wish p (inr l) = inr (prefix_whole (offers_of p j) (list_of_programme inst p) (offers_in_order inst cap j legal p) l)

      rest : IsAtRest inst j
      rest = record {
        all_taken = λ r m. prefix_whole (takes r j) (offers_to r j) (takes_in_order inst cap j legal r) (taken r m);
        nothing_due = none;
        all_heard = λ p m. prefix_whole (hears p j) (answers_to p j) (hears_in_order inst cap j legal p) (heard p m);
        no_wish = λ p m. wish p (content p m);
      }

  -- ---- whether some desk has an event that may follow

  abbrev answer_waits : ℕ → Bool
  answer_waits p = ltb (length (hears p j)) (length (answers_to p j))

  abbrev answer_due : ℕ → Bool
  answer_due r = ltb 0 (length (due inst r j))

  abbrev offer_waits : ℕ → Bool
  offer_waits r = ltb (length (takes r j)) (length (offers_to r j))

  abbrev has_wish : ℕ → Bool
  has_wish p = ltb (out p j) (quota inst p) && ltb (length (offers_of p j)) (length (list_of_programme inst p))

  next_wish : AtProgrammes Heard → AtResidents Answered → AtResidents Taken → Next
  next_wish heard none taken = step (find_below has_wish (length inst.quotas))
    where
      content : (p : ℕ) → (ltb (out p j) (quota inst p) ≡ false) ⊎ (ltb (length (offers_of p j)) (length (list_of_programme inst p)) ≡ false) → Content p
      content p (inl u) = inl (ltb-false _ _ u)
      content p (inr u) = inr (ltb-false _ _ u)

      step : FoundOrNot has_wish (length inst.quotas) → Next
      step (inl f) = let both = and_parts _ _ f.2 in offer f.0 f.1 (ltb-true _ _ both.0) (ltb-true _ _ both.1) taken
      step (inr n) = close heard none taken (λ p m. content p (and_cases _ _ (n p m)))

  next_take : AtProgrammes Heard → AtResidents Answered → Next
  next_take heard none = step (find_below offer_waits (length inst.resident_lists))
    where
      step : FoundOrNot offer_waits (length inst.resident_lists) → Next
      step (inl f) = take_offer f.0 f.1 (ltb-true _ _ f.2) (none f.0 f.1)
      step (inr n) = next_wish heard none (λ r m. ltb-false _ _ (n r m))

  next_answer : AtProgrammes Heard → Next
  next_answer heard = step (find_below answer_due (length inst.resident_lists))
    where
      answered : (r : ℕ) → answer_due r ≡ false → Answered r
      answered r u = nil_from_length (due inst r j) (let l : length (due inst r j) ≤ 0 = ltb-false _ _ u in omega (arith, l))

      step : FoundOrNot answer_due (length inst.resident_lists) → Next
      step (inl f) = answer f.0 f.1 (ltb-true _ _ f.2) heard
      step (inr n) = next_take heard (λ r m. answered r (n r m))

  pub next_event : (e : Event) × MayFollow inst cap j e
  next_event = step (find_below answer_waits (length inst.quotas))
    where
      step : FoundOrNot answer_waits (length inst.quotas) → Next
      step (inl f) = hear f.0 f.1 (ltb-true _ _ f.2)
      step (inr n) = next_answer (λ p m. ltb-false _ _ (n p m))
