-- How often a programme is rejected, counted by the answers that are due and by the answers that were given.
use mathlib.Core.List.{IsPrefix}
use Rattle.std.proofs.Common.{◌≡◌, ℕ, zero, suc, ◌+◌, ◌≤◌, Bool, true, false, cond, eqb, ◌&&◌, ◌⊎◌, inl, inr, List, [], ◌∷◌, ◌++◌, length, slice_get, Option, Some, None, refl, ap, sym, ◌∙◌, subst, arith, sum_by, count_by}
use Rattle.std.proofs.lemmas.Bool.{cases_eq, eq-eqb, ne_eqb}
use Rattle.std.proofs.lemmas.Option.{same_Some}
use Rattle.std.proofs.lemmas.List.Sums.{sum_by-cons, sum_by-append}
use Rattle.match_model.specs.Ranking.{IsListed, is_listed, HasNoRepeats}
use Rattle.match_model.specs.Instance.{Instance, IsInstance, IsResident, quota, list_of_resident}
use Rattle.match_model.proofs.Rankings.{is_listed-true}
use Rattle.exchange_core.specs.declared.event.Event.{Event}
use Rattle.exchange_core.specs.declared.event.Event.TheVariants.{Offer, Take, Answer, Hear, Close}
use Rattle.exchange_core.specs.declared.event.AnswerKind.{AnswerKind}
use Rattle.exchange_core.specs.declared.event.AnswerKind.TheVariants.{Hold, Decline, Release}
use Rattle.exchange_core.specs.declared.event.Capacity.{Capacity}
use Rattle.exchange_core.specs.Mail.{Answered, where_same, answered_by, answered_to, offers_of, offers_to, takes, answers_of, answers_to, hears}
use Rattle.exchange_core.specs.Calls.{beats_all, best_of, release_of, called_by, calls, is_rejection, rejections, due, out}
use Rattle.exchange_core.specs.Legal.{MayFollow, IsLegal}
use Rattle.exchange_core.specs.Refusal.{is_number}
use Rattle.match_model.proofs.Counts.{count_of, count_of_push, sum_below_zero, sum_below-le, sum_below_counts, sum_by_same, sum_by-le, sum_by_one}
use Rattle.match_model.proofs.Listed.{sum_by_listed, prefix_count, count_of_unlisted, listed_push_before, listed_push_last, count_of_listed, count_from_no_repeats, prefix_listed}
use Rattle.exchange_core.proofs.Rankings.{best_of_Some, best_of_push_better, best_of_push_same}
use Rattle.match_model.proofs.Prefixes.{push_induction}
use Rattle.exchange_core.proofs.Mail.{where_same_at, where_same_apart}
use Rattle.exchange_core.proofs.Calls.{best_of_nothing, calls_nil, calls_push, called_by_better, called_by_other}
use Rattle.exchange_core.proofs.Legal.{legal_induction}
use Rattle.exchange_core.proofs.Members.{slice_get-append_parts}
use Rattle.exchange_core.proofs.Dues.{out_nil, out_same, out_offer-le, out_hear}
use Rattle.std.specs.List.{flat_map}
use Rattle.exchange_core.proofs.Totals.{over_residents, sum_below-flat_map, sum_below-where_same}
use Rattle.exchange_core.proofs.Members.{offers_of_members, HasMembers, members_at}
use Rattle.exchange_core.proofs.InOrder.{offers_match, next_call, takes_in_order, answers_in_order, hears_in_order, listed_offer_of, offers_of_no_repeats, takes_no_repeats}

-- whether the answer rejects programme x and so frees a place of x
abbrev pub is_rejection_of : ℕ → Answered → Bool
is_rejection_of x a = is_rejection a && eqb a.0 x

-- how many of the answers reject programme x
abbrev pub rejections_of : ℕ → List Answered → ℕ
rejections_of x answers = count_by (is_rejection_of x) answers

pub rejections_of-append : (x : ℕ) (xs ys : List Answered) → rejections_of x (xs ++ ys) ≡ rejections_of x xs + rejections_of x ys
rejections_of-append x xs ys = sum_by-append (λ a. cond (is_rejection_of x a) 1 0) xs ys

pub rejections_of-cons : (x : ℕ) (a : Answered) (xs : List Answered) → rejections_of x (a ∷ xs) ≡ cond (is_rejection_of x a) 1 0 + rejections_of x xs
rejections_of-cons x a xs = sum_by-cons (λ a. cond (is_rejection_of x a) 1 0) a xs

pub rejections-append : (xs ys : List Answered) → rejections (xs ++ ys) ≡ rejections xs + rejections ys
rejections-append xs ys = sum_by-append (λ a. cond (is_rejection a) 1 0) xs ys

pub prefix_rejections_of : (x : ℕ) (xs ys : List Answered) → IsPrefix xs ys → rejections_of x xs ≤ rejections_of x ys
prefix_rejections_of x xs ys h = omega (arith, rejections_of-append x xs h.0, ap (rejections_of x) h.1)

pub prefix_rejections : (xs ys : List Answered) → IsPrefix xs ys → rejections xs ≤ rejections ys
prefix_rejections xs ys h = omega (arith, rejections-append xs h.0, ap rejections h.1)

-- ---- how many rejections are among the answers due

rejections_of-release : (p : ℕ) (o : Option ℕ) → rejections_of p (release_of o) ≡ cond (is_number o p) 1 0
rejections_of-release p None = refl
rejections_of-release p (Some q) = step (eqb q p) refl
  where
    step : (b : Bool) → eqb q p ≡ b → rejections_of p (release_of (Some q)) ≡ cond (is_number (Some q) p) 1 0
    step true e = rw e refl
    step false e = rw e refl

rejections_of-better : (a l : List ℕ) (x p : ℕ) → beats_all a l x ≡ true → rejections_of p (called_by a l x) ≡ cond (is_number (best_of a l) p) 1 0
rejections_of-better a l x p e =
    let released = rejections_of-release p (best_of a l) in
    rw (called_by_better a l x e) (rejections_of-cons p (x, Hold) (release_of (best_of a l)) ∙ omega (arith, released))

rejections_of-other : (a l : List ℕ) (x p : ℕ) → beats_all a l x ≡ false → rejections_of p (called_by a l x) ≡ cond (eqb x p) 1 0
rejections_of-other a l x p e = rw (called_by_other a l x e) (step (eqb x p) refl)
  where
    step : (b : Bool) → eqb x p ≡ b → rejections_of p ((x, Decline) ∷ []) ≡ cond (eqb x p) 1 0
    step true e = rw e refl
    step false e = rw e refl

-- 1 if programme p is held, else 0
abbrev pub holds_one : Option ℕ → ℕ → ℕ
holds_one o p = cond (is_number o p) 1 0

-- Each time that programme p offers, p is rejected once or is held at the end. So the rejections of p, plus 1 if p is
-- held, are the offers of p.
pub held_or_rejected : (a l : List ℕ) (p : ℕ) → rejections_of p (calls a l) + holds_one (best_of a l) p ≡ count_of p l
held_or_rejected a l p = push_induction Settles nothing (λ l x ih. step l x (beats_all a l x) refl ih) l
  where
    Settles : List ℕ → Type 0
    Settles l = rejections_of p (calls a l) + holds_one (best_of a l) p ≡ count_of p l

    nothing : Settles []
    nothing = rw (calls_nil, best_of_nothing) refl

    more : (l : List ℕ) (x : ℕ) → rejections_of p (calls a (l ++ x ∷ [])) ≡ rejections_of p (calls a l) + rejections_of p (called_by a l x)
    more l x = ap (rejections_of p) (calls_push a l x) ∙ rejections_of-append p (calls a l) (called_by a l x)

    step : (l : List ℕ) (x : ℕ) (b : Bool) → beats_all a l x ≡ b → Settles l → Settles (l ++ x ∷ [])
    step l x true e ih =
        let held : holds_one (best_of a (l ++ x ∷ [])) p ≡ holds_one (Some x) p = ap (λ o. holds_one o p) (best_of_push_better a l x e) in
        omega (arith, more l x, rejections_of-better a l x p e, held, ih, count_of_push p l x)
    step l x false e ih =
        let held : holds_one (best_of a (l ++ x ∷ [])) p ≡ holds_one (best_of a l) p = ap (λ o. holds_one o p) (best_of_push_same a l x e) in
        omega (arith, more l x, rejections_of-other a l x p e, held, ih, count_of_push p l x)

-- In a list of offers without repeats, the best programme is never rejected and every other programme once. A programme
-- outside the list is never rejected.
pub rejections_of-calls : (a l : List ℕ) → HasNoRepeats l → (p : ℕ) → rejections_of p (calls a l) ≡ cond (is_listed l p) (cond (is_number (best_of a l) p) 0 1) 0
rejections_of-calls a l h p = step (is_listed l p) (is_number (best_of a l) p) refl refl (held_or_rejected a l p)
  where
    step : (s t : Bool) → is_listed l p ≡ s → is_number (best_of a l) p ≡ t → rejections_of p (calls a l) + cond t 1 0 ≡ count_of p l → rejections_of p (calls a l) ≡ cond s (cond t 0 1) 0
    step true true e f k = omega (arith, k, count_from_no_repeats l h p)
    step true false e f k = omega (arith, k, count_from_no_repeats l h p, count_of_listed l p (is_listed-true l p e))
    step false t e f k = omega (arith, k, count_of_unlisted l p e)

pub rejections_of-calls-le : (a l : List ℕ) (p : ℕ) → rejections_of p (calls a l) ≤ count_of p l
rejections_of-calls-le a l p = omega (arith, held_or_rejected a l p)

pub rejected_at_most_once : (a l : List ℕ) (p : ℕ) → HasNoRepeats l → rejections_of p (calls a l) ≤ 1
rejected_at_most_once a l p h = omega (arith, rejections_of-calls-le a l p, count_from_no_repeats l h p)

-- an answer is only due to a programme in the list of offers
pub calls_item_listed : (a l : List ℕ) (i : ℕ) (c : Answered) → slice_get (calls a l) i ≡ Some c → IsListed l c.0
calls_item_listed a = push_induction Only nothing (λ l x ih i c h. step l x i c ih (slice_get-append_parts (calls a l) (called_by a l x) i c (rw calls_push at h)))
  where
    Only : List ℕ → Type 0
    Only l = (i : ℕ) (c : Answered) → slice_get (calls a l) i ≡ Some c → IsListed l c.0

    nothing : Only []
    nothing i c h = let g : slice_get {X = Answered} [] i ≡ Some c = rw calls_nil at h in absurd (cc)

    first : (l : List ℕ) (x y : ℕ) (k : AnswerKind) (c : Answered) → IsListed (l ++ x ∷ []) y → Some (y, k) ≡ Some c → IsListed (l ++ x ∷ []) c.0
    first l x y k c listed e = subst (λ (t : Answered). IsListed (l ++ x ∷ []) t.0) (same_Some (y, k) c e) listed

    released : (l : List ℕ) (x : ℕ) (o : Option ℕ) (m : ℕ) (c : Answered) → best_of a l ≡ o → slice_get (release_of o) m ≡ Some c → IsListed (l ++ x ∷ []) c.0
    released l x None m c e h = absurd (cc)
    released l x (Some b) zero c e h = let best = best_of_Some a l b e in first l x b Release c (listed_push_before l x b best.1) h
    released l x (Some b) (suc m) c e h = absurd (cc)

    better : (l : List ℕ) (x m : ℕ) (c : Answered) → slice_get ((x, Hold) ∷ release_of (best_of a l)) m ≡ Some c → IsListed (l ++ x ∷ []) c.0
    better l x zero c h = first l x x Hold c (listed_push_last l x) h
    better l x (suc m) c h = released l x (best_of a l) m c refl h

    other : (l : List ℕ) (x m : ℕ) (c : Answered) → slice_get ((x, Decline) ∷ []) m ≡ Some c → IsListed (l ++ x ∷ []) c.0
    other l x zero c h = first l x x Decline c (listed_push_last l x) h
    other l x (suc m) c h = absurd (cc)

    last : (l : List ℕ) (x : ℕ) (b : Bool) → beats_all a l x ≡ b → (m : ℕ) (c : Answered) → slice_get (called_by a l x) m ≡ Some c → IsListed (l ++ x ∷ []) c.0
    last l x true e m c h = better l x m c (rw (called_by_better a l x e) at h)
    last l x false e m c h = other l x m c (rw (called_by_other a l x e) at h)

    step : (l : List ℕ) (x i : ℕ) (c : Answered) → Only l → (slice_get (calls a l) i ≡ Some c) ⊎ ((m : ℕ) × (slice_get (called_by a l x) m ≡ Some c)) → IsListed (l ++ x ∷ []) c.0
    step l x i c ih (inl h) = listed_push_before l x c.0 (ih i c h)
    step l x i c ih (inr h) = last l x (beats_all a l x) refl h.0 c h.1

-- ---- the rejections that programme p was sent

rejection_at : (p : ℕ) (k : AnswerKind) (r : ℕ) → is_rejection_of p (p, k) ≡ is_rejection (r, k)
rejection_at p Hold r = refl
rejection_at p Decline r = eq-eqb p p refl
rejection_at p Release r = eq-eqb p p refl

rejection_elsewhere : (p q : ℕ) (k : AnswerKind) → (q ≡ p → ⊥) → is_rejection_of p (q, k) ≡ false
rejection_elsewhere p q Hold n = refl
rejection_elsewhere p q Decline n = ne_eqb q p n
rejection_elsewhere p q Release n = ne_eqb q p n

rejections-flat_map : {X : Type 0} (f : X → List Answered) (xs : List X) → rejections (flat_map f xs) ≡ sum_by (λ x. rejections (f x)) xs
rejections-flat_map f [] = refl
rejections-flat_map f (x ∷ xs) =
    rejections-append (f x) (flat_map f xs)
    ∙ ap (λ t. rejections (f x) + t) (rejections-flat_map f xs)
    ∙ sym (sum_by-cons (λ y. rejections (f y)) x xs)

-- all answers that resident r's taken offers need
abbrev pub called_of : Instance → ℕ → List Event → List Answered
called_of inst r j = calls (list_of_resident inst r) (takes r j)

module _ (inst : Instance) (cap : Capacity) where
  -- resident r's answers reject programme p at most as often as all answers that r's taken offers need
  pub answers_reject_within : (j : List Event) → IsLegal inst cap j → (r p : ℕ) → rejections_of p (answers_of r j) ≤ rejections_of p (called_of inst r j)
  answers_reject_within j legal r p = prefix_rejections_of p (answers_of r j) (called_of inst r j) (answers_in_order inst cap j legal r)

  -- an answer goes to a programme that offered to this resident
  pub answer_offered : (j : List Event) → IsLegal inst cap j → (r p : ℕ) (k : AnswerKind) → slice_get (due inst r j) 0 ≡ Some (p, k) → IsListed (offers_of p j) r
  answer_offered j legal r p k h =
      let taken = calls_item_listed (list_of_resident inst r) (takes r j) (length (answers_of r j)) (p, k) (next_call inst j r (p, k) h) in
      listed_offer_of p r j (prefix_listed (takes r j) (offers_to r j) p (takes_in_order inst cap j legal r) taken)

  -- resident r rejects programme p at most as often as p offered to r
  pub rejects_within_offers : (j : List Event) → IsLegal inst cap j → (p r : ℕ) → rejections_of p (answers_of r j) ≤ count_of r (offers_of p j)
  rejects_within_offers j legal p r =
      let answered = answers_reject_within j legal r p in
      let called = rejections_of-calls-le (list_of_resident inst r) (takes r j) p in
      let taken = prefix_count (takes r j) (offers_to r j) p (takes_in_order inst cap j legal r) in
      omega (arith, answered, called, taken, offers_match p r j)

  -- the rejections sent to programme p are the sum of each resident's rejections of p
  pub rejections_total : (j : List Event) → IsLegal inst cap j → (p : ℕ) → rejections (answers_to p j) ≡ over_residents inst (λ r. rejections_of p (answers_of r j))
  unfolding answers_to answers_of
  rejections_total j legal p =
      rejections-flat_map (answered_to p) j
      ∙ sum_by_same (λ e. rejections (answered_to p e)) by_all j (λ i e g. one e (members_at inst cap j i e legal g))
      ∙ sym (sum_below-flat_map (rejections_of p) refl (rejections_of-append p) answered_by (length inst.resident_lists) j)
    where
      by_all : Event → ℕ
      by_all e = over_residents inst (λ r. rejections_of p (answered_by r e))

      told : (s q : ℕ) (k : AnswerKind) → (q ≡ p) ⊎ (q ≡ p → ⊥) → rejections (where_same q p (s, k)) ≡ rejections_of p ((q, k) ∷ [])
      told s q k (inl w) =
          ap rejections (where_same_at q p (s, k) w)
          ∙ sym (ap (λ t. rejections_of p ((t, k) ∷ [])) w ∙ ap (λ (b : Bool). 0 + cond b 1 0) (rejection_at p k s))
      told s q k (inr n) =
          ap rejections (where_same_apart q p (s, k) n)
          ∙ sym (ap (λ (b : Bool). 0 + cond b 1 0) (rejection_elsewhere p q k n))

      one : (e : Event) → HasMembers inst e → rejections (answered_to p e) ≡ over_residents inst (λ r. rejections_of p (answered_by r e))
      one (Offer q s) m = sym (sum_below_zero (length inst.resident_lists))
      one (Take s q) m = sym (sum_below_zero (length inst.resident_lists))
      one (Answer s q k) m = told s q k (cases_eq q p) ∙ sym (sum_below-where_same (rejections_of p) refl s (length inst.resident_lists) (q, k) m.1)
      one (Hear q s k) m = sym (sum_below_zero (length inst.resident_lists))
      one Close m = sym (sum_below_zero (length inst.resident_lists))

  -- programme p heard at most as many rejections as it made offers
  pub heard_rejections_offered : (j : List Event) → IsLegal inst cap j → (p : ℕ) → rejections (hears p j) ≤ length (offers_of p j)
  heard_rejections_offered j legal p =
      let heard = prefix_rejections (hears p j) (answers_to p j) (hears_in_order inst cap j legal p) in
      let each = sum_below-le _ _ (length inst.resident_lists) (λ r l. rejects_within_offers j legal p r) in
      omega (arith, heard, rejections_total j legal p, each, sum_below_counts (offers_of p j) (length inst.resident_lists))

module _ (inst : Instance) (cap : Capacity) (is_instance : IsInstance inst) where
  -- the rejections sent to programme p all come from residents to whom p offered
  pub rejections_match : (j : List Event) → IsLegal inst cap j → (p : ℕ) → rejections (answers_to p j) ≡ sum_by (λ r. rejections_of p (answers_of r j)) (offers_of p j)
  rejections_match j legal p =
      rejections_total inst cap j legal p
      ∙ sym (sum_by_listed by_each (offers_of p j) (length inst.resident_lists) (offers_of_no_repeats inst cap is_instance j legal p) members others)
    where
      by_each : ℕ → ℕ
      by_each r = rejections_of p (answers_of r j)

      members : (i r : ℕ) → slice_get (offers_of p j) i ≡ Some r → IsResident inst r
      members i r g = (offers_of_members inst cap j legal p i r g).1

      others : (r : ℕ) → is_listed (offers_of p j) r ≡ false → by_each r ≡ 0
      others r u = let l = rejects_within_offers inst cap j legal p r in omega (arith, l, count_of_unlisted (offers_of p j) r u)

  -- programme p heard at most as many rejections as the residents to whom p offered owed
  pub heard_rejections_within : (j : List Event) → IsLegal inst cap j → (p : ℕ) → rejections (hears p j) ≤ sum_by (λ r. rejections_of p (called_of inst r j)) (offers_of p j)
  heard_rejections_within j legal p =
      let heard = prefix_rejections (hears p j) (answers_to p j) (hears_in_order inst cap j legal p) in
      let each = sum_by-le (λ r. rejections_of p (answers_of r j)) (λ r. rejections_of p (called_of inst r j)) (offers_of p j) (λ i r g. answers_reject_within inst cap j legal r p) in
      omega (arith, heard, each, rejections_match j legal p)

  pub calls_rejections_within : (j : List Event) → IsLegal inst cap j → (p : ℕ) → sum_by (λ r. rejections_of p (called_of inst r j)) (offers_of p j) ≤ length (offers_of p j)
  calls_rejections_within j legal p =
      let each = sum_by-le (λ r. rejections_of p (called_of inst r j)) (λ r. 1) (offers_of p j) (λ i r g. once r) in
      omega (arith, each, sum_by_one (offers_of p j))
    where
      once : (r : ℕ) → rejections_of p (called_of inst r j) ≤ 1
      once r = rejected_at_most_once (list_of_resident inst r) (takes r j) p (takes_no_repeats inst cap is_instance j legal r)

  -- the offers of programme p are its offers out plus the rejections that it heard
  pub out_and_rejections : (j : List Event) → IsLegal inst cap j → (p : ℕ) → out p j + rejections (hears p j) ≡ length (offers_of p j)
  unfolding out
  out_and_rejections j legal p = let l = heard_rejections_offered inst cap j legal p in omega (arith, l)

-- the number of a programme's offers out is within its quota
pub out_within_quota : (inst : Instance) (cap : Capacity) (j : List Event) → IsLegal inst cap j → (p : ℕ) → out p j ≤ quota inst p
out_within_quota inst cap = legal_induction inst cap (λ j. (p : ℕ) → out p j ≤ quota inst p) (λ p. rw (out_nil p) (omega arith)) (λ j e legal may ih. step j e may ih)
  where
    step : (j : List Event) (e : Event) → MayFollow inst cap j e → ((p : ℕ) → out p j ≤ quota inst p) → (p : ℕ) → out p (j ++ e ∷ []) ≤ quota inst p
    step j (Offer q s) may ih p = case (cases_eq q p)
      where
        case : (q ≡ p) ⊎ (q ≡ p → ⊥) → out p (j ++ Offer q s ∷ []) ≤ quota inst p
        case (inl w) = subst (λ (t : ℕ). out t (j ++ Offer q s ∷ []) ≤ quota inst t) w (let free = may.allowed.place_free in let l = out_offer-le q s j in omega (arith, free, l))
        case (inr n) = rw (out_same p j (Offer q s) (where_same_apart q p s n) refl) (ih p)
    step j (Take r q) may ih p = rw (out_same p j (Take r q) refl refl) (ih p)
    step j (Answer r q k) may ih p = rw (out_same p j (Answer r q k) refl refl) (ih p)
    step j (Hear q r k) may ih p = case (cases_eq q p)
      where
        case : (q ≡ p) ⊎ (q ≡ p → ⊥) → out p (j ++ Hear q r k ∷ []) ≤ quota inst p
        case (inl w) = subst (λ (t : ℕ). out t (j ++ Hear q r k ∷ []) ≤ quota inst t) w (let e = out_hear q r k j in let h = ih q in omega (arith, e, h))
        case (inr n) = rw (out_same p j (Hear q r k) refl (where_same_apart q p (r, k) n)) (ih p)
    step j Close may ih p = rw (out_same p j Close refl refl) (ih p)
