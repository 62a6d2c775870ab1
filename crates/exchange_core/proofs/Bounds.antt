-- How many messages can ever be sent to a mailbox.
use mathlib.Core.List.{IsPrefix}
use Rattle.std.proofs.Common.{◌≡◌, ℕ, ◌+◌, ◌*◌, ◌<◌, ◌≤◌, Bool, true, false, not, cond, eqb, ◌&&◌, ◌⊎◌, inl, inr, List, [], ◌∷◌, ◌++◌, length, slice_get, Option, Some, None, refl, ap, sym, ◌∙◌, arith, sum_by, count_by, length-append}
use Rattle.std.specs.List.{flat_map}
use Rattle.std.proofs.lemmas.Bool.{cases_eq, eq-eqb, ne_eqb}
use Rattle.std.proofs.lemmas.List.Sums.{sum_by-cons, sum_by-append}
use Rattle.match_model.specs.Ranking.{IsListed, is_listed, HasNoRepeats}
use Rattle.match_model.specs.Instance.{Instance, IsInstance, list_of_programme, list_of_resident}
use Rattle.match_model.proofs.Rankings.{is_listed-true, is_listed_from}
use Rattle.exchange_core.specs.declared.event.Event.{Event}
use Rattle.exchange_core.specs.declared.event.Event.TheVariants.{Offer, Take, Answer, Hear, Close}
use Rattle.exchange_core.specs.declared.event.AnswerKind.{AnswerKind}
use Rattle.exchange_core.specs.declared.event.AnswerKind.TheVariants.{Hold, Decline}
use Rattle.exchange_core.specs.declared.event.Capacity.{Capacity}
use Rattle.exchange_core.specs.Mail.{Answered, where_same, answered_by, answered_to, offers_of, offers_to, takes, answers_of, answers_to}
use Rattle.exchange_core.specs.Calls.{beats_all, best_of, release_of, called_by, calls, is_rejection}
use Rattle.exchange_core.specs.Legal.{IsLegal}
use Rattle.match_model.proofs.Counts.{count_of, count_of_push, sum_below-add, sum_below-le, sum_below_zero, sum_below_counts, sum_by_same, sum_by_one}
use Rattle.match_model.proofs.Listed.{count_of_listed, listed_item, prefix_count, sum_by_listed}
use Rattle.match_model.proofs.Prefixes.{push_induction, prefix_length}
use Rattle.exchange_core.proofs.Mail.{where_same_at, where_same_apart}
use Rattle.exchange_core.proofs.Calls.{calls_nil, calls_push, called_by_better, called_by_other}
use Rattle.exchange_core.proofs.Members.{HasMembers, members_at, offers_to_members}
use Rattle.exchange_core.proofs.InOrder.{offers_match, offers_in_order, takes_in_order, answers_in_order, offers_to_no_repeats, offer_ranked}
use Rattle.exchange_core.proofs.Rejections.{rejections_of, rejections_of-cons, rejections_of-calls-le}
use Rattle.exchange_core.proofs.Totals.{over_residents, sum_below-flat_map, sum_below-where_same}

-- list xs has no repeats and all its items stand in list ys, so xs is at most as long as ys
within_listed : (xs ys : List ℕ) (n : ℕ) → HasNoRepeats xs → ((i x : ℕ) → slice_get xs i ≡ Some x → x < n) → ((x : ℕ) → IsListed xs x → IsListed ys x) → length xs ≤ length ys
within_listed xs ys n once below listed =
    let one = sum_by_same mark (λ x. 1) xs (λ i x g. ap (λ (b : Bool). cond b 1 0) (is_listed_from xs x (listed_item xs i x g))) in
    let all = sum_by_listed mark xs n once below (λ x e. ap (λ (b : Bool). cond b 1 0) e) in
    let fewer = sum_below-le mark (λ k. count_of k ys) n (λ k l. each (is_listed xs k) k refl) in
    omega (arith, one, sum_by_one xs, all, fewer, sum_below_counts ys n)
  where
    mark : ℕ → ℕ
    mark k = cond (is_listed xs k) 1 0

    each : (b : Bool) (k : ℕ) → is_listed xs k ≡ b → cond b 1 0 ≤ count_of k ys
    each true k e = let c = count_of_listed ys k (listed k (is_listed-true xs k e)) in omega (arith, c)
    each false k e = omega arith

-- ---- the answers sent to one programme

-- how many of the answers go to programme p
abbrev pub told : ℕ → List Answered → ℕ
told p answers = count_by (λ a. eqb a.0 p) answers

-- whether an answer is a hold and goes to programme p
abbrev is_hold_to : ℕ → Answered → Bool
is_hold_to p a = not (is_rejection a) && eqb a.0 p

abbrev holds_to : ℕ → List Answered → ℕ
holds_to p answers = count_by (is_hold_to p) answers

told-append : (p : ℕ) (xs ys : List Answered) → told p (xs ++ ys) ≡ told p xs + told p ys
told-append p xs ys = sum_by-append (λ a. cond (eqb a.0 p) 1 0) xs ys

holds_to-append : (p : ℕ) (xs ys : List Answered) → holds_to p (xs ++ ys) ≡ holds_to p xs + holds_to p ys
holds_to-append p xs ys = sum_by-append (λ a. cond (is_hold_to p a) 1 0) xs ys

prefix_told : (p : ℕ) (xs ys : List Answered) → IsPrefix xs ys → told p xs ≤ told p ys
prefix_told p xs ys h = omega (arith, told-append p xs h.0, ap (told p) h.1)

-- the answers to programme p are the holds and the rejections of p together
told_parts : (p : ℕ) (xs : List Answered) → told p xs ≡ holds_to p xs + rejections_of p xs
told_parts p [] = refl
told_parts p (a ∷ xs) =
    omega (arith, sum_by-cons (λ b. cond (eqb b.0 p) 1 0) a xs, sum_by-cons (λ b. cond (is_hold_to p b) 1 0) a xs, rejections_of-cons p a xs, one (is_rejection a) (eqb a.0 p), told_parts p xs)
  where
    one : (b c : Bool) → cond c 1 0 ≡ cond (not b && c) 1 0 + cond (b && c) 1 0
    one true true = refl
    one true false = refl
    one false true = refl
    one false false = refl

-- the answers due for the offers in list l hold programme p at most as often as p stands in l
holds_called : (a l : List ℕ) (p : ℕ) → holds_to p (calls a l) ≤ count_of p l
holds_called a l p = push_induction Within nothing (λ l x ih. step l x (beats_all a l x) refl ih) l
  where
    Within : List ℕ → Type 0
    Within l = holds_to p (calls a l) ≤ count_of p l

    nothing : Within []
    nothing = let e = ap (holds_to p) (calls_nil a) in omega (arith, e)

    released : (o : Option ℕ) → holds_to p (release_of o) ≡ 0
    released None = refl
    released (Some q) = refl

    more : (l : List ℕ) (x : ℕ) → holds_to p (calls a (l ++ x ∷ [])) ≡ holds_to p (calls a l) + holds_to p (called_by a l x)
    more l x = ap (holds_to p) (calls_push a l x) ∙ holds_to-append p (calls a l) (called_by a l x)

    step : (l : List ℕ) (x : ℕ) (b : Bool) → beats_all a l x ≡ b → Within l → Within (l ++ x ∷ [])
    step l x true e ih =
        let called = ap (holds_to p) (called_by_better a l x e) in
        omega (arith, more l x, called, sum_by-cons (λ b. cond (is_hold_to p b) 1 0) (x, Hold) (release_of (best_of a l)), released (best_of a l), ih, count_of_push p l x)
    step l x false e ih =
        let called = ap (holds_to p) (called_by_other a l x e) in
        omega (arith, more l x, called, sum_by-cons (λ b. cond (is_hold_to p b) 1 0) (x, Decline) [], ih, count_of_push p l x)

length-flat_map : {X A : Type 0} (f : X → List A) (xs : List X) → length (flat_map f xs) ≡ sum_by (λ x. length (f x)) xs
length-flat_map f [] = refl
length-flat_map f (x ∷ xs) = length-append (f x) (flat_map f xs) ∙ ap (λ (t : ℕ). length (f x) + t) (length-flat_map f xs) ∙ sym (sum_by-cons (λ y. length (f y)) x xs)

module _ (inst : Instance) (cap : Capacity) where
  -- the answers to programme p are as many as all residents together sent to it
  told_total : (j : List Event) → IsLegal inst cap j → (p : ℕ) → length (answers_to p j) ≡ over_residents inst (λ r. told p (answers_of r j))
  unfolding answers_to answers_of
  told_total j legal p =
      length-flat_map (answered_to p) j
      ∙ sum_by_same (λ e. length (answered_to p e)) by_all j (λ i e g. one e (members_at inst cap j i e legal g))
      ∙ sym (sum_below-flat_map (told p) refl (told-append p) answered_by (length inst.resident_lists) j)
    where
      by_all : Event → ℕ
      by_all e = over_residents inst (λ r. told p (answered_by r e))

      here : (s q : ℕ) (k : AnswerKind) → (q ≡ p) ⊎ (q ≡ p → ⊥) → length {A = Answered} (where_same q p (s, k)) ≡ told p ((q, k) ∷ [])
      here s q k (inl w) = ap (λ (xs : List Answered). length xs) (where_same_at q p (s, k) w) ∙ sym (ap (λ (b : Bool). 0 + cond b 1 0) (eq-eqb q p w))
      here s q k (inr n) = ap (λ (xs : List Answered). length xs) (where_same_apart q p (s, k) n) ∙ sym (ap (λ (b : Bool). 0 + cond b 1 0) (ne_eqb q p n))

      one : (e : Event) → HasMembers inst e → length (answered_to p e) ≡ over_residents inst (λ r. told p (answered_by r e))
      one (Offer q s) m = sym (sum_below_zero (length inst.resident_lists))
      one (Take s q) m = sym (sum_below_zero (length inst.resident_lists))
      one (Answer s q k) m = here s q k (cases_eq q p) ∙ sym (sum_below-where_same (told p) refl s (length inst.resident_lists) (q, k) m.1)
      one (Hear q s k) m = sym (sum_below_zero (length inst.resident_lists))
      one Close m = sym (sum_below_zero (length inst.resident_lists))

  told_by : (j : List Event) → IsLegal inst cap j → (p r : ℕ) → told p (answers_of r j) ≤ count_of r (offers_of p j) + count_of r (offers_of p j)
  told_by j legal p r =
      let called = calls (list_of_resident inst r) (takes r j) in
      let answered = prefix_told p (answers_of r j) called (answers_in_order inst cap j legal r) in
      let taken = prefix_count (takes r j) (offers_to r j) p (takes_in_order inst cap j legal r) in
      omega (arith, answered, told_parts p called, holds_called (list_of_resident inst r) (takes r j) p, rejections_of-calls-le (list_of_resident inst r) (takes r j) p, taken, offers_match p r j)

  -- each resident on programme p's list answers p at most twice
  pub answers_within : (j : List Event) → IsLegal inst cap j → (p : ℕ) → length (answers_to p j) ≤ 2 * length (list_of_programme inst p)
  answers_within j legal p =
      let each = sum_below-le (λ r. told p (answers_of r j)) (λ r. count_of r (offers_of p j) + count_of r (offers_of p j)) (length inst.resident_lists) (λ r l. told_by j legal p r) in
      let twice = sum_below-add (λ r. count_of r (offers_of p j)) (λ r. count_of r (offers_of p j)) (length inst.resident_lists) in
      omega (arith, told_total j legal p, each, twice, sum_below_counts (offers_of p j) (length inst.resident_lists), prefix_length (offers_of p j) (list_of_programme inst p) (offers_in_order inst cap j legal p))

  -- each programme on resident r's list offers to r at most once
  pub offers_within : IsInstance inst → (j : List Event) → IsLegal inst cap j → (r : ℕ) → length (offers_to r j) ≤ length (list_of_resident inst r)
  offers_within is_instance j legal r =
      within_listed (offers_to r j) (list_of_resident inst r) (length inst.quotas) (offers_to_no_repeats inst cap is_instance j legal r)
      (λ i p g. (offers_to_members inst cap j legal r i p g).0) (λ p h. offer_ranked inst cap is_instance j legal r p h)
