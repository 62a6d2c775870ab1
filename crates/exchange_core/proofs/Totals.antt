-- Sums over all desks: what the desks sent and took adds up to the events of each kind.
use Rattle.std.proofs.Common.{◌≡◌, ℕ, ◌+◌, ◌<◌, ◌≤◌, Bool, true, false, cond, eqb, ◌⊎◌, inl, inr, List, [], ◌∷◌, ◌++◌, length, refl, ap, sym, ◌∙◌, arith, length-append, sum_by, count_by, ◌||◌, zero-add}
use Rattle.std.specs.List.{flat_map}
use Rattle.std.proofs.lemmas.Bool.{cases_eq, eq-eqb, ne_eqb}
use Rattle.std.proofs.lemmas.List.Sums.{sum_by-cons, sum_by_push}
use Rattle.match_model.specs.Instance.{Instance}
use Rattle.exchange_core.specs.declared.event.Event.{Event}
use Rattle.exchange_core.specs.declared.event.Event.TheVariants.{Offer, Take, Answer, Hear, Close}
use Rattle.exchange_core.specs.declared.event.Capacity.{Capacity}
use Rattle.exchange_core.specs.Mail.{where_same, offered_by, offered_to, taken_by, answered_by, answered_to, heard_by, offers_of, offers_to, takes, answers_of, answers_to, hears}
use Rattle.exchange_core.specs.Legal.{is_close, is_closed, MayFollow, IsLegal}
use Rattle.exchange_core.proofs.Legal.{legal_induction}
use Rattle.exchange_core.proofs.Mail.{is_closed_nil, is_closed_push}
use Rattle.match_model.proofs.Counts.{sum_below, sum_below_zero, sum_below_same, sum_below-add, sum_below_one, sum_by_same}
use Rattle.exchange_core.proofs.Members.{HasMembers, members_at}

-- the sum over all desks of a whole list of events is the sum of each event's share over all desks
pub sum_below-flat_map : {X A : Type 0} (w : List A → ℕ) → w [] ≡ 0 → ((xs ys : List A) → w (xs ++ ys) ≡ w xs + w ys) → (f : ℕ → X → List A) (n : ℕ) (xs : List X) → sum_below (λ k. w (flat_map (f k) xs)) n ≡ sum_by (λ x. sum_below (λ k. w (f k x)) n) xs
sum_below-flat_map w z a f n [] = sum_below_same (λ k. w []) (λ k. 0) n (λ k l. z) ∙ sum_below_zero n
sum_below-flat_map w z a f n (x ∷ xs) =
    sum_below_same (λ k. w (f k x ++ flat_map (f k) xs)) (λ k. w (f k x) + w (flat_map (f k) xs)) n (λ k l. a (f k x) (flat_map (f k) xs))
    ∙ sum_below-add (λ k. w (f k x)) (λ k. w (flat_map (f k) xs)) n
    ∙ ap (λ t. sum_below (λ k. w (f k x)) n + t) (sum_below-flat_map w z a f n xs)
    ∙ sym (sum_by-cons (λ y. sum_below (λ k. w (f k y)) n) x xs)

-- an item that belongs to one of the desks counts once in the sum over all desks
pub sum_below-where_same : {X : Type 0} (w : List X → ℕ) → w [] ≡ 0 → (a n : ℕ) (x : X) → a < n → sum_below (λ k. w (where_same a k x)) n ≡ w (x ∷ [])
sum_below-where_same w z a n x l =
    sum_below_one (λ k. 0) (λ k. w (where_same a k x)) n a (w (x ∷ [])) l each ∙ (let s = sum_below_zero n in omega (arith, s))
  where
    each : (k : ℕ) → w (where_same a k x) ≡ 0 + cond (eqb k a) (w (x ∷ [])) 0
    each k = case (cases_eq a k)
      where
        case : (a ≡ k) ⊎ (a ≡ k → ⊥) → w (where_same a k x) ≡ 0 + cond (eqb k a) (w (x ∷ [])) 0
        case (inl e) = rw (eq-eqb a k e, eq-eqb k a (sym e)) (omega arith)
        case (inr n) = rw (ne_eqb a k n, ne_eqb k a (λ e. n (sym e))) z

-- ---- sums over the members of an instance

abbrev pub over_programmes : Instance → (ℕ → ℕ) → ℕ
over_programmes inst f = sum_below f (length inst.quotas)

abbrev pub over_residents : Instance → (ℕ → ℕ) → ℕ
over_residents inst f = sum_below f (length inst.resident_lists)

-- ---- how many events there are of each kind

abbrev pub one_offer : Event → ℕ
one_offer (Offer p r) = 1
one_offer (Take r p) = 0
one_offer (Answer r p k) = 0
one_offer (Hear p r k) = 0
one_offer Close = 0

abbrev pub one_take : Event → ℕ
one_take (Offer p r) = 0
one_take (Take r p) = 1
one_take (Answer r p k) = 0
one_take (Hear p r k) = 0
one_take Close = 0

abbrev pub one_answer : Event → ℕ
one_answer (Offer p r) = 0
one_answer (Take r p) = 0
one_answer (Answer r p k) = 1
one_answer (Hear p r k) = 0
one_answer Close = 0

abbrev pub one_hear : Event → ℕ
one_hear (Offer p r) = 0
one_hear (Take r p) = 0
one_hear (Answer r p k) = 0
one_hear (Hear p r k) = 1
one_hear Close = 0

-- each event is of exactly one kind
pub length_by_kind : (j : List Event) → length j ≡ sum_by one_offer j + sum_by one_take j + sum_by one_answer j + sum_by one_hear j + count_by is_close j
length_by_kind [] = refl
length_by_kind (e ∷ es) =
    let a = sum_by-cons one_offer e es in
    let b = sum_by-cons one_take e es in
    let c = sum_by-cons one_answer e es in
    let d = sum_by-cons one_hear e es in
    let f = sum_by-cons (λ x. cond (is_close x) 1 0) e es in
    omega (arith, length_by_kind es, a, b, c, d, f, one e)
  where
    one : (e : Event) → one_offer e + one_take e + one_answer e + one_hear e + cond (is_close e) 1 0 ≡ 1
    one (Offer p r) = refl
    one (Take r p) = refl
    one (Answer r p k) = refl
    one (Hear p r k) = refl
    one Close = refl

module _ (inst : Instance) (cap : Capacity) where
  by_kind : {A : Type 0} (f : ℕ → Event → List A) (n : ℕ) (kind : Event → ℕ) → ((e : Event) → HasMembers inst e → sum_below (λ k. length (f k e)) n ≡ kind e) → (j : List Event) → IsLegal inst cap j → sum_below (λ k. length (flat_map (f k) j)) n ≡ sum_by kind j
  by_kind f n kind one j legal =
      sum_below-flat_map length refl length-append f n j
      ∙ sum_by_same (λ e. sum_below (λ k. length (f k e)) n) kind j (λ i e g. one e (members_at inst cap j i e legal g))

  pub offers_of_total : (j : List Event) → IsLegal inst cap j → over_programmes inst (λ p. length (offers_of p j)) ≡ sum_by one_offer j
  unfolding offers_of
  offers_of_total j legal = by_kind offered_by (length inst.quotas) one_offer one j legal
    where
      one : (e : Event) → HasMembers inst e → over_programmes inst (λ p. length (offered_by p e)) ≡ one_offer e
      one (Offer p r) m = sum_below-where_same length refl p (length inst.quotas) r m.0
      one (Take r p) m = sum_below_zero (length inst.quotas)
      one (Answer r p k) m = sum_below_zero (length inst.quotas)
      one (Hear p r k) m = sum_below_zero (length inst.quotas)
      one Close m = sum_below_zero (length inst.quotas)

  pub offers_to_total : (j : List Event) → IsLegal inst cap j → over_residents inst (λ r. length (offers_to r j)) ≡ sum_by one_offer j
  unfolding offers_to
  offers_to_total j legal = by_kind offered_to (length inst.resident_lists) one_offer one j legal
    where
      one : (e : Event) → HasMembers inst e → over_residents inst (λ r. length (offered_to r e)) ≡ one_offer e
      one (Offer p r) m = sum_below-where_same length refl r (length inst.resident_lists) p m.1
      one (Take r p) m = sum_below_zero (length inst.resident_lists)
      one (Answer r p k) m = sum_below_zero (length inst.resident_lists)
      one (Hear p r k) m = sum_below_zero (length inst.resident_lists)
      one Close m = sum_below_zero (length inst.resident_lists)

  pub takes_total : (j : List Event) → IsLegal inst cap j → over_residents inst (λ r. length (takes r j)) ≡ sum_by one_take j
  unfolding takes
  takes_total j legal = by_kind taken_by (length inst.resident_lists) one_take one j legal
    where
      one : (e : Event) → HasMembers inst e → over_residents inst (λ r. length (taken_by r e)) ≡ one_take e
      one (Offer p r) m = sum_below_zero (length inst.resident_lists)
      one (Take r p) m = sum_below-where_same length refl r (length inst.resident_lists) p m.1
      one (Answer r p k) m = sum_below_zero (length inst.resident_lists)
      one (Hear p r k) m = sum_below_zero (length inst.resident_lists)
      one Close m = sum_below_zero (length inst.resident_lists)

  pub answers_of_total : (j : List Event) → IsLegal inst cap j → over_residents inst (λ r. length (answers_of r j)) ≡ sum_by one_answer j
  unfolding answers_of
  answers_of_total j legal = by_kind answered_by (length inst.resident_lists) one_answer one j legal
    where
      one : (e : Event) → HasMembers inst e → over_residents inst (λ r. length (answered_by r e)) ≡ one_answer e
      one (Offer p r) m = sum_below_zero (length inst.resident_lists)
      one (Take r p) m = sum_below_zero (length inst.resident_lists)
      one (Answer r p k) m = sum_below-where_same length refl r (length inst.resident_lists) (p, k) m.1
      one (Hear p r k) m = sum_below_zero (length inst.resident_lists)
      one Close m = sum_below_zero (length inst.resident_lists)

  pub answers_to_total : (j : List Event) → IsLegal inst cap j → over_programmes inst (λ p. length (answers_to p j)) ≡ sum_by one_answer j
  unfolding answers_to
  answers_to_total j legal = by_kind answered_to (length inst.quotas) one_answer one j legal
    where
      one : (e : Event) → HasMembers inst e → over_programmes inst (λ p. length (answered_to p e)) ≡ one_answer e
      one (Offer p r) m = sum_below_zero (length inst.quotas)
      one (Take r p) m = sum_below_zero (length inst.quotas)
      one (Answer r p k) m = sum_below-where_same length refl p (length inst.quotas) (r, k) m.0
      one (Hear p r k) m = sum_below_zero (length inst.quotas)
      one Close m = sum_below_zero (length inst.quotas)

  pub hears_total : (j : List Event) → IsLegal inst cap j → over_programmes inst (λ p. length (hears p j)) ≡ sum_by one_hear j
  unfolding hears
  hears_total j legal = by_kind heard_by (length inst.quotas) one_hear one j legal
    where
      one : (e : Event) → HasMembers inst e → over_programmes inst (λ p. length (heard_by p e)) ≡ one_hear e
      one (Offer p r) m = sum_below_zero (length inst.quotas)
      one (Take r p) m = sum_below_zero (length inst.quotas)
      one (Answer r p k) m = sum_below_zero (length inst.quotas)
      one (Hear p r k) m = sum_below-where_same length refl p (length inst.quotas) (r, k) m.0
      one Close m = sum_below_zero (length inst.quotas)

-- ---- a legal list of events has at most one close

pub closes_within_one : (inst : Instance) (cap : Capacity) (j : List Event) → IsLegal inst cap j → count_by is_close j ≤ 1
closes_within_one inst cap j legal = omega (arith, legal_induction inst cap Counted nothing (λ j e legal may ih. step j e may ih) j legal, bound (is_closed j))
  where
    Counted : List Event → Type 0
    Counted j = count_by is_close j ≡ cond (is_closed j) 1 0

    bound : (b : Bool) → cond b 1 0 ≤ 1
    bound true = omega arith
    bound false = omega arith

    nothing : Counted []
    nothing = rw is_closed_nil refl

    step : (j : List Event) (e : Event) → MayFollow inst cap j e → Counted j → Counted (j ++ e ∷ [])
    step j e may ih =
        let before : count_by is_close j ≡ 0 = ih ∙ ap (λ (b : Bool). cond b 1 0) may.still_open in
        let closed : is_closed (j ++ e ∷ []) ≡ is_close e = is_closed_push j e ∙ ap (λ (b : Bool). b || is_close e) may.still_open in
        sum_by_push (λ x. cond (is_close x) 1 0) j e ∙ ap (λ t. t + cond (is_close e) 1 0) before ∙ zero-add _ ∙ sym (ap (λ (b : Bool). cond b 1 0) closed)
