-- What stays true of the two tiers of listed desks while desks are listed and taken.
use Rattle.std.proofs.Common.{◌≡◌, ℕ, ◌+◌, ◌<◌, ◌≤◌, ◌==◌, inl, inr, Bool, true, false, cond, List, [], ◌∷◌, ◌++◌, length, get_or, set, refl, sym, ap, ◌∙◌, subst, arith, length-append}
use Rattle.std.specs.Prelude.{sum_by}
use Rattle.std.proofs.lemmas.Bool.{eqb-true, eqb-false, cases_lt}
use Rattle.std.proofs.lemmas.Grind.{get_or-set_at}
use Rattle.std.proofs.lemmas.List.{get_or-set_other, get_or_past, length-set}
use Rattle.std.proofs.lemmas.List.Sums.{sum_by-set, sum_by-le, sum_by_push}
use Rattle.desk_scheduler.specs.declared.side.Place.{Place}
use Rattle.desk_scheduler.specs.declared.side.Place.TheVariants.{Idle, Listed, InHand, InHandAgain}
use Rattle.desk_scheduler.specs.Desks.{times, one_for, AreListed}

times_le : (p : Place) → times p ≤ 1
times_le Idle = omega arith
times_le Listed = omega arith
times_le InHand = omega arith
times_le InHandAgain = omega arith

-- what is true of two tiers stays true when the first and the second tier change roles
pub swapped : (places : List Place) (listed behind : List ℕ) (r s : ℕ) → AreListed places listed behind r s → AreListed places behind listed s r
swapped places listed behind r s are = record {
  once = λ d. omega (arith, are.once d);
  as_many = omega (arith, are.as_many);
  room = are.room_behind;
  room_behind = are.room;
}

-- if a desk isn't listed, a tier has room for it
pub has_room : (places : List Place) (listed behind : List ℕ) (r s d : ℕ) → AreListed places listed behind r s → d < length places
    → times (get_or places d Idle) ≡ 0 → length listed < r
has_room places listed behind r s d are within none =
    let more = sum_by-set times places d Listed Idle within in
    let most = sum_by-le times 1 (set places d Listed) (λ k e l. times_le (get_or (set places d Listed) k e)) in
    omega (arith, more, most, length-set places d Listed, are.as_many, are.room, none)

-- after one desk's state changed, only this desk should be listed another number of times than
-- before
moved_once : (places : List Place) (d : ℕ) (place : Place) (k : ℕ) → d < length places
    → times (get_or (set places d place) k Idle) ≡ cond (d == k) (times place) (times (get_or places k Idle))
moved_once places d place k within = by (d == k) refl
  where
    by : (b : Bool) → (d == k) ≡ b → times (get_or (set places d place) k Idle) ≡ cond b (times place) (times (get_or places k Idle))
    by true e = ap times (get_or-set_at places d k place Idle (sym (eqb-true d k e)) within)
    by false e = ap times (get_or-set_other places d k place Idle (λ f. eqb-false d k e (sym f)))

-- the desk in front of a tier has the state `Listed`
pub top_is_listed : (places : List Place) (rest behind : List ℕ) (r s d : ℕ) → AreListed places (rest ++ d ∷ []) behind r s → times (get_or places d Idle) ≡ 1
top_is_listed places rest behind r s d are =
    let pushed = sum_by_push (one_for d) rest d in
    let one : one_for d d ≡ 1 = ap (λ (b : Bool). cond b 1 0) (eqb_same d) in
    omega (arith, pushed, one, are.once d, times_le (get_or places d Idle))
  where
    eqb_same : (n : ℕ) → (n == n) ≡ true
    eqb_same n = by (n == n) refl
      where
        by : (b : Bool) → (n == n) ≡ b → (n == n) ≡ true
        by true e = e
        by false e = absurd (eqb-false n n e refl)

-- the desk in front of a tier has a number below the number of desks
pub top_within : (places : List Place) (rest behind : List ℕ) (r s d : ℕ) → AreListed places (rest ++ d ∷ []) behind r s → d < length places
top_within places rest behind r s d are = elim (cases_lt d (length places)) [
  | inl l ↦ l
  | inr m ↦ absurd (omega (arith, top_is_listed places rest behind r s d are, ap times (get_or_past places d Idle m)))
]

-- if the desk in front of a tier is taken in hand, what is true of the tiers stays true
pub top_taken : (places : List Place) (rest behind : List ℕ) (r s d : ℕ) → AreListed places (rest ++ d ∷ []) behind r s → AreListed (set places d InHand) rest behind r s
top_taken places rest behind r s d are = record {
  once = λ k. once k (d == k) refl;
  as_many = omega (arith, length-append rest (d ∷ []), sum_by-set times places d InHand Idle within, are.as_many, top_is_listed places rest behind r s d are);
  room = omega (arith, length-set places d InHand, are.room);
  room_behind = omega (arith, length-set places d InHand, are.room_behind);
}
  where
    within : d < length places
    within = top_within places rest behind r s d are

    once : (k : ℕ) (b : Bool) → (d == k) ≡ b → sum_by (one_for k) rest + sum_by (one_for k) behind ≡ times (get_or (set places d InHand) k Idle)
    once k true e =
        let here : times (get_or places k Idle) ≡ 1 = subst (λ (n : ℕ). times (get_or places n Idle) ≡ 1) (eqb-true d k e) (top_is_listed places rest behind r s d are) in
        let one : one_for k d ≡ 1 = ap (λ (b : Bool). cond b 1 0) e in
        let new : times (get_or (set places d InHand) k Idle) ≡ 0 = moved_once places d InHand k within ∙ ap (λ (b : Bool). cond b 0 (times (get_or places k Idle))) e in
        omega (arith, sum_by_push (one_for k) rest d, are.once k, here, one, new)
    once k false e =
        let one : one_for k d ≡ 0 = ap (λ (b : Bool). cond b 1 0) e in
        let new : times (get_or (set places d InHand) k Idle) ≡ times (get_or places k Idle) = moved_once places d InHand k within ∙ ap (λ (b : Bool). cond b 0 (times (get_or places k Idle))) e in
        omega (arith, sum_by_push (one_for k) rest d, are.once k, one, new)
