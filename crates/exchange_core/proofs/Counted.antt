-- The count of desks that pass a test, after one desk changes.
use Rattle.std.proofs.Common.{◌≡◌, ℕ, ◌+◌, ◌<◌, List, Option, Some, None, Bool, true, false, cond, not, length, map, get_or, refl, sym, ap, ◌∙◌, arith}
use Rattle.std.specs.Prelude.{slice_set, nat_lt, is_some}
use Rattle.std.specs.List.{count_by}
use Rattle.std.proofs.lemmas.List.{length-map, get_or-map, map-set}
use Rattle.std.proofs.lemmas.List.Sums.{sum_by-set, sum_by-take-le, count_by_more_yes}
use Rattle.exchange_core.specs.declared.part.Part.{Part}
use Rattle.exchange_core.specs.Mail.{Answered}
use Rattle.exchange_core.specs.Refusal.{is_nil}
use Rattle.exchange_core.specs.Notes.{waiting_in}
use Rattle.exchange_core.specs.Seats.{due_of, called_for}
use Rattle.exchange_core.proofs.Notes.{length-waiting}
use Rattle.exchange_core.proofs.Rows.{nonempty}

-- notes wait in a part of the row exactly if the list of messages that the notes stand for is not empty
pub waits : {X : Type 0} (f : ℕ → X) (notes : List ℕ) (part : Part) → nat_lt 0 part.len ≡ not (is_nil (map f (waiting_in notes part)))
waits f notes part = ap (λ (n : ℕ). nat_lt 0 n) (sym (length-map (waiting_in notes part) f ∙ length-waiting notes part)) ∙ nonempty (map f (waiting_in notes part))

-- an answer is due exactly if there is a first due answer
pub owes : (first second : Option Answered) → is_some first ≡ not (is_nil (due_of first second))
owes None second = refl
owes (Some first) None = refl
owes (Some first) (Some second) = refl

-- every offer needs at least one answer
pub calls : (better : Bool) (held : Option ℕ) (p : ℕ) → true ≡ not (is_nil (called_for better held p))
calls true held p = refl
calls false held p = refl

module _ {X Y : Type 0} (test : Y → Bool) (f : X → Y) (seats : List X) (i n : ℕ) (seat : X) (h : i < length seats) (is : seat ≡ get_or seats i seat) (counted : n ≡ count_by test (map f seats)) where
  shown : get_or (map f seats) i (f seat) ≡ f seat
  shown = get_or-map f seats i seat (f seat) h ∙ ap f (sym is)

  -- if a desk passes the test, the count of such desks is above 0
  pub counted_one : (b : Bool) → b ≡ test (f seat) → b ≡ true → 0 < n
  counted_one b same passes =
      let yes = count_by_more_yes test (map f seats) i (f seat) (omega (arith, h, length-map seats f)) (ap test shown ∙ sym same ∙ passes) in
      omega (arith, counted, yes, sum_by-take-le (λ y. cond (test y) 1 0) (map f seats) (i + 1))

  -- if one desk's state is replaced and the desk is counted again, the count is right for the new
  -- states
  pub counted_anew : (rows : List Y) (y : Y) (m : ℕ) (was now : Bool) → rows ≡ slice_set (map f seats) i y → was ≡ test (f seat) → now ≡ test y → m + cond was 1 0 ≡ n + cond now 1 0 → m ≡ count_by test rows
  counted_anew rows y m was now changed before after recounted =
      let set = sum_by-set (λ z. cond (test z) 1 0) (map f seats) i y (f seat) (omega (arith, h, length-map seats f)) in
      omega (arith, recounted, counted, set, ap (λ (b : Bool). cond {A = ℕ} b 1 0) before, ap (λ (b : Bool). cond {A = ℕ} b 1 0) after, ap (λ (z : Y). cond {A = ℕ} (test z) 1 0) shown, ap (λ (ys : List Y). count_by test ys) changed)

  -- if one seat is replaced and counted again, and no note changes, the count is right for the new seats
  pub counted_set : (new : X) (m : ℕ) (was now : Bool) → was ≡ test (f seat) → now ≡ test (f new) → m + cond was 1 0 ≡ n + cond now 1 0 → m ≡ count_by test (map f (slice_set seats i new))
  counted_set new m was now before after recounted = counted_anew (map f (slice_set seats i new)) (f new) m was now (map-set f seats i new) before after recounted
