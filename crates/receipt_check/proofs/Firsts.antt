-- The first of several faults.
use Rattle.std.proofs.Common.{◌≡◌, ℕ, zero, suc, ◌+◌, ◌<◌, true, false, nat_lt, List, length, get_or, slice_get, bytes_eq, Option, Some, None, refl, sym, ap, ◌∙◌, arith, inl, inr}
use Rattle.std.specs.Option.{is_some}
use Rattle.std.specs.List.{position_or_len}
use Rattle.std.proofs.lemmas.Bool.{cases_lt, lt-ltb}
use Rattle.std.proofs.lemmas.List.Sums.{fails_before_first}
use Rattle.std.proofs.lemmas.Option.{slice_get_within, slice_get-get_or}
use Rattle.std.proofs.lemmas.Slice.Eq.{bytes_eq-Decides}
use Rattle.docket_names.specs.Texts.{number_in}
use Rattle.receipt_check.specs.Faults.{first_in}

-- if a function is none at all places below n and at n, it is none at all places below n + 1
pub first_next : {X : Type 0} (f : ℕ → Option X) (n : ℕ) → first_in f n ≡ None → f n ≡ None → first_in f (n + 1) ≡ None
first_next f n none next =
    let more : n + 1 ≡ suc n = omega arith in
    rw (more, none) next

-- if a function is none before place k, its value at k is the first value
pub first_here : {X : Type 0} (f : ℕ → Option X) (k n : ℕ) (x : X) → k < n → first_in f k ≡ None → f k ≡ Some x → first_in f n ≡ Some x
first_here f k zero x l none here = absurd (omega arith)
first_here f k (suc n) x l none here = elim (cases_lt k n) [
  | inl before ↦ rw (first_here f k n x before none here) refl
  | inr last ↦
      let same : k ≡ n = omega arith in
      rw (← same, none, here) refl
]

-- a text that isn't found among texts is at none of their places
pub not_there : (texts : List (List ℕ)) (n : ℕ) (text : List ℕ) → is_some (number_in texts text) ≡ false → slice_get texts n ≡ Some text → ⊥
unfolding number_in
not_there texts n text none there =
    let first = position_or_len (bytes_eq text) texts in
    let within : n < length texts = slice_get_within texts n text there in
    elim (cases_lt first (length texts)) [
      | inl l ↦ (let found : nat_lt first (length texts) ≡ true = lt-ltb first (length texts) l in let some = rw found at none in cc some)
      | inr past ↦
          let other : bytes_eq text (get_or texts n text) ≡ false = fails_before_first (bytes_eq text) texts n text (omega (arith, within, past)) in
          let here : Some (get_or texts n text) ≡ Some text = sym (slice_get-get_or texts n text within) ∙ there in
          let same : get_or texts n text ≡ text = cc here in
          let equal : bytes_eq text text ≡ true = (bytes_eq-Decides text text).1 refl in
          let not : bytes_eq text text ≡ false = ap (bytes_eq text) (sym same) ∙ other in
          cc (sym equal ∙ not)
    ]
