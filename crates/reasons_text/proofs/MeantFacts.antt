-- Whom a text means, among the first members of a side.
use Rattle.std.proofs.Common.{◌≡◌, ◌≤◌, ◌<◌, ◌+◌, ◌⊎◌, ℕ, Bool, true, false, inl, inr, List, length, refl, arith, rules}
use Rattle.std.specs.Prelude.{◌&&◌, ◌||◌, nat_lt}
use Rattle.std.proofs.lemmas.Bool.{cases_lt}
use Rattle.std.proofs.lemmas.Option.{slice_get_past}
use Rattle.std.proofs.lemmas.Slice.Eq.{bytes_eq-Decides}
use Rattle.docket.specs.Contents.{Contents}
use Rattle.reasons_text.specs.Naming.{IsMeantBelow, Naming, SideNames, also_of, docket_name, is_by_key, is_meant, means, member_count, names_in, no_names, text_at}
use Rattle.reasons_text.specs.declared.names.Meant.{Meant}
use Rattle.reasons_text.specs.declared.names.Meant.TheVariants.{Nobody, One, Several}
use Rattle.reasons_text.specs.declared.side.Side.{Side}

pub meant_none : (test : ℕ → Bool) → IsMeantBelow test 0 Nobody
meant_none test k h = absurd (omega (arith, h))

next_or : (k n : ℕ) → k < n + 1 → (k < n) ⊎ (k ≡ n)
next_or k n h = elim (cases_lt k n) [
  | inl below ↦ inl below
  | inr past ↦ inr (omega (arith, h, past))
]

no_both : {b : Bool} → b ≡ true → b ≡ false → ⊥
no_both one other = search rules

-- if a text does not mean member n, it means the same members below n + 1 as below n
pub meant_skip : (test : ℕ → Bool) (n : ℕ) (meant : Meant) → IsMeantBelow test n meant → test n ≡ false → IsMeantBelow test (n + 1) meant
meant_skip test n Nobody h unmet = λ k lt. elim (next_or k n lt) [
  | inl below ↦ h k below
  | inr here ↦ rw here unmet
]
meant_skip test n (One r) h unmet = (
  let lt = h.0 in omega (arith, lt),
  (
    h.1.0,
    λ k lt met. elim (next_or k n lt) [
      | inl below ↦ h.1.1 k below met
      | inr here ↦ absurd (no_both met (rw here unmet))
    ],
  ),
)
meant_skip test n Several h unmet = (h.0, (h.1.0, (h.1.1.0, (let lt = h.1.1.1.0 in omega (arith, lt), h.1.1.1.1))))

-- if a text means member n, it means, below n + 1, member n and the members that it means below n
pub meant_also : (test : ℕ → Bool) (n : ℕ) (meant : Meant) → IsMeantBelow test n meant → test n ≡ true → IsMeantBelow test (n + 1) (also_of meant n)
meant_also test n Nobody h met = (
  omega arith,
  (
    met,
    λ k lt also. elim (next_or k n lt) [
      | inl below ↦ absurd (no_both also (h k below))
      | inr here ↦ here
    ],
  ),
)
meant_also test n (One r) h met = (r, (n, (h.0, (omega arith, (h.1.0, met)))))
meant_also test n Several h met = (h.0, (h.1.0, (h.1.1.0, (let lt = h.1.1.1.0 in omega (arith, lt), h.1.1.1.1))))

not_below : (k n : ℕ) → n ≤ k → nat_lt k n ≡ false
not_below k n h = grind (arith, h)

-- a text means nobody at a number past the docket's members and the key's rows
unmeant : (d : Contents) (side : Side) (key : SideNames) (text : List ℕ) (k : ℕ) → member_count d side ≤ k → length key.names ≤ k → is_meant d side key text k ≡ false
unfolding is_meant text_at is_by_key
unmeant d side key text k count rows =
    let past = slice_get_past key.names k rows in
    let outside = not_below k (member_count d side) count in
    rw (past, outside) refl

pub meant_within : (d : Contents) (side : Side) (key : SideNames) (text : List ℕ) (n k : ℕ) → member_count d side ≤ n → length key.names ≤ n → is_meant d side key text k ≡ true → k < n
meant_within d side key text n k count rows met = elim (cases_lt k n) [
  | inl lt ↦ lt
  | inr past ↦ absurd (no_both met (unmeant d side key text k (omega (arith, count, past)) (omega (arith, rows, past))))
]

-- without a key, a text means only the member whose name in the docket it is
pub by_docket : (names : Naming) (side : Side) (text : List ℕ) (k : ℕ) → names_in names side ≡ no_names → means names side text k ≡ true
    → docket_name names.docket side k ≡ text
unfolding is_meant text_at is_by_key
by_docket names side text k none met = (bytes_eq-Decides (docket_name names.docket side k) text).0 (second _ _ (left_of _ (rw none at met)))
  where
    left_of : (a : Bool) → (a || false) ≡ true → a ≡ true
    left_of true h = refl
    left_of false h = h

    second : (a b : Bool) → (a && b) ≡ true → b ≡ true
    second true b h = h
    second false b h = search (rules, h)
