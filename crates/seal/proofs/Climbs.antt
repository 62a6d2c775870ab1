-- Why the path that is made for a hash climbs to the root: each step of the climb reaches the parent.
use Rattle.std.proofs.Common.{◌≡◌, ℕ, zero, suc, ◌+◌, ◌-◌, ◌/◌, ◌%◌, ◌≤◌, true, false, nat_lt, List, [], ◌∷◌, length, slice_get, Some, None, arith, refl, subst, inl, inr}
use Rattle.std.proofs.lemmas.Option.{slice_get_within, slice_get_cases}
use Rattle.std.proofs.lemmas.Bool.{lt-ltb, le-ltb}
use Rattle.std.proofs.lemmas.Bool.Decides.{eqb_tells}
use Rattle.seal.specs.Hashes.{node}
use Rattle.seal.specs.Tree.{pair_up, levels_up, top, Left, Right, side, sides_from, climb_by, sibling, path_from}
use Rattle.seal.specs.SealLaws.{CompleteLaw}
use Rattle.seal.proofs.Parents.{twice, twice_is, length-pair_up, parent_of_pair, parent_of_last}

-- the parent of the node at place i stands at half this place; the parent is the hash over the node and its sibling,
-- or the node itself if it has no sibling
data Parent (hs : List (List ℕ)) (i : ℕ) (h : List ℕ) : Type 0 where
  on_left : (l : List ℕ) → side i (length hs) ≡ Some Left → sibling i hs ≡ Some l → slice_get (pair_up hs) (i / 2) ≡ Some (node l h) → Parent hs i h
  on_right : (r : List ℕ) → side i (length hs) ≡ Some Right → sibling i hs ≡ Some r → slice_get (pair_up hs) (i / 2) ≡ Some (node h r) → Parent hs i h
  nowhere : side i (length hs) ≡ None → sibling i hs ≡ None → slice_get (pair_up hs) (i / 2) ≡ Some h → Parent hs i h

parent : (hs : List (List ℕ)) (i : ℕ) (h : List ℕ) → slice_get hs i ≡ Some h → Parent hs i h
parent hs i h e = elim (eqb_tells (i % 2) 1) [
  | inl odd ↦
      let place : i ≡ suc (twice (i / 2)) = omega (arith, odd.1, twice_is (i / 2)) in
      let before : i - 1 ≡ twice (i / 2) = omega arith in
      let own : slice_get hs (suc (twice (i / 2))) ≡ Some h = subst (λ z. slice_get hs z ≡ Some h) place e in
      elim (slice_get_cases hs (twice (i / 2))).1 [
        | inl found ↦ on_left found.0 (rw odd.0 refl) (rw (odd.0, before) found.2) (parent_of_pair (i / 2) hs found.0 h found.2 own)
        | inr past ↦ absurd (let w = slice_get_within hs i h e in omega (arith, past.0))
      ]
  | inr even ↦
      let place : i ≡ twice (i / 2) = omega (arith, even.1, twice_is (i / 2)) in
      let after : i + 1 ≡ suc (twice (i / 2)) = omega arith in
      let own : slice_get hs (twice (i / 2)) ≡ Some h = subst (λ z. slice_get hs z ≡ Some h) place e in
      elim (slice_get_cases hs (suc (twice (i / 2)))).1 [
        | inl found ↦
            let within : nat_lt (i + 1) (length hs) ≡ true = lt-ltb (i + 1) (length hs) (omega (arith, found.1)) in
            on_right found.0 (rw (even.0, within) refl) (rw (even.0, after) found.2) (parent_of_pair (i / 2) hs h found.0 own found.2)
        | inr past ↦
            let last : nat_lt (i + 1) (length hs) ≡ false = le-ltb (i + 1) (length hs) (omega (arith, past.0)) in
            nowhere (rw (even.0, last) refl) (rw (even.0, after) past.1) (parent_of_last (i / 2) hs h own past.1)
      ]
]

-- if the path of each parent climbs to the top of the level above, the path of a node climbs to the same top
climb_on : (levels i : ℕ) (hs : List (List ℕ)) (h : List ℕ) →
    ((k : List ℕ) → slice_get (pair_up hs) (i / 2) ≡ Some k →
    climb_by (sides_from levels (i / 2) (length (pair_up hs))) k (path_from levels (i / 2) (pair_up hs)) ≡ Some (top (levels_up levels (pair_up hs)))) →
    Parent hs i h →
    climb_by (sides_from (suc levels) i (length hs)) h (path_from (suc levels) i hs) ≡ Some (top (levels_up (suc levels) hs))
climb_on levels i hs h next (on_left x a b f) = rw (a, b, ← length-pair_up hs) (next (node x h) f)
climb_on levels i hs h next (on_right x a b f) = rw (a, b, ← length-pair_up hs) (next (node h x) f)
climb_on levels i hs h next (nowhere a b f) = rw (a, b, ← length-pair_up hs) (next h f)

pub climbs : (levels i : ℕ) (hs : List (List ℕ)) (h : List ℕ) → slice_get hs i ≡ Some h → length hs ≤ suc levels →
    climb_by (sides_from levels i (length hs)) h (path_from levels i hs) ≡ Some (top (levels_up levels hs))
climbs zero i [] h e l = absurd cc
climbs zero zero (x ∷ hs) h e l = cc
climbs zero (suc i) (x ∷ hs) h e l = absurd (let w = slice_get_within (x ∷ hs) (suc i) h e in omega arith)
climbs (suc levels) i hs h e l =
    climb_on levels i hs h (λ k f. climbs levels (i / 2) (pair_up hs) k f (let w = length-pair_up hs in omega arith)) (parent hs i h e)

pub complete : CompleteLaw
complete hs i h e =
    let within : nat_lt i (length hs) ≡ true = lt-ltb i (length hs) (slice_get_within hs i h e) in
    rw within (climbs (length hs) i hs h e (omega arith))
