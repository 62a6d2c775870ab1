-- The reason that is written for a choice is possible for this choice.
use Rattle.std.proofs.Common.{◌≡◌, ◌⊎◌, ℕ, zero, suc, ◌+◌, ◌<◌, ◌≤◌, ◌==◌, ◌&&◌, Bool, true, false, List, [], ◌∷◌, length, get_or, nat_lt, nat_le, Option, Some, None, refl, sym, ap, ◌∙◌, arith, subst, rules, inl, inr}
use Rattle.std.specs.Prelude.{codes, decimal, bytes_eq, if◌then◌else◌, ⊤}
use Rattle.std.proofs.lemmas.Bool.{cases_lt, lt-ltb, le-ltb, ne_eqb, eq-eqb}
use Rattle.match_model.specs.Ranking.{place, IsBefore, IsListed, HasNoRepeats}
use Rattle.settle_law.specs.Stable.{Prefers}
use Rattle.settle_law.proofs.Places.{get_or-place, place-get_or-le, IsListed-get_or}
use Rattle.match_reasons.specs.Pairs.{CanStandFor, IsPassed, IsPast}
use Rattle.match_reasons.specs.declared.reason.Why.{Why}
use Rattle.match_reasons.specs.declared.reason.Why.TheVariants.{Withdrawn, NotListed, NotRanked, Matched, PrefersOwn, Full, Blocking}
use Rattle.docket_names.specs.Words.{is_number, number_of}
use Rattle.reasons_text.specs.Lines.{from_one}
use Rattle.reasons_text.specs.Table.{last_field, quota_field, rank_field, rank_text, word}
use Rattle.receipt_check.specs.Rows.{Cells}
use Rattle.receipt_check.specs.Faults.{can_stand, if_written, is_bare, is_before, is_full, is_later, is_passed, plain_number, stand_of}
use Rattle.receipt_theorem.proofs.Numbers.{read_back}

-- the last four fields of the row of a choice with this reason
abbrev pub reason_fields : Why → Cells
reason_fields why = word why ∷ rank_field false why ∷ last_field false why ∷ quota_field why ∷ []

-- the three numbers of the reason `full` are small enough to be written and read back
abbrev pub HasPlaces : ℕ → Option ℕ → ℕ → Type 0
HasPlaces rank None quota = (quota ≡ 0) × (rank < 100000000)
HasPlaces rank (Some last) quota = (1 ≤ quota) × (quota ≤ last + 1) × (last < rank) × (rank < 100000000)

abbrev pub HasRoom : Why → Type 0
HasRoom (Full rank last quota) = HasPlaces rank last quota
HasRoom other = ⊤

pub no_number : plain_number [] ≡ None
unfolding plain_number number_of is_number
no_number = refl

-- a place below 100000000, counted from 1, is one more than the place counted from 0
pub next : (rank : ℕ) → rank < 100000000 → from_one rank ≡ rank + 1
next rank l = omega (arith, l)

full_stands : (rank : ℕ) (last : Option ℕ) (quota : ℕ) → HasPlaces rank last quota → is_full (reason_fields (Full rank last quota)) ≡ true
unfolding word rank_field last_field quota_field
full_stands rank None quota h =
    let some : nat_le 1 (rank + 1) ≡ true = search (rules, h) in
    rw (next rank h.1, read_back (rank + 1) (omega (arith, h.1)), no_number, h.0, read_back 0 (omega arith), some) refl
full_stands rank (Some last) quota h =
    let some : nat_le 1 quota ≡ true = search (rules, h.0) in
    let room : nat_le quota (last + 1) ≡ true = search (rules, h.1) in
    let before : nat_lt (last + 1) (rank + 1) ≡ true = lt-ltb (last + 1) (rank + 1) (omega (arith, h.2)) in
    let a = read_back (rank + 1) (omega (arith, h.3)) in
    let b = read_back (last + 1) (omega (arith, h.2, h.3)) in
    let c = read_back quota (omega (arith, h.1, h.2, h.3)) in
    rw (next rank h.3, next last (omega (arith, h.2, h.3)), a, b, c, some, room, before) refl

passed_stands : (why : Why) → IsPassed why → HasRoom why → is_passed (reason_fields why) ≡ true
unfolding word rank_field last_field quota_field
passed_stands Withdrawn h room = refl
passed_stands NotListed h room = absurd h
passed_stands NotRanked h room = refl
passed_stands Matched h room = absurd h
passed_stands (PrefersOwn own i k) h room = absurd h
passed_stands (Full rank last quota) h room = full_stands rank last quota room
passed_stands Blocking h room = absurd h

later_stands : (why : Why) → IsPast why → is_later (reason_fields why) ≡ true
unfolding word rank_field last_field quota_field
later_stands Withdrawn h = refl
later_stands NotListed h = absurd h
later_stands NotRanked h = refl
later_stands Matched h = absurd h
later_stands (PrefersOwn own i k) h = refl
later_stands (Full rank last quota) h = absurd h
later_stands Blocking h = absurd h

bare_withdrawn : is_bare (codes "withdrawn") (reason_fields Withdrawn) ≡ true
unfolding word rank_field last_field quota_field
bare_withdrawn = refl

bare_matched : is_bare (codes "matched") (reason_fields Matched) ≡ true
unfolding word rank_field last_field quota_field
bare_matched = refl

-- on a list without repeats, the place of the item at place k is k
pub place_there : (xs : List ℕ) (k : ℕ) → HasNoRepeats xs → k < length xs → place xs (get_or xs k 0) ≡ k
place_there xs k once l =
    let x = get_or xs k 0 in
    let le = place-get_or-le xs k 0 l in
    let there = get_or-place xs (get_or xs k 0) 0 (IsListed-get_or xs k 0 l) in
    elim (cases_lt (place xs (get_or xs k 0)) k) [
      | inl before ↦ absurd (once (place xs (get_or xs k 0)) k 0 before l there)
      | inr past ↦ omega arith
    ]

-- the reason for a choice is right for a receipt: it is `Withdrawn` if the resident is withdrawn,
-- it is possible for the choice, and its numbers are small
pub record IsRight (gone : Bool) (mine : List ℕ) (own : Option ℕ) (p : ℕ) (why : Why) : Type 0 where
  pub withdrawn : gone ≡ true → why ≡ Withdrawn
  pub stands : CanStandFor mine own p why
  pub room : HasRoom why

abbrev pub own_place : List ℕ → Option ℕ → Option ℕ
own_place mine None = None
own_place mine (Some q) = Some (place mine q)

pub reason_stands : (gone : Bool) (mine : List ℕ) (own : Option ℕ) (k : ℕ) (why : Why) → HasNoRepeats mine → k < length mine
    → ((q : ℕ) → own ≡ Some q → IsListed mine q) → IsRight gone mine own (get_or mine k 0) why
    → can_stand gone (stand_of (own_place mine own) k) (reason_fields why) ≡ true
reason_stands true mine own k why once l listed h = let it : why ≡ Withdrawn = h.withdrawn refl in rw it bare_withdrawn
reason_stands false mine None k why once l listed h = passed_stands why (h.stands.before tt (λ e. cc e)) h.room
reason_stands false mine (Some q) k why once l listed h =
    let p = get_or mine k 0 in
    let here = place_there mine k once l in
    elim (cases_lt k (place mine q)) [
      | inl before ↦
          let early : IsBefore mine (get_or mine k 0) q = omega (arith, here, before) in
          let other : Some q ≡ Some (get_or mine k 0) → ⊥ = λ e. (let same : q ≡ get_or mine k 0 = cc e in let at = ap (place mine) same in omega (arith, at, here, before)) in
          rw (lt-ltb k (place mine q) before) (passed_stands why (h.stands.before early other) h.room)
      | inr past ↦ elim (cases_lt (place mine q) k) [
        | inl after ↦
            let late : IsBefore mine q (get_or mine k 0) = omega (arith, here, after) in
            let apart : (k == place mine q) ≡ false = ne_eqb k (place mine q) (λ e. omega (arith, e, after)) in
            rw (le-ltb k (place mine q) past, apart) (later_stands why (h.stands.after q refl late))
        | inr both ↦
            let same : k ≡ place mine q = omega (arith, past, both) in
            let is_own : get_or mine k 0 ≡ q = ap (λ i. get_or mine i 0) same ∙ get_or-place mine q 0 (listed q refl) in
            let it : why ≡ Matched = h.stands.at (ap Some (sym is_own)) in
            rw (le-ltb k (place mine q) past, eq-eqb k (place mine q) same, it) bare_matched
      ]
    ]
