-- An answer in a resident's receipt as a reason in numbers, if the answer is possible for its choice and agrees with
-- the programme's receipt.
use Rattle.std.proofs.Common.{◌≡◌, ℕ, ◌+◌, ◌==◌, ◌&&◌, ◌||◌, Bool, true, false, List, [], ◌∷◌, length, nat_le, nat_lt, Option, Some, None, is_some, refl, sym, ap, ◌∙◌, arith, subst, inl, inr}
use Rattle.std.specs.Prelude.{bytes_eq, codes, not}
use Rattle.std.proofs.lemmas.Bool.{and_parts, cases_order, eqb-true, false_from_ne_true, le-ltb, lt-ltb, ltb-true, eq-eqb, ne_eqb, not-false, not-true, or_cases, or_left, or_right}
use Rattle.std.proofs.lemmas.Option.{same_Some}
use Rattle.match_model.specs.Instance.{Instance, is_withdrawn, quota, rank}
use Rattle.match_model.specs.Ranking.{IsBefore, IsListed, is_listed, place}
use Rattle.match_model.proofs.Listed.{same_from_place}
use Rattle.match_model.proofs.Rankings.{is_listed-false, is_listed-true, is_listed_from, is_listed_not}
use Rattle.match_reasons.specs.Pairs.{Agree, CanStandFor, Fits, IsLastOfMembers, IsLastTold, IsPassed, IsPast}
use Rattle.match_reasons.specs.Reason.{HasWithdrawn}
use Rattle.match_reasons.specs.declared.reason.Why.{Why}
use Rattle.match_reasons.specs.declared.reason.Why.TheVariants.{Withdrawn, NotRanked, Matched, PrefersOwn, Full}
use Rattle.docket_names.specs.Texts.{number_in}
use Rattle.docket_names.proofs.NameFacts.{same_bytes}
use Rattle.receipt_check.specs.Rows.{Cells, text_at}
use Rattle.receipt_check.specs.Receipt.{Receipt}
use Rattle.receipt_check.specs.Faults.{can_stand, is_bare, is_before, is_full, is_later, is_passed, plain_number, stand_of}
use Rattle.receipt_check.specs.Pair.{answer_difference, full_difference, has, is_gone, is_number, is_other, is_place, last_place, says}
use Rattle.receipt_check.specs.declared.difference.Difference.TheVariants as differs
use Rattle.receipt_check.proofs.GoodFacts.{if_none}
use Rattle.receipt_theorem.proofs.Ranked.{some_rank}
use Rattle.receipt_theorem.proofs.Reasons.{no_number, own_place}

-- Tests.

same_test : (a b : Bool) → is_other a b ≡ false → a ≡ b
same_test true b h = sym (not-false b h)
same_test false b h = sym h

pub number_written : (o : Option ℕ) (n : ℕ) → is_number o n ≡ true → o ≡ Some n
number_written None n h = cc h
number_written (Some m) n h = ap Some (eqb-true m n h)

-- if an answer is this word without numbers, its first field is this word
word_of : (word : List ℕ) (fields : Cells) → is_bare word fields ≡ true → text_at fields 0 ≡ word
word_of word fields h =
    let size = length fields == 4 in
    let first = bytes_eq (text_at fields 0) word in
    let one = length (text_at fields 1) == 0 in
    let two = length (text_at fields 2) == 0 in
    let c = and_parts (size && first && one && two) (length (text_at fields 3) == 0) h in
    let b = and_parts (size && first && one) two c.0 in
    same_bytes (text_at fields 0) word (and_parts size first (and_parts (size && first) one b.0).0).1

-- if the last rank in an answer is before rank k, the programme's last member stands before rank k; if there is
-- no member, the number of places q is 0
last_before : (last : Option ℕ) (digits : List ℕ) (k q : ℕ) → is_place digits last ≡ true
    → is_before (Some (k + 1)) digits (plain_number digits) (Some q) ≡ true → IsLastTold k last q
last_before None [] k q h e = eqb-true q 0 (and_parts (q == 0) (nat_le 1 (k + 1)) (rw no_number at e)).0
last_before None (c ∷ rest) k q h e = absurd (omega (arith, eqb-true (length (c ∷ rest)) 0 h))
last_before (Some l) digits k q h e =
    let written = rw (number_written (plain_number digits) (l + 1) h) at e in
    let less = ltb-true (l + 1) (k + 1) (and_parts (nat_le 1 q && nat_le q (l + 1)) (nat_lt (l + 1) (k + 1)) written).1 in
    omega (arith, less)

-- Answers.

-- the receipts a of resident r and b of programme p say the same of the two as these numbers
pub record ArePair (inst : Instance) (theirs members : List ℕ) (r p : ℕ) (a b : Receipt) : Type 0 where
  pub gone : is_gone a b ≡ (is_withdrawn inst.residents_withdrawn r || is_withdrawn inst.programmes_withdrawn p)
  pub has_is : has b a ≡ is_listed members r
  pub rank_is : number_in b.list a.name ≡ rank theirs r
  pub last_is : IsLastOfMembers theirs members (last_place b)
  pub quota_is : plain_number b.quota ≡ Some (quota inst p)
  pub filled : length b.after ≡ length members

-- an answer with this word agrees with three facts: whether one of the two is withdrawn, whether the
-- programme lists the resident, and whether the resident is its member
record Says (gone listed member : Bool) (word : List ℕ) : Type 0 where
  withdrawn : bytes_eq word (codes "withdrawn") ≡ gone
  unranked : gone ≡ false → bytes_eq word (codes "unranked") ≡ not listed
  matched : bytes_eq word (codes "matched") ≡ member

module _ (inst : Instance) (mine theirs members : List ℕ) (r p : ℕ) (a b : Receipt) (pair : ArePair inst theirs members r p a b)
    (on : IsListed mine p) (fields : Cells) (agreed : answer_difference fields (number_in b.list a.name) a b ≡ None) where
  abbrev gone_r : Bool
  gone_r = is_withdrawn inst.residents_withdrawn r

  abbrev gone_p : Bool
  gone_p = is_withdrawn inst.programmes_withdrawn p

  abbrev Told : List ℕ → Type 0
  Told word = Says (gone_r || gone_p) (is_listed theirs r) (is_listed members r) word

  -- a reason that agrees with the two receipts and has this property
  abbrev pub Reason : (Why → Type 0) → Type 0
  Reason IsSo = (why : Why) × IsSo why × Agree inst mine theirs members r p why

  -- the receipts agree about the answer's word, and about its numbers if the word is `full`
  tests : Told (text_at fields 0) × (says fields (codes "full") ≡ true → full_difference fields (rank theirs r) b ≡ None)
  tests =
      let u = says fields (codes "unranked") in
      let ranked = rw pair.rank_is at agreed in
      let x = if_none (is_other (says fields (codes "withdrawn")) (is_gone a b)) differs.Withdrawn _ ranked in
      let y = if_none (not (is_gone a b) && is_other u (not (is_some (rank theirs r)))) differs.Unranked _ x.1 in
      let z = if_none (is_other (says fields (codes "matched")) (has b a)) differs.Matched _ y.1 in (
        record {
          withdrawn = same_test (says fields (codes "withdrawn")) (is_gone a b) x.0 ∙ pair.gone;
          unranked = λ g. (
              let stays : is_gone a b ≡ false = pair.gone ∙ g in
              same_test u (not (is_some (rank theirs r))) (rw stays at y.0) ∙ ap not (some_rank theirs r));
          matched = same_test (says fields (codes "matched")) (has b a) z.0 ∙ pair.has_is;
        },
        λ f. rw f at z.1,
      )

  -- if the answer has this word, the two receipts agree about the word
  told : (word : List ℕ) → text_at fields 0 ≡ word → Told word
  told word e = subst (λ (w : List ℕ). Told w) e tests.0

  -- the reason has this word, as far as the words `withdrawn`, `unranked` and `matched` go
  abbrev IsOf : Why → List ℕ → Type 0
  IsOf why word =
      (bytes_eq word (codes "withdrawn") ≡ true → why ≡ Withdrawn) × (bytes_eq word (codes "unranked") ≡ true → why ≡ NotRanked)
      × (bytes_eq word (codes "matched") ≡ true → why ≡ Matched)

  -- a reason with the answer's word agrees with the two receipts if it fits the programme's receipt
  agree : (why : Why) (word : List ℕ) → Told word → Fits inst theirs members r p why → IsOf why word → Agree inst mine theirs members r p why
  agree why word h fits is = record {
    fits = λ l. fits;
    withdrawn = λ l g. is.0 (h.withdrawn ∙ so g);
    unranked = λ l n g. (
        let stays = false_from_ne_true (gone_r || gone_p) (λ t. g (or_cases gone_r gone_p t)) in
        is.1 (h.unranked stays ∙ ap not (is_listed_not theirs r n)));
    member = λ l. (on, is.2 (h.matched ∙ is_listed_from members r l));
  }
    where
      so : HasWithdrawn inst r p → (gone_r || gone_p) ≡ true
      so (inl t) = or_left gone_r gone_p t
      so (inr t) = or_right gone_r gone_p t

  -- if the answer is the word `withdrawn` alone, the reason `Withdrawn` agrees with the two
  -- receipts
  withdrawn : is_bare (codes "withdrawn") fields ≡ true → Agree inst mine theirs members r p Withdrawn
  withdrawn e =
      let h = told (codes "withdrawn") (word_of (codes "withdrawn") fields e) in
      agree Withdrawn (codes "withdrawn") h (or_cases gone_r gone_p (sym h.withdrawn)) (λ t. refl, λ t. cc t, λ t. cc t)

  unranked : is_bare (codes "unranked") fields ≡ true → Agree inst mine theirs members r p NotRanked
  unranked e =
      let h = told (codes "unranked") (word_of (codes "unranked") fields e) in
      let off : is_listed theirs r ≡ false = not-true (is_listed theirs r) (sym (h.unranked (sym h.withdrawn))) in
      agree NotRanked (codes "unranked") h (is_listed-false theirs r off) (λ t. cc t, λ t. refl, λ t. cc t)

  matched : is_bare (codes "matched") fields ≡ true → Agree inst mine theirs members r p Matched
  matched e =
      let h = told (codes "matched") (word_of (codes "matched") fields e) in
      agree Matched (codes "matched") h (is_listed-true members r (sym h.matched)) (λ t. cc t, λ t. cc t, λ t. refl)

  better : is_bare (codes "better") fields ≡ true → Agree inst mine theirs members r p (PrefersOwn 0 0 0)
  better e =
      let h = told (codes "better") (word_of (codes "better") fields e) in
      agree (PrefersOwn 0 0 0) (codes "better") h tt (λ t. cc t, λ t. cc t, λ t. cc t)

  -- if the answer is `full`, a reason `Full` agrees with the two receipts, with the numbers of the
  -- programme's receipt
  full : is_full fields ≡ true → Reason IsPassed
  full e =
      let k = place theirs r in
      let q = quota inst p in
      let parts = and_parts ((length fields == 4) && bytes_eq (text_at fields 0) (codes "full"))
      (is_before (plain_number (text_at fields 1)) (text_at fields 2) (plain_number (text_at fields 2)) (plain_number (text_at fields 3))) e in
      let word = (and_parts (length fields == 4) (bytes_eq (text_at fields 0) (codes "full")) parts.0).1 in
      let h = told (codes "full") (same_bytes (text_at fields 0) (codes "full") word) in
      let listed : is_listed theirs r ≡ true = not-false (is_listed theirs r) (sym (h.unranked (sym h.withdrawn))) in
      let ranked : rank theirs r ≡ Some k = rw listed refl in
      let u = if_none (not (is_place (text_at fields 1) (rank theirs r))) differs.Rank _ (tests.1 word) in
      let x = if_none (not (bytes_eq (text_at fields 3) b.quota)) differs.Quota _ u.1 in
      let y = if_none (not (is_number (plain_number b.quota) (length b.after))) differs.Filled _ x.1 in
      let z = if_none (not (is_place (text_at fields 2) (last_place b))) differs.Last None y.1 in
      let first : plain_number (text_at fields 1) ≡ Some (k + 1) =
      number_written (plain_number (text_at fields 1)) (k + 1) (ap (is_place (text_at fields 1)) (sym ranked) ∙ not-false _ u.0) in
      let third : plain_number (text_at fields 3) ≡ Some q =
      ap plain_number (same_bytes (text_at fields 3) b.quota (not-false _ x.0)) ∙ pair.quota_is in
      let all : Some (length b.after) ≡ Some q = sym (number_written (plain_number b.quota) (length b.after) (not-false _ y.0)) ∙ pair.quota_is in
      let filled : length members ≡ q = sym pair.filled ∙ same_Some (length b.after) q all in (
        Full k (last_place b) q,
        last_before (last_place b) (text_at fields 2) k q (not-false _ z.0) (rw (first, third) at parts.1),
        agree (Full k (last_place b) q) (codes "full") h (record { ranked = ranked; last_is = pair.last_is; quota_is = refl; all_filled = filled })
            (λ t. cc t, λ t. cc t, λ t. cc t),
      )

  -- if the answer is possible before the resident's own programme, some reason that is possible there agrees with the
  -- two receipts
  passed : is_passed fields ≡ true → Reason IsPassed
  passed e = elim (or_cases (is_bare (codes "withdrawn") fields || is_bare (codes "unranked") fields) (is_full fields) e) [
    | inl bare ↦ elim (or_cases (is_bare (codes "withdrawn") fields) (is_bare (codes "unranked") fields) bare) [
      | inl x ↦ (Withdrawn, tt, withdrawn x)
      | inr y ↦ (NotRanked, tt, unranked y)
    ]
    | inr z ↦ full z
  ]

  -- if the answer can follow the resident's own programme, some reason that can also follow it agrees
  -- with the receipts
  past : is_later fields ≡ true → Reason IsPast
  past e = elim (or_cases (is_bare (codes "better") fields || is_bare (codes "unranked") fields) (is_bare (codes "withdrawn") fields) e) [
    | inl bare ↦ elim (or_cases (is_bare (codes "better") fields) (is_bare (codes "unranked") fields) bare) [
      | inl x ↦ (PrefersOwn 0 0 0, tt, better x)
      | inr y ↦ (NotRanked, tt, unranked y)
    ]
    | inr z ↦ (Withdrawn, tt, withdrawn z)
  ]

  -- if the answer is possible for its choice, some reason that is possible for this choice agrees with
  -- the two receipts
  pub answered : (own : Option ℕ) → can_stand false (stand_of (own_place mine own) (place mine p)) fields ≡ true → Reason (CanStandFor mine own p)
  answered None e = let h = passed e in (h.0, record { at = λ f. cc f; before = λ b n. h.1; after = λ q f b. cc f }, h.2)
  answered (Some q) e = elim (cases_order (place mine p) (place mine q)) [
    | inl same ↦
        let own : Some q ≡ Some p = ap Some (sym (same_from_place mine p q on same)) in (
          Matched,
          record { at = λ f. refl; before = λ b n. absurd (n own); after = λ o f b. (let e = there q o f in absurd (omega (arith, e, same, b))) },
          matched (rw (le-ltb (place mine p) (place mine q) (omega (arith, same)), eq-eqb (place mine p) (place mine q) same) at e),
        )
    | inr (inl first) ↦
        let h = passed (rw (lt-ltb (place mine p) (place mine q) first) at e) in
        let never : Some q ≡ Some p → ⊥ = λ f. (let e = there q p f in omega (arith, e, first)) in
        let early : (o : ℕ) → Some q ≡ Some o → IsBefore mine o p → ⊥ = λ o f b. (let e = there q o f in omega (arith, e, first, b)) in
        (h.0, record { at = λ f. absurd (never f); before = λ b n. h.1; after = λ o f b. absurd (early o f b) }, h.2)
    | inr (inr last) ↦
        let apart : (place mine p == place mine q) ≡ false = ne_eqb (place mine p) (place mine q) (λ f. omega (arith, f, last)) in
        let h = past (rw (le-ltb (place mine p) (place mine q) (omega (arith, last)), apart) at e) in
        let never : Some q ≡ Some p → ⊥ = λ f. (let e = there q p f in omega (arith, e, last)) in
        (h.0, record { at = λ f. absurd (never f); before = λ b n. absurd (omega (arith, b, last)); after = λ o f b. h.1 }, h.2)
  ]
    where
      there : (x y : ℕ) → Some x ≡ Some y → place mine x ≡ place mine y
      there x y f = ap (place mine) (same_Some x y f)
