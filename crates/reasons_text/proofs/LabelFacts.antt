-- Who has a name, and which members are shown with a label.
use Rattle.std.proofs.Common.{◌≡◌, ◌≢◌, ◌∙◌, ◌<◌, ◌≤◌, ◌+◌, inl, inr, ℕ, Bool, true, false, List, [], ◌∷◌, ◌++◌, length, get_or, eq-eqb, Option, Some, refl, sym, ap, subst, arith, rules}
use Rattle.std.proofs.lemmas.List.{length-append}
use Rattle.std.specs.Prelude.{◌||◌, ◌==◌, if◌then◌else◌, unwrap_or, map}
use Rattle.std.specs.Borrow.{Bor}
use Rattle.std.specs.HashMap.{HashMap}
use Rattle.std.specs.List.{range_with_len}
use Rattle.std.specs.Str.{bytes_eq}
use Rattle.std.proofs.lemmas.List.FromFn.{get_or-map-range_with_len, length-map-range_with_len}
use Rattle.std.proofs.lemmas.Bool.{cases_Bool, eqb-true, ne_eqb}
use Rattle.std.proofs.lemmas.Slice.Eq.{bytes_eq-Decides}
use Rattle.docket.specs.Contents.{Contents}
use Rattle.reasons_text.specs.Keys.{AreLabelsBelow, IsLabel, IsShared}
use Rattle.reasons_text.specs.Naming.{IsMeantBelow, SideNames, also_of, is_by_key, is_meant, label_of, member_count, text_at}
use Rattle.reasons_text.specs.Numbers.{AreFull, IsOwner, Notes, full_label, label_if, label_where, owner_in, owner_with}
use Rattle.reasons_text.specs.declared.names.Meant.{Meant}
use Rattle.reasons_text.specs.declared.names.Meant.TheVariants.{Nobody, One, Several}
use Rattle.reasons_text.specs.declared.side.Side.{Side}
use Rattle.match_model.proofs.Prefixes.{slice_get_push_parts}
use Rattle.reasons_text.proofs.MeantFacts.{meant_also, meant_skip}

no_both : {b : Bool} → b ≡ true → b ≡ false → ⊥
no_both one other = search rules

owner_same : (r n : ℕ) → (r == n) ≡ true → owner_with (One r) n ≡ One r
owner_same r n is = rw is refl

owner_apart : (r n : ℕ) → (r == n) ≡ false → owner_with (One r) n ≡ Several
owner_apart r n not = rw not refl

-- member n was not counted among the members below n, so it is counted as a further member
owner_also : (test : ℕ → Bool) (n : ℕ) (owner : Meant) → IsMeantBelow test n owner → owner_with owner n ≡ also_of owner n
owner_also test n Nobody h = refl
owner_also test n (One r) h = let lt = h.0 in owner_apart r n (ne_eqb r n (λ same. absurd (omega (arith, lt, same))))
owner_also test n Several h = refl

-- the members among the first n + 1 who have a name: those among the first n, and member n if it
-- has the name
pub owner_more : (test : ℕ → Bool) (n : ℕ) (owner : Meant) → IsMeantBelow test n owner
    → IsMeantBelow test (n + 1) (if test n then owner_with owner n else owner)
owner_more test n owner h = elim (cases_Bool (test n)) [
  | inl has ↦ rw (has, owner_also test n owner h) (meant_also test n owner h has)
  | inr not ↦ rw not (meant_skip test n owner h not)
]

-- a member that is noted twice for a name counts once
owner_twice : (owner : Meant) (n : ℕ) → owner_with (owner_with owner n) n ≡ owner_with owner n
owner_twice Nobody n = owner_same n n (eq-eqb n n refl)
owner_twice (One r) n = elim (cases_Bool (r == n)) [
  | inl is ↦ ap (λ (o : Meant). owner_with o n) (owner_same r n is)
  | inr not ↦ ap (λ (o : Meant). owner_with o n) (owner_apart r n not) ∙ sym (owner_apart r n not)
]
owner_twice Several n = refl

two_notes : (a b : Bool) (old mid new : Meant) (n : ℕ) → mid ≡ (if a then owner_with old n else old) → new ≡ (if b then owner_with mid n else mid)
    → new ≡ (if a || b then owner_with old n else old)
two_notes true true old mid new n h k = k ∙ rw h (owner_twice old n)
two_notes true false old mid new n h k = k ∙ h
two_notes false true old mid new n h k = k ∙ rw h refl
two_notes false false old mid new n h k = k ∙ h

-- if member n was noted for the names that pass a first test, and then for the names that pass a
-- second test, it was noted for the names that pass either test
pub both_noted : {S : Type 0} (old mid new : HashMap (Bor (List ℕ)) Meant S) (a b : List ℕ → Bool) (n : ℕ) → Notes old mid a n → Notes mid new b n → Notes old new (λ text. a text || b text) n
both_noted old mid new a b n h k text = two_notes (a text) (b text) (owner_in old text) (owner_in mid text) (owner_in new text) n (h text) (k text)

-- if no text passes the test, member n was noted for no text
pub none_noted : {S : Type 0} (owners : HashMap (Bor (List ℕ)) Meant S) (test : List ℕ → Bool) (n : ℕ) → ((text : List ℕ) → test text ≡ false) → Notes owners owners test n
none_noted owners test n none text = rw (none text) refl

-- the name in a member's row of the key means this member
row_name : (d : Contents) (side : Side) (read : SideNames) (name : List ℕ) (n : ℕ) → text_at read.names n ≡ Some name → is_meant d side read name n ≡ true
unfolding is_meant is_by_key
row_name d side read name n is = rw (is, (bytes_eq-Decides name name).1 refl) (either _)
  where
    either : (a : Bool) → (a || true) ≡ true
    either true = refl
    either false = refl

-- if two different members pass a test, a member other than n passes it
other_of_two : (test : ℕ → Bool) (n : ℕ) (a b : ℕ) → a < b → test a ≡ true → test b ≡ true → (k : ℕ) × ((k ≢ n) × (test k ≡ true))
other_of_two test n a b lt one other = elim (cases_Bool (a == n)) [
  | inl is ↦ (b, ((λ same. absurd (omega (arith, lt, same, eqb-true a n is))), other))
  | inr not ↦ (a, ((λ same. absurd (no_both (eq-eqb a n same) not)), one))
]

module _ (d : Contents) (side : Side) (read : SideNames) (n : ℕ) where
  -- a label is shown exactly if the name was noted for several members
  shown_where : (name sign : List ℕ) (owner : Meant) → IsOwner d side read name owner → text_at read.names n ≡ Some name
      → IsShared d side read name n → label_where owner name sign ≡ label_of name sign
  shown_where name sign Several h own shared = refl
  shown_where name sign (One r) h own shared =
      let mine = row_name d side read name n own in
      let here = h.is.1.1 n (h.all n mine) mine in
      let there = h.is.1.1 shared.0 (h.all shared.0 shared.1.1) shared.1.1 in
      absurd (shared.1.0 (there ∙ sym here))
  shown_where name sign Nobody h own shared = let mine = row_name d side read name n own in absurd (no_both mine (h.is n (h.all n mine)))

  hidden_where : (name sign : List ℕ) (owner : Meant) → IsOwner d side read name owner → (IsShared d side read name n → ⊥)
      → label_where owner name sign ≡ []
  hidden_where name sign Several h alone =
      absurd (alone (other_of_two (is_meant d side read name) n h.is.0 h.is.1.0 h.is.1.1.0 h.is.1.1.1.1.0 h.is.1.1.1.1.1))
  hidden_where name sign (One r) h alone = refl
  hidden_where name sign Nobody h alone = refl

  -- the label that is made from the map of names is the label by definition
  pub is_label : (owner : List ℕ → Meant) (label : List ℕ) → ((name : List ℕ) → IsOwner d side read name (owner name))
      → label ≡ label_if owner (text_at read.names n) (unwrap_or (text_at read.signs n) []) → IsLabel d side read n label
  is_label owner label owners is = record {
    shared = λ name own shared. is ∙ rw own (shown_where name _ (owner name) (owners name) own shared);
    alone = λ name own alone. is ∙ rw own (hidden_where name _ (owner name) (owners name) alone);
    nameless = λ none. is ∙ rw none refl;
  }

-- before the first member there are no labels
pub labels_none : (d : Contents) (side : Side) (read : SideNames) → AreLabelsBelow d side read 0 []
labels_none d side read = record { each = refl; label = λ n label at. absurd (cc at) }

pub labels_more : (d : Contents) (side : Side) (read : SideNames) (count : ℕ) (labels : List (List ℕ)) (label : List ℕ)
    → AreLabelsBelow d side read count labels → IsLabel d side read count label → AreLabelsBelow d side read (count + 1) (labels ++ label ∷ [])
labels_more d side read count labels label h new = record {
  each = length-append labels (label ∷ []) ∙ ap (λ n. n + 1) h.each;
  label = λ n other at. elim (slice_get_push_parts labels label n other at) [
    | inl old ↦ h.label n other old
    | inr (last, same) ↦
        let here : count ≡ n = sym h.each ∙ sym last in
        subst (λ (l : List ℕ). IsLabel d side read n l) same (subst (λ k. IsLabel d side read k label) here new)
  ];
}

-- if the map of names changes for one name only, it says the same as before about every other name
pub noted_one : (lookup now : List ℕ → Option Meant) (name : List ℕ) (n : ℕ) (owner : Meant) → owner ≡ owner_with (unwrap_or (lookup name) Nobody) n
    → ((text : List ℕ) → now text ≡ (if bytes_eq name text then Some owner else lookup text)) → (text : List ℕ)
    → unwrap_or (now text) Nobody ≡ (if bytes_eq name text then owner_with (unwrap_or (lookup text) Nobody) n else unwrap_or (lookup text) Nobody)
noted_one lookup now name n owner is put text = elim (cases_Bool (bytes_eq name text)) [
  | inl here ↦
      let same = (bytes_eq-Decides name text).0 here in
      rw (put text, here) (is ∙ ap (λ (t : List ℕ). owner_with (unwrap_or (lookup t) Nobody) n) same)
  | inr not ↦ rw (put text, not) refl
]

-- once the labels of all members and of all rows of the key were made, they are all labels of the
-- side
pub all_full : (d : Contents) (side : Side) (read : SideNames) (labels : List (List ℕ)) (n : ℕ) → member_count d side ≤ n → length read.names ≤ n
    → labels ≡ map (full_label read) (range_with_len 0 n) → AreFull d side read labels
all_full d side read labels n members rows are =
    let size : length labels ≡ n = ap length are ∙ length-map-range_with_len (full_label read) 0 n in
    record {
      members = omega (arith, size, members);
      rows = omega (arith, size, rows);
      are = λ k l. (let within : k < n = omega (arith, size, l) in ap (λ (t : List (List ℕ)). get_or t k []) are ∙ get_or-map-range_with_len (full_label read) 0 n k k [] within (let z : 0 + k ≡ k = omega arith in z));
    }
