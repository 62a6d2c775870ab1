-- The number of the first member with a name, after one more member.
use Rattle.std.proofs.Common.{add-one, ◌≡◌, ◌∙◌, ◌+◌, inl, inr, ℕ, true, false, List, Option, Some, None, refl, sym}
use Rattle.std.specs.Prelude.{if◌then◌else◌, is_some}
use Rattle.std.specs.Option.{option_or}
use Rattle.std.specs.Str.{bytes_eq}
use Rattle.std.proofs.lemmas.Bool.{cases_Bool}
use Rattle.std.proofs.lemmas.Slice.Eq.{bytes_eq-Decides}
use Rattle.docket.specs.Contents.{Contents}
use Rattle.reasons_text.specs.Keys.{first_named}
use Rattle.reasons_text.specs.Naming.{docket_name}
use Rattle.reasons_text.specs.declared.side.Side.{Side}

or_nothing : (a : Option ℕ) → option_or a None ≡ a
or_nothing None = refl
or_nothing (Some x) = refl

none_is : (a : Option ℕ) → is_some a ≡ false → a ≡ None
none_is None h = refl
none_is (Some x) h = absurd (cc h)

some_stays : (a b : Option ℕ) → is_some a ≡ true → option_or a b ≡ a
some_stays None b h = absurd (cc h)
some_stays (Some x) b h = refl

-- if text a equals text b, then b equals a
same_both : (a b : List ℕ) → bytes_eq a b ≡ true → bytes_eq b a ≡ true
same_both a b h = let same = (bytes_eq-Decides a b).0 h in rw same (rw same at h)

other_both : (a b : List ℕ) → bytes_eq a b ≡ false → bytes_eq b a ≡ false
other_both a b h = elim (cases_Bool (bytes_eq b a)) [
  | inl is ↦ absurd (cc (same_both b a is, h))
  | inr not ↦ not
]

module _ (lookup : List ℕ → Option ℕ) (name : List ℕ) (n : ℕ) where
  -- if the name already has a number, the map stays as it is
  pub put_kept : is_some (lookup name) ≡ true → (text : List ℕ) → lookup text ≡ option_or (lookup text) (if bytes_eq text name then Some n else None)
  put_kept has text = elim (cases_Bool (bytes_eq text name)) [
    | inl is ↦ let same = (bytes_eq-Decides text name).0 is in rw is (sym (some_stays (lookup text) (Some n) (rw same has)))
    | inr not ↦ rw not (sym (or_nothing (lookup text)))
  ]

  -- if the name has no number, the map gives this number for the name
  pub put_new : (now : List ℕ → Option ℕ) → is_some (lookup name) ≡ false → ((text : List ℕ) → now text ≡ (if bytes_eq name text then Some n else lookup text))
      → (text : List ℕ) → now text ≡ option_or (lookup text) (if bytes_eq text name then Some n else None)
  put_new now free put text = elim (cases_Bool (bytes_eq name text)) [
    | inl is ↦
        let same = (bytes_eq-Decides name text).0 is in
        let none : lookup text ≡ None = rw (← same) (none_is (lookup name) free) in
        put text ∙ rw (is, none, same_both name text is) refl
    | inr not ↦ put text ∙ rw (not, other_both name text not) (sym (or_nothing (lookup text)))
  ]

-- the first of n + 1 members with a name is the first of n members with it, or else member n, if
-- member n has the name
pub number_more : (d : Contents) (side : Side) (n : ℕ) (own : List ℕ) (lookup now : List ℕ → Option ℕ) → own ≡ docket_name d side n
    → ((name : List ℕ) → lookup name ≡ first_named d side name n)
    → ((name : List ℕ) → now name ≡ option_or (lookup name) (if bytes_eq name own then Some n else None)) → (name : List ℕ) → now name ≡ first_named d side name (n + 1)
unfolding first_named
number_more d side n own lookup now is was put name = put name ∙ rw (add-one, was name, is) refl

-- among no members, no member has the name
pub numbers_none : (d : Contents) (side : Side) (name : List ℕ) → None ≡ first_named d side name 0
unfolding first_named
numbers_none d side name = refl
