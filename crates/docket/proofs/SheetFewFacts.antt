-- A sheet without a fault has at most as many rows as there can be members.
use Rattle.std.proofs.Common.{◌≡◌, ◌⊎◌, ◌≤◌, ℕ, List, [], ◌∷◌, ◌++◌, Bool, true, false, length, map, filter, sym, ◌∙◌, refl, arith, rules, Option, None, inl, inr, count_by}
use Rattle.std.specs.Prelude.{◌&&◌, ◌||◌, not, if◌then◌else◌, bytes_eq}
use Rattle.std.specs.Option.{option_or}
use Rattle.std.specs.List.{list_any, list_all, IsDistinct, AllByRecursion}
use Rattle.std.proofs.lemmas.Bool.{and_parts}
use Rattle.std.proofs.lemmas.List.{length-map}
use Rattle.std.proofs.lemmas.List.Folds.{list_any-append}
use Rattle.std.proofs.lemmas.List.Sums.{length-filter}
use Rattle.docket.specs.Fields.{kind_of, is_kind, is_row_of, unless}
use Rattle.records.specs.Reading.{Fields, field}
use Rattle.docket.specs.Contents.{programmes_of, residents_of, is_sheet_row, is_mark_of}
use Rattle.docket_names.specs.Texts.{is_declared}
use Rattle.docket.specs.Passes.{first_from, mark_fault, next_place}
use Rattle.docket.specs.Lists.{is_among}
use Rattle.docket.specs.declared.vocabulary.TheConstants.{MATCHED, UNMATCHED, FILLED, MOST_NAMES}
use Rattle.docket.specs.declared.fault.DocketFault.{DocketFault}
use Rattle.docket.specs.declared.fault.DocketFault.TheVariants.{UnknownName, BadSheet}
use Rattle.docket.proofs.FewFacts.{AreFew}
use Rattle.docket.proofs.AmongFacts.{or_left, or_right, few_among, count_all, count_split}
use Rattle.docket_names.proofs.NameFacts.{is_declared-any}
use Rattle.docket.proofs.RankingFacts.{bytes_eq-swap}
use Rattle.docket.proofs.SoundFacts.{both_none, unless_none}

-- the names in field 1 of those rows that pass a test
abbrev names_in : (Fields → Bool) → List Fields → List (List ℕ)
names_in p rows = map (λ (r : Fields). field r 1) (filter p rows)

-- the pass tests the name in field 1 of each row of one kind: the name has to be known, and no earlier row of this
-- kind may have it
record Asks (p : Fields → Bool) (marks : List ℕ → Fields → Bool) (known : List (List ℕ)) (f : List Fields → Fields → Option DocketFault) : Type 0 where
  own : (name : List ℕ) (row : Fields) → p row ≡ true → bytes_eq name (field row 1) ≡ true → marks name row ≡ true
  there : (before : List Fields) (row : Fields) → p row ≡ true → f before row ≡ None → is_among known (field row 1) ≡ true
  first : (before : List Fields) (row : Fields) → p row ≡ true → f before row ≡ None → list_any (marks (field row 1)) before ≡ false

-- if all rows of the kind pass this test, their names are known and all different
names_known : (p : Fields → Bool) (marks : List ℕ → Fields → Bool) (known : List (List ℕ)) (f : List Fields → Fields → Option DocketFault) → Asks p marks known f
    → (before rows : List Fields) → first_from f before rows ≡ None → list_all (is_among known) (names_in p rows) ≡ true
unfolding first_from
names_known p marks known f asks before [] none = refl
names_known p marks known f asks before (row ∷ rows) none =
    let parts = both_none (f before row) (first_from f (before ++ row ∷ []) rows) none in
    by (p row) refl parts.0 (names_known p marks known f asks (before ++ row ∷ []) rows parts.1)
  where
    by : (b : Bool) → p row ≡ b → f before row ≡ None → list_all (is_among known) (names_in p rows) ≡ true
        → list_all (is_among known) (map (λ (r : Fields). field r 1) (if b then row ∷ filter p rows else filter p rows)) ≡ true
    by true e fine more = rw (asks.there before row e fine, more) refl
    by false e fine more = more

names_apart : (p : Fields → Bool) (marks : List ℕ → Fields → Bool) (known : List (List ℕ)) (f : List Fields → Fields → Option DocketFault) → Asks p marks known f → (name : List ℕ)
    → (before rows : List Fields) → ((other : List ℕ) → bytes_eq other name ≡ true → list_any (marks other) before ≡ true) → first_from f before rows ≡ None
    → AllByRecursion (λ other. bytes_eq name other ≡ false) (names_in p rows)
unfolding first_from
names_apart p marks known f asks name before [] seen none = tt
names_apart p marks known f asks name before (row ∷ rows) seen none =
    let parts = both_none (f before row) (first_from f (before ++ row ∷ []) rows) none in
    by (p row) refl parts.0 (names_apart p marks known f asks name (before ++ row ∷ []) rows still parts.1)
  where
    still : (other : List ℕ) → bytes_eq other name ≡ true → list_any (marks other) (before ++ row ∷ []) ≡ true
    still other e = list_any-append (marks other) before (row ∷ []) ∙ or_left (list_any (marks other) before) _ (seen other e)

    other : f before row ≡ None → p row ≡ true → bytes_eq name (field row 1) ≡ false
    other fine e = bytes_eq-swap (field row 1) name (no (bytes_eq (field row 1) name) refl)
      where
        no : (b : Bool) → bytes_eq (field row 1) name ≡ b → bytes_eq (field row 1) name ≡ false
        no false g = g
        no true g = let on = seen (field row 1) g in let off = asks.first before row e fine in absurd (cc (on, off))

    by : (b : Bool) → p row ≡ b → f before row ≡ None → AllByRecursion (λ other. bytes_eq name other ≡ false) (names_in p rows)
        → AllByRecursion (λ other. bytes_eq name other ≡ false) (map (λ (r : Fields). field r 1) (if b then row ∷ filter p rows else filter p rows))
    by true e fine more = (other fine e, more)
    by false e fine more = more

names_differ : (p : Fields → Bool) (marks : List ℕ → Fields → Bool) (known : List (List ℕ)) (f : List Fields → Fields → Option DocketFault) → Asks p marks known f
    → (before rows : List Fields) → first_from f before rows ≡ None → IsDistinct bytes_eq (names_in p rows)
unfolding first_from IsDistinct
names_differ p marks known f asks before [] none = tt
names_differ p marks known f asks before (row ∷ rows) none =
    let parts = both_none (f before row) (first_from f (before ++ row ∷ []) rows) none in
    by (p row) refl parts.1 (names_differ p marks known f asks (before ++ row ∷ []) rows parts.1)
  where
    seen : p row ≡ true → (other : List ℕ) → bytes_eq other (field row 1) ≡ true → list_any (marks other) (before ++ row ∷ []) ≡ true
    seen e other g = list_any-append (marks other) before (row ∷ []) ∙ or_right (list_any (marks other) before) _ (or_left (marks other row) false (asks.own other row e g))

    by : (b : Bool) → p row ≡ b → first_from f (before ++ row ∷ []) rows ≡ None → IsDistinct bytes_eq (names_in p rows)
        → IsDistinct bytes_eq (map (λ (r : Fields). field r 1) (if b then row ∷ filter p rows else filter p rows))
    by true e none more = (names_apart p marks known f asks (field row 1) (before ++ row ∷ []) rows (seen e) none, more)
    by false e none more = more

-- if all rows of the kind pass this test, there are at most as many rows as known names
few_rows : (p : Fields → Bool) (marks : List ℕ → Fields → Bool) (known : List (List ℕ)) (f : List Fields → Fields → Option DocketFault) → Asks p marks known f
    → (rows : List Fields) → first_from f [] rows ≡ None → count_by p rows ≤ length known
few_rows p marks known f asks rows none =
    let few = few_among known (names_in p rows) (names_differ p marks known f asks [] rows none) in
    let all = count_all (is_among known) (names_in p rows) (names_known p marks known f asks [] rows none) in
    let names = length-map (filter p rows) (λ (r : Fields). field r 1) in
    let count = length-filter p rows in
    omega (arith, few, all, names, count)

-- whether the row is an M or U row, in which the first walk over a sheet tests a resident's name
abbrev is_mark_row : Fields → Bool
is_mark_row row = is_kind MATCHED row || is_kind UNMATCHED row

known_name : (names : List (List ℕ)) (name : List ℕ) → is_declared names name ≡ true → is_among names name ≡ true
known_name names name e = sym (is_declared-any names name) ∙ e

off_not : (b : Bool) → not b ≡ true → b ≡ false
off_not true e = absurd (cc e)
off_not false e = refl

mark_of : (row : Fields) → is_mark_row row ≡ true → (kind_of row ≡ MATCHED) ⊎ (kind_of row ≡ UNMATCHED)
mark_of row e = by (is_kind MATCHED row) refl (is_kind UNMATCHED row) refl e
  where
    by : (m : Bool) → is_kind MATCHED row ≡ m → (u : Bool) → is_kind UNMATCHED row ≡ u → (m || u) ≡ true → (kind_of row ≡ MATCHED) ⊎ (kind_of row ≡ UNMATCHED)
    by true f u g h = inl (search (rules, f))
    by false f true g h = inr (search (rules, g))
    by false f false g h = absurd (cc h)

mark_told : (rows before : List Fields) (row : Fields) → is_mark_row row ≡ true → mark_fault rows before row ≡ None
    → (is_among (residents_of rows) (field row 1) ≡ true) × (list_any (is_mark_of (field row 1)) before ≡ false)
unfolding mark_fault
mark_told rows before row e none = by (mark_of row e)
  where
    n : ℕ
    n = next_place before

    again : unless (not (list_any (is_mark_of (field row 1)) before)) (BadSheet n) ≡ None → list_any (is_mark_of (field row 1)) before ≡ false
    again h = off_not (list_any (is_mark_of (field row 1)) before) (unless_none (not (list_any (is_mark_of (field row 1)) before)) (BadSheet n) h)

    by : (kind_of row ≡ MATCHED) ⊎ (kind_of row ≡ UNMATCHED) → (is_among (residents_of rows) (field row 1) ≡ true) × (list_any (is_mark_of (field row 1)) before ≡ false)
    by (inl k) =
        let own : option_or (unless (is_declared (residents_of rows) (field row 1) && is_declared (programmes_of rows) (field row 2)) (UnknownName n)) (unless (not (list_any (is_mark_of (field row 1)) before)) (BadSheet n)) ≡ None = rw k at none in
        let parts = both_none (unless (is_declared (residents_of rows) (field row 1) && is_declared (programmes_of rows) (field row 2)) (UnknownName n)) (unless (not (list_any (is_mark_of (field row 1)) before)) (BadSheet n)) own in
        let names = and_parts (is_declared (residents_of rows) (field row 1)) (is_declared (programmes_of rows) (field row 2)) (unless_none _ (UnknownName n) parts.0) in
        (known_name (residents_of rows) (field row 1) names.0, again parts.1)
    by (inr k) =
        let own : option_or (unless (is_declared (residents_of rows) (field row 1)) (UnknownName n)) (unless (not (list_any (is_mark_of (field row 1)) before)) (BadSheet n)) ≡ None = rw k at none in
        let parts = both_none (unless (is_declared (residents_of rows) (field row 1)) (UnknownName n)) (unless (not (list_any (is_mark_of (field row 1)) before)) (BadSheet n)) own in
        (known_name (residents_of rows) (field row 1) (unless_none _ (UnknownName n) parts.0), again parts.1)

marks_ask : (rows : List Fields) → Asks is_mark_row is_mark_of (residents_of rows) (mark_fault rows)
marks_ask rows = record {
  own = λ name row e g. own name row g (mark_of row e);
  there = λ before row e none. (mark_told rows before row e none).0;
  first = λ before row e none. (mark_told rows before row e none).1;
}
  where
    own : (name : List ℕ) (row : Fields) → bytes_eq name (field row 1) ≡ true → (kind_of row ≡ MATCHED) ⊎ (kind_of row ≡ UNMATCHED) → is_mark_of name row ≡ true
    own name row g (inl k) = rw (k, g) refl
    own name row g (inr k) = rw (k, g) refl

filled_told : (rows before : List Fields) (row : Fields) → is_kind FILLED row ≡ true → mark_fault rows before row ≡ None
    → (is_among (programmes_of rows) (field row 1) ≡ true) × (list_any (is_row_of FILLED (field row 1)) before ≡ false)
unfolding mark_fault
filled_told rows before row e none =
    let k : kind_of row ≡ FILLED = search (rules, e) in
    let own : option_or (unless (is_declared (programmes_of rows) (field row 1)) (UnknownName (next_place before))) (unless (not (list_any (is_row_of FILLED (field row 1)) before)) (BadSheet (next_place before))) ≡ None = rw k at none in
    let parts = both_none (unless (is_declared (programmes_of rows) (field row 1)) (UnknownName (next_place before))) (unless (not (list_any (is_row_of FILLED (field row 1)) before)) (BadSheet (next_place before))) own in (
      known_name (programmes_of rows) (field row 1) (unless_none _ (UnknownName (next_place before)) parts.0),
      off_not (list_any (is_row_of FILLED (field row 1)) before) (unless_none _ (BadSheet (next_place before)) parts.1),
    )

filled_asks : (rows : List Fields) → Asks (is_kind FILLED) (is_row_of FILLED) (programmes_of rows) (mark_fault rows)
filled_asks rows = record {
  own = λ name row e g. rw (e, g) refl;
  there = λ before row e none. (filled_told rows before row e none).0;
  first = λ before row e none. (filled_told rows before row e none).1;
}

-- the rows of a sheet without a fault are at most as many as there can be members
pub few_marks : (rows front : List Fields) → AreFew rows → first_from (mark_fault rows) [] front ≡ None → count_by is_sheet_row front ≤ MOST_NAMES
few_marks rows front few none =
    let marks = few_rows is_mark_row is_mark_of (residents_of rows) (mark_fault rows) (marks_ask rows) front none in
    let filled = few_rows (is_kind FILLED) (is_row_of FILLED) (programmes_of rows) (mark_fault rows) (filled_asks rows) front none in
    let split = count_split is_sheet_row is_mark_row (is_kind FILLED) (λ row e. e) front in
    let p = few.programmes in
    let r = few.residents in
    omega (arith, marks, filled, split, p, r)
