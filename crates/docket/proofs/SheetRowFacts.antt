-- The rows of a sheet that are kept, after each record.
use Rattle.std.proofs.Common.{◌≡◌, ◌≤◌, ◌<◌, ◌+◌, ℕ, List, [], ◌∷◌, ◌++◌, Bool, true, false, length, get_or, arith, rules, sym, ◌∙◌, refl, ap, Some, inl, inr, append_assoc, append-nil, subst}
use Rattle.std.specs.Prelude.{nat_le, if◌then◌else◌, None}
use Rattle.docket_names.specs.Words.{is_number, number_of, digits_worth}
use Rattle.std.proofs.lemmas.List.{get_or-take}
use Rattle.std.proofs.lemmas.Option.{slice_get-get_or, get_or_from_slice_get, slice_get_within}
use Rattle.records.specs.Reading.{Fields, field}
use Rattle.docket.specs.Contents.{is_sheet_row}
use Rattle.docket.specs.Passes.{next_place}
use Rattle.docket.specs.SheetRows.{IsText, MarkSays, AreKeptFrom, AreSheetRows}
use Rattle.docket_names.specs.Texts.{StartsWith}
use Rattle.docket_names.proofs.TextFacts.{starts_length}
use Rattle.docket.specs.declared.store.sheet_rows.Mark.{Mark}
use Rattle.docket.specs.declared.store.sheet_rows.Mark.TheVariants.{Matched, Unmatched, Filled}
use Rattle.docket.specs.declared.store.sheet_rows.SheetRow.{SheetRow}
use Rattle.docket.specs.declared.vocabulary.TheConstants.{MOST_NAMES}

-- the number of a text still stands for this text after other texts were added
pub text_kept : (texts more : Fields) (n i : ℕ) (row : Fields) → StartsWith texts more → IsText texts n i row → IsText more n i row
text_kept texts more n i row s h =
    let below = slice_get_within texts n (field row i) h in
    let size = starts_length texts more s in
    let same : get_or more n [] ≡ get_or texts n [] = sym (get_or-take (length texts) more n [] below) ∙ ap (λ l. get_or l n []) s in
    slice_get-get_or more n [] (omega arith) ∙ ap Some (same ∙ get_or_from_slice_get texts n (field row i) [] h)

says_kept : (texts more : Fields) (mark : Mark) (row : Fields) → StartsWith texts more → MarkSays texts mark row → MarkSays more mark row
says_kept texts more (Matched r p) row s h = (h.0, text_kept texts more r 1 row s h.1, text_kept texts more p 2 row s h.2)
says_kept texts more (Unmatched r) row s h = (h.0, text_kept texts more r 1 row s h.1)
says_kept texts more (Filled p f q) row s h = (h.0, text_kept texts more p 1 row s h.1, h.2, h.3)

kept_grown : (texts more : Fields) (n : ℕ) (kept : List SheetRow) (rows : List Fields) → StartsWith texts more → AreKeptFrom texts n kept rows → AreKeptFrom more n kept rows
kept_grown texts more n kept [] s h = h
kept_grown texts more n [] (row ∷ rows) s h = (h.0, kept_grown texts more (n + 1) [] rows s h.1)
kept_grown texts more n (k ∷ kept) (row ∷ rows) s (inl h) =
    inl (record { record_no = h.0.record_no; says = says_kept texts more k.mark row s h.0.says }, kept_grown texts more (n + 1) kept rows s h.1)
kept_grown texts more n (k ∷ kept) (row ∷ rows) s (inr h) = inr (h.0, kept_grown texts more (n + 1) (k ∷ kept) rows s h.1)

-- the kept rows are right after one more record, whose row is added if the record belongs to a
-- sheet
kept_push : (texts : Fields) (n : ℕ) (kept : List SheetRow) (rows : List Fields) (k : SheetRow) (row : Fields) → AreKeptFrom texts n kept rows
    → k.record_no ≡ n + length rows → MarkSays texts k.mark row → AreKeptFrom texts n (kept ++ k ∷ []) (rows ++ row ∷ [])
kept_push texts n [] [] k row h place says = inl (record { record_no = place ∙ omega arith; says = says }, refl)
kept_push texts n (x ∷ kept) [] k row h place says = absurd (cc h)
kept_push texts n [] (r ∷ rows) k row h place says = inr (h.0, kept_push texts (n + 1) [] rows k row h.1 (omega (arith, place)) says)
kept_push texts n (x ∷ kept) (r ∷ rows) k row (inl h) place says = inl (h.0, kept_push texts (n + 1) kept rows k row h.1 (omega (arith, place)) says)
kept_push texts n (x ∷ kept) (r ∷ rows) k row (inr h) place says = inr (h.0, kept_push texts (n + 1) (x ∷ kept) rows k row h.1 (omega (arith, place)) says)

kept_other : (texts : Fields) (n : ℕ) (kept : List SheetRow) (rows : List Fields) (row : Fields) → is_sheet_row row ≡ false → AreKeptFrom texts n kept rows
    → AreKeptFrom texts n kept (rows ++ row ∷ [])
kept_other texts n [] [] row e h = (e, refl)
kept_other texts n (x ∷ kept) [] row e h = absurd (cc h)
kept_other texts n [] (r ∷ rows) row e h = (h.0, kept_other texts (n + 1) [] rows row e h.1)
kept_other texts n (x ∷ kept) (r ∷ rows) row e (inl h) = inl (h.0, kept_other texts (n + 1) kept rows row e h.1)
kept_other texts n (x ∷ kept) (r ∷ rows) row e (inr h) = inr (h.0, kept_other texts (n + 1) (x ∷ kept) rows row e h.1)

pub sheet_none : (texts : Fields) → AreSheetRows texts [] []
sheet_none texts = record { front = []; rest = []; rows_are = refl; kept_are = refl; whole = λ le. refl }

pub sheet_grow : (texts more : Fields) (sheet : List SheetRow) (rows : List Fields) → StartsWith texts more → AreSheetRows texts sheet rows → AreSheetRows more sheet rows
sheet_grow texts more sheet rows s h = record {
  front = h.front;
  rest = h.rest;
  rows_are = h.rows_are;
  kept_are = kept_grown texts more 1 sheet h.front s h.kept_are;
  whole = h.whole;
}

-- as long as no more rows of a sheet are kept than there can be members, the rows of all records
-- are kept
all_front : (texts : Fields) (sheet : List SheetRow) (rows : List Fields) (h : AreSheetRows texts sheet rows) → length sheet ≤ MOST_NAMES → rows ≡ h.front
all_front texts sheet rows h le = h.rows_are ∙ ap (λ r. h.front ++ r) (h.whole le) ∙ append-nil h.front

-- the kept rows are right if a record's row is added while no more rows are kept than there can be
-- members
pub sheet_more : (texts : Fields) (sheet : List SheetRow) (rows : List Fields) (k : SheetRow) (row : Fields) → length sheet ≤ MOST_NAMES → k.record_no ≡ next_place rows
    → MarkSays texts k.mark row → AreSheetRows texts sheet rows → AreSheetRows texts (sheet ++ k ∷ []) (rows ++ row ∷ [])
sheet_more texts sheet rows k row le place says h =
    let same = all_front texts sheet rows h le in
    let size = ap length same in
    record {
      front = rows ++ row ∷ [];
      rest = [];
      rows_are = sym (append-nil (rows ++ row ∷ []));
      kept_are = kept_push texts 1 sheet rows k row (subst (λ r. AreKeptFrom texts 1 sheet r) (sym same) h.kept_are) (omega (arith, place)) says;
      whole = λ le. refl;
    }

-- the kept rows are right if nothing is added once more rows are kept than there can be members
pub sheet_cut : (texts : Fields) (sheet : List SheetRow) (rows : List Fields) (row : Fields) → MOST_NAMES < length sheet → AreSheetRows texts sheet rows
    → AreSheetRows texts sheet (rows ++ row ∷ [])
sheet_cut texts sheet rows row many h = record {
  front = h.front;
  rest = h.rest ++ row ∷ [];
  rows_are = ap (λ r. r ++ row ∷ []) h.rows_are ∙ append_assoc h.front h.rest (row ∷ []);
  kept_are = h.kept_are;
  whole = λ le. absurd (omega (arith, le, many));
}

pub sheet_other : (texts : Fields) (sheet : List SheetRow) (rows : List Fields) (row : Fields) → is_sheet_row row ≡ false → AreSheetRows texts sheet rows
    → AreSheetRows texts sheet (rows ++ row ∷ [])
sheet_other texts sheet rows row e h = by (nat_le (length sheet) MOST_NAMES) refl
  where
    by : (b : Bool) → nat_le (length sheet) MOST_NAMES ≡ b → AreSheetRows texts sheet (rows ++ row ∷ [])
    by false few = sheet_cut texts sheet rows row (search (rules, few)) h
    by true few =
        let le : length sheet ≤ MOST_NAMES = search (rules, few) in
        let same = all_front texts sheet rows h le in
        record {
          front = rows ++ row ∷ [];
          rest = [];
          rows_are = sym (append-nil (rows ++ row ∷ []));
          kept_are = kept_other texts 1 sheet rows row e (subst (λ r. AreKeptFrom texts 1 sheet r) (sym same) h.kept_are);
          whole = λ le. refl;
        }

-- a text that is read as a number has the form of a number
pub is_number-some : (text : List ℕ) (n : ℕ) → number_of text ≡ Some n → is_number text ≡ true
unfolding number_of
is_number-some text n h = by (is_number text) refl h
  where
    by : (b : Bool) → is_number text ≡ b → (if b then Some (digits_worth text) else None) ≡ Some n → is_number text ≡ true
    by true e h = e
    by false e h = absurd (cc h)

pub is_number-none : (text : List ℕ) → number_of text ≡ None → is_number text ≡ false
unfolding number_of
is_number-none text h = by (is_number text) refl h
  where
    by : (b : Bool) → is_number text ≡ b → (if b then Some (digits_worth text) else None) ≡ None → is_number text ≡ false
    by true e h = absurd (cc h)
    by false e h = e
