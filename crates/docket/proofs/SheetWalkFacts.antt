-- A walk over the kept rows of a sheet is as good as a walk over all records: the records between two kept
-- rows belong to no sheet.
use Rattle.std.proofs.Common.{◌≡◌, ◌≤◌, ◌<◌, ◌+◌, ℕ, List, [], ◌∷◌, ◌++◌, Bool, true, false, length, drop, get_or, sym, ◌∙◌, refl, ap, arith, None, inl, inr, count_by, append_assoc, append-nil, zero-add, subst, drop_of_length-le}
use Rattle.std.specs.Prelude.{◌||◌, if◌then◌else◌, Option}
use Rattle.std.proofs.lemmas.Bool.{or_parts}
use Rattle.std.proofs.lemmas.List.{drop_more}
use Rattle.std.proofs.lemmas.List.Sums.{sum_by-append}
use Rattle.docket.specs.Fields.{is_kind}
use Rattle.records.specs.Reading.{Fields}
use Rattle.docket.specs.Contents.{is_sheet_row}
use Rattle.docket.specs.Answers.{Refuses}
use Rattle.docket.specs.Known.{AreKnown}
use Rattle.docket.specs.Passes.{first_from, mark_fault, filled_fault, next_place}
use Rattle.docket.specs.SheetRows.{MarkSays, IsKeptOf, AreKeptFrom, AreSheetRows}
use Rattle.docket.specs.SheetMarks.{IsMarked, StandsAfter}
use Rattle.docket.specs.declared.fault.DocketFault.{DocketFault}
use Rattle.docket.specs.declared.passes.sheet.Marks.{Marks}
use Rattle.docket.specs.declared.store.sheet_rows.Mark.{Mark}
use Rattle.docket.specs.declared.store.sheet_rows.Mark.TheVariants.{Matched, Unmatched, Filled}
use Rattle.docket.specs.declared.store.sheet_rows.SheetRow.{SheetRow}
use Rattle.docket.specs.declared.vocabulary.TheConstants.{MATCHED, UNMATCHED, FILLED}
use Rattle.docket.proofs.FewFacts.{few_members}
use Rattle.docket.proofs.PassFacts.{first_from-append, first_from-push, first_from-found, length-push}
use Rattle.docket.proofs.SoundFacts.{both_none}
use Rattle.docket.proofs.SheetFewFacts.{few_marks}
use Rattle.docket.proofs.SheetMarkFacts.{marks_other, mark_fault-other, filled_other}

-- the walk has gone over some records, which have the property P, and these kept rows are left
pub record IsReached (texts : Fields) (front : List Fields) (left : List SheetRow) (P : List Fields → Type 0) : Type 0 where
  pub before : List Fields
  pub after : List Fields
  pub front_are : front ≡ before ++ after
  pub left_are : AreKeptFrom texts (next_place before) left after
  pub here : P before

-- the record of the next kept row follows records that have the property P
pub record IsNext (texts : Fields) (front : List Fields) (kept : SheetRow) (left : List SheetRow) (P : List Fields → Type 0) : Type 0 where
  pub before : List Fields
  pub row : Fields
  pub rest : List Fields
  pub front_are : front ≡ before ++ row ∷ rest
  pub kept_is : IsKeptOf texts (next_place before) kept row
  pub left_are : AreKeptFrom texts (next_place (before ++ row ∷ [])) left rest
  pub here : P before

place_after : (before : List Fields) (row : Fields) → next_place before + 1 ≡ next_place (before ++ row ∷ [])
place_after before row = let size = length-push before row in omega (arith, size)

kept_after : (texts : Fields) (before : List Fields) (row : Fields) (left : List SheetRow) (rest : List Fields) → AreKeptFrom texts (next_place before + 1) left rest
    → AreKeptFrom texts (next_place (before ++ row ∷ [])) left rest
kept_after texts before row left rest h = subst (λ n. AreKeptFrom texts n left rest) (place_after before row) h

pub walk_start : (texts : Fields) (front : List Fields) (kept : List SheetRow) (P : List Fields → Type 0) → AreKeptFrom texts 1 kept front → P [] → IsReached texts front kept P
walk_start texts front kept P h p = record { before = []; after = front; front_are = refl; left_are = h; here = p }

pub walk_next : (texts : Fields) (front : List Fields) (k : SheetRow) (left : List SheetRow) (P : List Fields → Type 0)
    → ((done : List Fields) (row : Fields) → is_sheet_row row ≡ false → P done → P (done ++ row ∷ [])) → IsReached texts front (k ∷ left) P → IsNext texts front k left P
walk_next texts front k left P step h = over h.before h.after h.front_are h.left_are h.here
  where
    over : (before after : List Fields) → front ≡ before ++ after → AreKeptFrom texts (next_place before) (k ∷ left) after → P before → IsNext texts front k left P
    over before [] e h p = absurd (cc h)
    over before (row ∷ after) e (inl h) p = record {
      before = before;
      row = row;
      rest = after;
      front_are = e;
      kept_is = h.0;
      left_are = kept_after texts before row left after h.1;
      here = p;
    }
    over before (row ∷ after) e (inr h) p =
        over (before ++ row ∷ []) after (e ∙ sym (append_assoc before (row ∷ []) after)) (kept_after texts before row (k ∷ left) after h.1) (step before row h.0 p)

pub walk_more : (texts : Fields) (front : List Fields) (k : SheetRow) (left : List SheetRow) (P Q : List Fields → Type 0) (h : IsNext texts front k left P) → Q (h.before ++ h.row ∷ [])
    → IsReached texts front left Q
walk_more texts front k left P Q h q = record {
  before = h.before ++ h.row ∷ [];
  after = h.rest;
  front_are = h.front_are ∙ sym (append_assoc h.before (h.row ∷ []) h.rest);
  left_are = h.left_are;
  here = q;
}

pub walk_end : (texts : Fields) (front : List Fields) (P : List Fields → Type 0)
    → ((done : List Fields) (row : Fields) → is_sheet_row row ≡ false → P done → P (done ++ row ∷ [])) → IsReached texts front [] P → P front
walk_end texts front P step h = over h.before h.after h.front_are h.left_are h.here
  where
    over : (before after : List Fields) → front ≡ before ++ after → AreKeptFrom texts (next_place before) [] after → P before → P front
    over before [] e h p = subst P (sym (e ∙ append-nil before)) p
    over before (row ∷ after) e h p =
        over (before ++ row ∷ []) after (e ∙ sym (append_assoc before (row ∷ []) after)) (kept_after texts before row [] after h.1) (step before row h.0 p)

-- a record that belongs to no sheet is neither an M nor a U nor an F row
no_kinds : (row : Fields) → is_sheet_row row ≡ false → (is_kind MATCHED row ≡ false) × (is_kind UNMATCHED row ≡ false) × (is_kind FILLED row ≡ false)
no_kinds row e =
    let last = or_parts (is_kind MATCHED row || is_kind UNMATCHED row) (is_kind FILLED row) e in
    let first = or_parts (is_kind MATCHED row) (is_kind UNMATCHED row) last.0 in
    (first.0, first.1, last.1)

-- the marks are right for the records that the first walk has gone over, and these records have no
-- fault
abbrev pub IsMarkedSo : Marks → List Fields → List Fields → Type 0
IsMarkedSo m all done = IsMarked m all done × (first_from (mark_fault all) [] done ≡ None)

abbrev pub IsRightSo : List Fields → List Fields → Type 0
IsRightSo all done = first_from (filled_fault all) [] done ≡ None

pub marked_passes : (m : Marks) (all done : List Fields) (row : Fields) → is_sheet_row row ≡ false → IsMarkedSo m all done → IsMarkedSo m all (done ++ row ∷ [])
marked_passes m all done row e h =
    let k = no_kinds row e in
    (marks_other m all done row k.0 k.1 k.2 h.0, first_from-push (mark_fault all) done row h.1 (mark_fault-other all done row k.0 k.1 k.2))

pub right_passes : (all done : List Fields) (row : Fields) → is_sheet_row row ≡ false → IsRightSo all done → IsRightSo all (done ++ row ∷ [])
right_passes all done row e h = first_from-push (filled_fault all) done row h (filled_other all done row (no_kinds row e).2)

-- the record of the next kept row stands among all records
pub stands : (texts : Fields) (programmes residents : List ℕ) (kept : List SheetRow) (all : List Fields) (h : AreSheetRows texts kept all) (k : SheetRow) (left : List SheetRow)
    (P : List Fields → Type 0) (n : IsNext texts h.front k left P) → AreKnown texts programmes residents all → StandsAfter texts programmes residents all n.before k.record_no k.mark n.row
stands texts programmes residents kept all h k left P n known = record {
  known = known;
  rest = n.rest ++ h.rest;
  all_are = h.rows_are ∙ ap (λ l. l ++ h.rest) n.front_are ∙ append_assoc n.before (n.row ∷ n.rest) h.rest;
  place_is = n.kept_is.record_no;
  says = n.kept_is.says;
}

-- if the records before the next kept row's record have no fault, a fault of this record is the first
-- fault of the pass
pub walk_fault : (f : List Fields → Fields → Option DocketFault) (all before rest : List Fields) (row : Fields) (e : DocketFault) → all ≡ before ++ row ∷ rest
    → first_from f [] before ≡ None → Refuses (f before row) e → Refuses (first_from f [] all) e
walk_fault f all before rest row e is none (inl memory) = inl memory
walk_fault f all before rest row e is none (inr here) = inr (ap (first_from f []) is ∙ first_from-found f before rest row e none here)

-- a record for which a row is kept belongs to the sheet
says_sheet : (texts : Fields) (mark : Mark) (row : Fields) → MarkSays texts mark row → is_sheet_row row ≡ true
says_sheet texts (Matched r p) row h = rw h.0 refl
says_sheet texts (Unmatched r) row h = rw h.0 refl
says_sheet texts (Filled p f q) row h = rw h.0 refl

count_cons : (p : Fields → Bool) (row : Fields) (rows : List Fields) → count_by p (row ∷ rows) ≡ (if p row then 1 else 0) + count_by p rows
count_cons p row rows = sum_by-append (λ (r : Fields). if p r then 1 else 0) (row ∷ []) rows ∙ ap (λ n. n + count_by p rows) (zero-add (if p row then 1 else 0))

kept_count : (texts : Fields) (n : ℕ) (kept : List SheetRow) (rows : List Fields) → AreKeptFrom texts n kept rows → length kept ≤ count_by is_sheet_row rows
kept_count texts n [] rows h = omega arith
kept_count texts n (k ∷ kept) [] h = absurd (cc h)
kept_count texts n (k ∷ kept) (row ∷ rows) (inl h) =
    let more = kept_count texts (n + 1) kept rows h.1 in
    rw (count_cons is_sheet_row row rows, says_sheet texts k.mark row h.0.says) (omega (arith, more))
kept_count texts n (k ∷ kept) (row ∷ rows) (inr h) =
    let more = kept_count texts (n + 1) (k ∷ kept) rows h.1 in
    rw (count_cons is_sheet_row row rows, h.0) (omega (arith, more))

-- if the records of the kept rows have no fault, the rows of all records are kept
pub front_all : (texts : Fields) (programmes residents : List ℕ) (kept : List SheetRow) (all : List Fields) (h : AreSheetRows texts kept all) → AreKnown texts programmes residents all
    → first_from (mark_fault all) [] h.front ≡ None → h.front ≡ all
front_all texts programmes residents kept all h known none =
    let few = few_marks all h.front (few_members all known.sound known.few) none in
    let count = kept_count texts 1 kept h.front h.kept_are in
    sym (h.rows_are ∙ ap (λ r. h.front ++ r) (h.whole (omega (arith, few, count))) ∙ append-nil h.front)

-- if all records have no fault, the front of them has none
pub front_none : (texts : Fields) (kept : List SheetRow) (all : List Fields) (h : AreSheetRows texts kept all) → first_from (mark_fault all) [] all ≡ None → first_from (mark_fault all) [] h.front ≡ None
front_none texts kept all h none =
    let whole = ap (first_from (mark_fault all) []) (sym h.rows_are) ∙ none in
    (both_none (first_from (mark_fault all) [] h.front) (first_from (mark_fault all) h.front h.rest) (sym (first_from-append (mark_fault all) [] h.front h.rest) ∙ whole)).0

-- the record of the kept row at place j follows records that have the property of the walk
pub walk_at : (texts : Fields) (front : List Fields) (kept : List SheetRow) (j : ℕ) (d : SheetRow) (P : List Fields → Type 0)
    → ((done : List Fields) (row : Fields) → is_sheet_row row ≡ false → P done → P (done ++ row ∷ [])) → j < length kept → IsReached texts front (drop j kept) P
    → IsNext texts front (get_or kept j d) (drop (j + 1) kept) P
walk_at texts front kept j d P step lt h = walk_next texts front (get_or kept j d) (drop (j + 1) kept) P step (subst (λ l. IsReached texts front l P) (drop_more kept j d lt) h)

pub walk_done : (texts : Fields) (front : List Fields) (kept : List SheetRow) (j : ℕ) (P : List Fields → Type 0)
    → ((done : List Fields) (row : Fields) → is_sheet_row row ≡ false → P done → P (done ++ row ∷ [])) → length kept ≤ j → IsReached texts front (drop j kept) P → P front
walk_done texts front kept j P step le h = walk_end texts front P step (subst (λ l. IsReached texts front l P) (drop_of_length-le kept le) h)

-- after the first walk without a fault, the marks are those of all records
pub marked_end : (texts : Fields) (programmes residents : List ℕ) (kept : List SheetRow) (all : List Fields) (m : Marks) (j : ℕ) (h : AreSheetRows texts kept all)
    → AreKnown texts programmes residents all → length kept ≤ j → IsReached texts h.front (drop j kept) (IsMarkedSo m all) → IsMarkedSo m all all
marked_end texts programmes residents kept all m j h known le r =
    let end = walk_done texts h.front kept j (IsMarkedSo m all) (marked_passes m all) le r in
    subst (IsMarkedSo m all) (front_all texts programmes residents kept all h known end.1) end

-- after the third walk without a fault, no F row has a wrong number
pub right_end : (texts : Fields) (programmes residents : List ℕ) (kept : List SheetRow) (all : List Fields) (j : ℕ) (h : AreSheetRows texts kept all)
    → AreKnown texts programmes residents all → first_from (mark_fault all) [] all ≡ None → length kept ≤ j → IsReached texts h.front (drop j kept) (IsRightSo all) → IsRightSo all all
right_end texts programmes residents kept all j h known none le r =
    subst (IsRightSo all) (front_all texts programmes residents kept all h known (front_none texts kept all h none)) (walk_done texts h.front kept j (IsRightSo all) (right_passes all) le r)

-- the record of a kept M or U row is no F row
pub not_filled : (texts : Fields) (mark : Mark) (row : Fields) → MarkSays texts mark row → ((p f q : ℕ) → mark ≡ Filled p f q → ⊥) → is_kind FILLED row ≡ false
not_filled texts (Matched r p) row h other = rw h.0 refl
not_filled texts (Unmatched r) row h other = rw h.0 refl
not_filled texts (Filled p f q) row h other = absurd (other p f q refl)
