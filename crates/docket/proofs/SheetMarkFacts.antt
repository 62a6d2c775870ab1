-- How the marks that note a sheet change with each row.
use Rattle.std.proofs.Common.{◌≡◌, ◌≤◌, ◌<◌, ◌+◌, ℕ, List, [], ◌∷◌, ◌++◌, Bool, true, false, length, get_or, map, find, count_by, arith, sym, ◌∙◌, refl, ap, Option, Some, None, inr, add-zero, zero-add}
use Rattle.std.specs.Prelude.{is_some, position, nat_eq, ◌==◌, ◌&&◌, ◌||◌, not, if◌then◌else◌, bytes_eq, replicate, slice_set, unwrap_or, slice_index_or}
use Rattle.std.specs.Option.{option_or}
use Rattle.std.specs.List.{IsDistinct, list_any, list_all}
use Rattle.std.proofs.lemmas.List.{length-append}
use Rattle.std.proofs.lemmas.List.Sums.{count_by-le-length, sum_by-append}
use Rattle.docket.specs.Known.{AreKnown}
use Rattle.docket.specs.SheetRows.{IsText}
use Rattle.docket.specs.Fields.{kind_of, is_kind, is_row_of, unless}
use Rattle.records.specs.Reading.{Fields, field}
use Rattle.docket.specs.Contents.{programmes_of, residents_of, is_mark_of, is_matched_with, placement_of, quotas_of}
use Rattle.docket.specs.SheetMarks.{IsMarked, IsBlank, StandsAfter, placed_in}
use Rattle.docket.specs.Passes.{first_from, mark_fault, missing_fault, filled_fault, next_place}
use Rattle.docket.specs.Answers.{Refuses}
use Rattle.docket_names.specs.Texts.{is_declared, AreNames, number_in}
use Rattle.docket_names.specs.Words.{number_of}
use Rattle.docket.specs.declared.store.sheet_rows.Mark.{Mark}
use Rattle.docket.specs.declared.store.sheet_rows.Mark.TheVariants.{Matched, Unmatched, Filled}
use Rattle.docket.specs.declared.passes.sheet.Marks.{Marks}
use Rattle.docket.specs.declared.vocabulary.TheConstants.{MATCHED, UNMATCHED, FILLED, MAX_RECORDS}
use Rattle.docket.specs.declared.fault.DocketFault.{DocketFault}
use Rattle.docket.specs.declared.fault.DocketFault.TheVariants.{UnknownName, BadSheet}
use Rattle.docket_names.proofs.MemberFacts.{member_named}
use Rattle.docket_names.proofs.TextFacts.{names_length}
use Rattle.docket_names.proofs.NameFacts.{bytes_eq-same}
use Rattle.docket.proofs.PassFacts.{first_from-append}
use Rattle.docket.proofs.SoundFacts.{both_none}
use Rattle.docket.proofs.DeclarationFacts.{list_any-if, option_or-none}
use Rattle.docket.proofs.NumberFacts.{distinct, at_number, map_at}
use Rattle.docket.proofs.RankingFacts.{bytes_eq-swap, map-same, find_none, find-push}

-- for each name, whether some row passes its test: one more row changes this only for the name whose test
-- it passes
any_at : (p : List ℕ → Fields → Bool) (names : List (List ℕ)) (done : List Fields) (row : Fields) (name : List ℕ) (i : ℕ) → distinct names ≡ true
    → number_in names name ≡ Some i → p name row ≡ true → ((x : List ℕ) → bytes_eq name x ≡ false → p x row ≡ false)
    → map (λ n. list_any (p n) (done ++ row ∷ [])) names ≡ slice_set (map (λ n. list_any (p n) done) names) i true
any_at p names done row name i d at here others =
    rw (← own) (map_at (λ (n : List ℕ). list_any (p n) done) (λ (n : List ℕ). list_any (p n) (done ++ row ∷ [])) names name i d at
    (λ x e. rw (list_any-if (p x) done row, others x e) refl))
  where
    own : list_any (p name) (done ++ row ∷ []) ≡ true
    own = rw (list_any-if (p name) done row, here) refl

any_same : (p : List ℕ → Fields → Bool) (names : List (List ℕ)) (done : List Fields) (row : Fields) → ((x : List ℕ) → p x row ≡ false)
    → map (λ n. list_any (p n) (done ++ row ∷ [])) names ≡ map (λ n. list_any (p n) done) names
any_same p names done row others =
    map-same (λ (n : List ℕ). list_any (p n) (done ++ row ∷ [])) (λ (n : List ℕ). list_any (p n) done) names (λ x. rw (list_any-if (p x) done row, others x) refl)

-- one more row adds one to the number of rows that pass a test if it passes the test, and else
-- nothing
count_by-push : (p : Fields → Bool) (done : List Fields) (row : Fields) → count_by p (done ++ row ∷ []) ≡ count_by p done + (if p row then 1 else 0)
count_by-push p done row = sum_by-append (λ (r : Fields). if p r then 1 else 0) done (row ∷ []) ∙ ap (λ n. count_by p done + n) (zero-add (if p row then 1 else 0))

count_at : (p : List ℕ → Fields → Bool) (names : List (List ℕ)) (done : List Fields) (row : Fields) (name : List ℕ) (i : ℕ) → distinct names ≡ true
    → number_in names name ≡ Some i → p name row ≡ true → ((x : List ℕ) → bytes_eq name x ≡ false → p x row ≡ false)
    → map (λ n. count_by (p n) (done ++ row ∷ [])) names ≡ slice_set (map (λ n. count_by (p n) done) names) i (count_by (p name) done + 1)
count_at p names done row name i d at here others =
    rw (← own) (map_at (λ (n : List ℕ). count_by (p n) done) (λ (n : List ℕ). count_by (p n) (done ++ row ∷ [])) names name i d at
    (λ x e. rw (count_by-push (p x) done row, others x e) (add-zero (count_by (p x) done))))
  where
    own : count_by (p name) (done ++ row ∷ []) ≡ count_by (p name) done + 1
    own = rw (count_by-push (p name) done row, here) refl

count_same : (p : List ℕ → Fields → Bool) (names : List (List ℕ)) (done : List Fields) (row : Fields) → ((x : List ℕ) → p x row ≡ false)
    → map (λ n. count_by (p n) (done ++ row ∷ [])) names ≡ map (λ n. count_by (p n) done) names
count_same p names done row others =
    map-same (λ (n : List ℕ). count_by (p n) (done ++ row ∷ [])) (λ (n : List ℕ). count_by (p n) done) names (λ x. rw (count_by-push (p x) done row, others x) (add-zero (count_by (p x) done)))

-- at most as many rows pass a test as there are rows
pub count_few : (p : Fields → Bool) (done : List Fields) → count_by p done ≤ length done
count_few p done = count_by-le-length p done

-- one more M row gives its resident its programme, and changes no other resident's programme
placed_at : (programmes names : List (List ℕ)) (done : List Fields) (row : Fields) (i p : ℕ) → distinct names ≡ true
    → number_in names (field row 1) ≡ Some i → kind_of row ≡ MATCHED → number_in programmes (field row 2) ≡ Some p → list_any (is_row_of MATCHED (field row 1)) done ≡ false
    → map (placed_in programmes (done ++ row ∷ [])) names ≡ slice_set (map (placed_in programmes done) names) i (Some p)
placed_at programmes names done row i p d at kind to free =
    rw (← own) (map_at (placed_in programmes done) (placed_in programmes (done ++ row ∷ [])) names (field row 1) i d at other)
  where
    own : placed_in programmes (done ++ row ∷ []) (field row 1) ≡ Some p
    own = rw (find-push (is_row_of MATCHED (field row 1)) done row, kind, bytes_eq-same (field row 1), find_none (is_row_of MATCHED (field row 1)) done free) to

    other : (x : List ℕ) → bytes_eq (field row 1) x ≡ false → placed_in programmes (done ++ row ∷ []) x ≡ placed_in programmes done x
    other x e = rw (find-push (is_row_of MATCHED x) done row, kind, bytes_eq-swap (field row 1) x e, sym (option_or-none (find (is_row_of MATCHED x) done))) refl

placed_same : (programmes names : List (List ℕ)) (done : List Fields) (row : Fields) → is_kind MATCHED row ≡ false
    → map (placed_in programmes (done ++ row ∷ [])) names ≡ map (placed_in programmes done) names
placed_same programmes names done row kind =
    map-same (placed_in programmes (done ++ row ∷ [])) (placed_in programmes done) names
    (λ x. rw (find-push (is_row_of MATCHED x) done row, kind, sym (option_or-none (find (is_row_of MATCHED x) done))) refl)

-- a resident for whom no M or U row was read has no M row
unmarked_unmatched : (name : List ℕ) (done : List Fields) → list_any (is_mark_of name) done ≡ false → list_any (is_row_of MATCHED name) done ≡ false
unmarked_unmatched name [] e = refl
unmarked_unmatched name (r ∷ done) e = by (is_row_of MATCHED name r) (is_row_of UNMATCHED name r) e (unmarked_unmatched name done)
  where
    by : (m u : Bool) → ((m || u) || list_any (is_mark_of name) done) ≡ false → (list_any (is_mark_of name) done ≡ false → list_any (is_row_of MATCHED name) done ≡ false)
        → (m || list_any (is_row_of MATCHED name) done) ≡ false
    by true u e more = absurd (cc e)
    by false true e more = absurd (cc e)
    by false false e more = more e

-- the mark at place i is set exactly if an M or U row with the name of resident i was read
pub marked_at : (marks : Marks) (rows done : List Fields) (name : List ℕ) (i : ℕ) (d : Bool) → IsMarked marks rows done → number_in (residents_of rows) name ≡ Some i
    → get_or marks.marked_residents.items i d ≡ list_any (is_mark_of name) done
marked_at marks rows done name i d h at = rw h.marked (at_number (λ (n : List ℕ). list_any (is_mark_of n) done) (residents_of rows) name i d at)

pub filled_at : (marks : Marks) (rows done : List Fields) (name : List ℕ) (i : ℕ) (d : Bool) → IsMarked marks rows done → number_in (programmes_of rows) name ≡ Some i
    → get_or marks.filled_programmes.items i d ≡ list_any (is_row_of FILLED name) done
filled_at marks rows done name i d h at = rw h.filled (at_number (λ (n : List ℕ). list_any (is_row_of FILLED n) done) (programmes_of rows) name i d at)

pub counts_at : (marks : Marks) (rows done : List Fields) (name : List ℕ) (i d : ℕ) → IsMarked marks rows done → number_in (programmes_of rows) name ≡ Some i
    → get_or marks.matched_counts.items i d ≡ count_by (is_matched_with name) done
counts_at marks rows done name i d h at = rw h.counts (at_number (λ (n : List ℕ). count_by (is_matched_with n) done) (programmes_of rows) name i d at)

-- an F row with an undeclared programme has the fault of an unknown name
pub mark_fault-unknown_filled : (rows before : List Fields) (row : Fields) (n : ℕ) → kind_of row ≡ FILLED → number_in (programmes_of rows) (field row 1) ≡ None → n ≡ next_place before
    → mark_fault rows before row ≡ Some (UnknownName n)
unfolding mark_fault
mark_fault-unknown_filled rows before row n kind none place = rw (kind, none, place) refl

pub mark_fault-other : (rows before : List Fields) (row : Fields) → is_kind MATCHED row ≡ false → is_kind UNMATCHED row ≡ false → is_kind FILLED row ≡ false → mark_fault rows before row ≡ None
unfolding mark_fault
mark_fault-other rows before row m u f = rw (m, u, f) refl

-- a row is refused exactly if the sheet has an earlier row of the same member
pub second_row : (fault : Option DocketFault) (seen flag : Bool) (e : DocketFault) → fault ≡ unless (not seen) e → flag ≡ seen → flag ≡ true → Refuses fault e
second_row fault seen flag e is same held = inr (rw (is, ← same, held) refl)

pub first_row : (fault : Option DocketFault) (seen flag : Bool) (e : DocketFault) → fault ≡ unless (not seen) e → flag ≡ seen → flag ≡ false → fault ≡ None
first_row fault seen flag e is same nay = rw (is, ← same, nay) refl

-- the marks stay as they are after a row that changes none of them
placed_kept : (rows done : List Fields) (row : Fields) → is_kind MATCHED row ≡ false
    → map (placed_in (programmes_of rows) done) (residents_of rows) ≡ map (placed_in (programmes_of rows) (done ++ row ∷ [])) (residents_of rows)
placed_kept rows done row kind = sym (placed_same (programmes_of rows) (residents_of rows) done row kind)

flags_kept : (p : List ℕ → Fields → Bool) (names : List (List ℕ)) (done : List Fields) (row : Fields) → ((x : List ℕ) → p x row ≡ false)
    → map (λ n. list_any (p n) done) names ≡ map (λ n. list_any (p n) (done ++ row ∷ [])) names
flags_kept p names done row others = sym (any_same p names done row others)

counts_kept : (p : List ℕ → Fields → Bool) (names : List (List ℕ)) (done : List Fields) (row : Fields) → ((x : List ℕ) → p x row ≡ false)
    → map (λ n. count_by (p n) done) names ≡ map (λ n. count_by (p n) (done ++ row ∷ [])) names
counts_kept p names done row others = sym (count_same p names done row others)

-- a row with one name sets the flag of this name and changes no other flag
flags_more : (p : List ℕ → Fields → Bool) (names : List (List ℕ)) (done : List Fields) (row : Fields) (i : ℕ) (name : List ℕ) (flags : List Bool)
    → distinct names ≡ true → number_in names name ≡ Some i → p name row ≡ true → ((x : List ℕ) → bytes_eq name x ≡ false → p x row ≡ false)
    → flags ≡ map (λ n. list_any (p n) done) names → slice_set flags i true ≡ map (λ n. list_any (p n) (done ++ row ∷ [])) names
flags_more p names done row i name flags d at here others h = rw h (sym (any_at p names done row name i d at here others))

-- an M row sets the programme and the flag of its resident in the marks, and changes no other mark
pub marks_matched : (m e : Marks) (rows done : List Fields) (row : Fields) (i p : ℕ) → distinct (programmes_of rows) ≡ true → distinct (residents_of rows) ≡ true
    → kind_of row ≡ MATCHED → number_in (residents_of rows) (field row 1) ≡ Some i → number_in (programmes_of rows) (field row 2) ≡ Some p
    → list_any (is_mark_of (field row 1)) done ≡ false → IsMarked m rows done
    → e.sheet ≡ slice_set m.sheet i (Some p) → e.marked_residents.items ≡ slice_set m.marked_residents.items i true → e.filled_programmes.items ≡ m.filled_programmes.items
    → e.matched_counts.items ≡ slice_set m.matched_counts.items p (count_by (is_matched_with (field row 2)) done + 1) → IsMarked e rows (done ++ row ∷ [])
marks_matched m e rows done row i p dp dr kind at to free h es em ef ec = record {
  sheet = es ∙ ap (λ (l : List (Option ℕ)). slice_set l i (Some p)) h.sheet
      ∙ sym (placed_at (programmes_of rows) (residents_of rows) done row i p dr at kind to (unmarked_unmatched (field row 1) done free));
  marked = em ∙ flags_more is_mark_of (residents_of rows) done row i (field row 1) m.marked_residents.items dr at
      (rw (kind, bytes_eq-same (field row 1)) refl) (λ x no. rw (kind, bytes_eq-swap (field row 1) x no) refl) h.marked;
  filled = ef ∙ h.filled ∙ flags_kept (is_row_of FILLED) (programmes_of rows) done row (λ x. rw kind refl);
  counts = ec ∙ ap (λ (l : List ℕ). slice_set l p (count_by (is_matched_with (field row 2)) done + 1)) h.counts
      ∙ sym (count_at is_matched_with (programmes_of rows) done row (field row 2) p dp to
      (rw (kind, bytes_eq-same (field row 2)) refl) (λ x no. rw (kind, bytes_eq-swap (field row 2) x no) refl));
}

pub marks_unmatched : (m e : Marks) (rows done : List Fields) (row : Fields) (i : ℕ) → distinct (residents_of rows) ≡ true
    → kind_of row ≡ UNMATCHED → number_in (residents_of rows) (field row 1) ≡ Some i → IsMarked m rows done
    → e.sheet ≡ m.sheet → e.marked_residents.items ≡ slice_set m.marked_residents.items i true → e.filled_programmes.items ≡ m.filled_programmes.items → e.matched_counts.items ≡ m.matched_counts.items → IsMarked e rows (done ++ row ∷ [])
marks_unmatched m e rows done row i dr kind at h es em ef ec = record {
  sheet = es ∙ h.sheet ∙ placed_kept rows done row (rw kind refl);
  marked = em ∙ flags_more is_mark_of (residents_of rows) done row i (field row 1) m.marked_residents.items dr at
      (rw (kind, bytes_eq-same (field row 1)) refl) (λ x no. rw (kind, bytes_eq-swap (field row 1) x no) refl) h.marked;
  filled = ef ∙ h.filled ∙ flags_kept (is_row_of FILLED) (programmes_of rows) done row (λ x. rw kind refl);
  counts = ec ∙ h.counts ∙ counts_kept is_matched_with (programmes_of rows) done row (λ x. rw kind refl);
}

pub marks_filled : (m e : Marks) (rows done : List Fields) (row : Fields) (i : ℕ) → distinct (programmes_of rows) ≡ true
    → kind_of row ≡ FILLED → number_in (programmes_of rows) (field row 1) ≡ Some i → IsMarked m rows done
    → e.sheet ≡ m.sheet → e.marked_residents.items ≡ m.marked_residents.items → e.filled_programmes.items ≡ slice_set m.filled_programmes.items i true → e.matched_counts.items ≡ m.matched_counts.items → IsMarked e rows (done ++ row ∷ [])
marks_filled m e rows done row i dp kind at h es em ef ec = record {
  sheet = es ∙ h.sheet ∙ placed_kept rows done row (rw kind refl);
  marked = em ∙ h.marked ∙ flags_kept is_mark_of (residents_of rows) done row (λ x. rw kind refl);
  filled = ef ∙ flags_more (is_row_of FILLED) (programmes_of rows) done row i (field row 1) m.filled_programmes.items dp at
      (rw (kind, bytes_eq-same (field row 1)) refl) (λ x no. rw (kind, bytes_eq-swap (field row 1) x no) refl) h.filled;
  counts = ec ∙ h.counts ∙ counts_kept is_matched_with (programmes_of rows) done row (λ x. rw kind refl);
}

pub marks_other : (m : Marks) (rows done : List Fields) (row : Fields) → is_kind MATCHED row ≡ false → is_kind UNMATCHED row ≡ false → is_kind FILLED row ≡ false
    → IsMarked m rows done → IsMarked m rows (done ++ row ∷ [])
marks_other m rows done row im iu ifl h = record {
  sheet = h.sheet ∙ placed_kept rows done row im;
  marked = h.marked ∙ flags_kept is_mark_of (residents_of rows) done row (λ x. rw (im, iu) refl);
  filled = h.filled ∙ flags_kept (is_row_of FILLED) (programmes_of rows) done row (λ x. rw ifl refl);
  counts = h.counts ∙ counts_kept is_matched_with (programmes_of rows) done row (λ x. rw im refl);
}

-- a list that has the same value for every name has this value as often as there are names
pub map_const : {B : Type 0} (c : B) (names : List (List ℕ)) → replicate (length names) c ≡ map (λ (n : List ℕ). c) names
map_const c [] = refl
map_const c (n ∷ names) = ap (λ l. c ∷ l) (map_const c names)

list_all-map : (f : List ℕ → Bool) (names : List (List ℕ)) → list_all (λ flag. flag) (map f names) ≡ list_all f names
list_all-map f [] = refl
list_all-map f (n ∷ names) = ap (λ b. f n && b) (list_all-map f names)

-- a sheet is incomplete exactly if some mark of a resident or of a programme isn't set
pub missing_is : (m : Marks) (rows : List Fields) (n : ℕ) → IsMarked m rows rows → n ≡ length rows
    → missing_fault rows ≡ unless (list_all (λ flag. flag) m.marked_residents.items && list_all (λ flag. flag) m.filled_programmes.items) (BadSheet n)
unfolding missing_fault
missing_is m rows n h place =
    rw (h.marked, h.filled, list_all-map (λ name. list_any (is_mark_of name) rows) (residents_of rows), list_all-map (λ name. list_any (is_row_of FILLED name) rows) (programmes_of rows), place) refl

-- the test of an F row finds a wrong number exactly if the row's numbers aren't the programme's count in the
-- marks and the programme's quota
pub filled_is : (rows before : List Fields) (row : Fields) (n i f c q quota : ℕ) → kind_of row ≡ FILLED → number_in (programmes_of rows) (field row 1) ≡ Some i
    → f ≡ unwrap_or (number_of (field row 2)) 0 → c ≡ count_by (is_matched_with (field row 1)) rows → q ≡ unwrap_or (number_of (field row 3)) 0
    → quota ≡ slice_index_or (quotas_of rows) i 0 → n ≡ next_place before → filled_fault rows before row ≡ unless ((f == c) && (q == quota)) (BadSheet n)
unfolding filled_fault
filled_is rows before row n i f c q quota kind at ef ec eq equ place = rw (kind, at, ef, ec, eq, equ, place) refl

pub filled_other : (rows before : List Fields) (row : Fields) → is_kind FILLED row ≡ false → filled_fault rows before row ≡ None
unfolding filled_fault
filled_other rows before row e = rw e refl

-- if a pass finds no fault in any row, it finds none in the row after these rows
pub clean_here : (f : List Fields → Fields → Option DocketFault) (done rest : List Fields) (row : Fields) → first_from f [] (done ++ row ∷ rest) ≡ None → f done row ≡ None
unfolding first_from
clean_here f done rest row none =
    let parts = both_none (first_from f [] done) (first_from f done (row ∷ rest)) (sym (first_from-append f [] done (row ∷ rest)) ∙ none) in
    (both_none (f done row) (first_from f (done ++ row ∷ []) rest) parts.1).0

-- the programme of an F row without a fault is declared
pub filled_known : (rows done : List Fields) (row : Fields) → mark_fault rows done row ≡ None → kind_of row ≡ FILLED → number_in (programmes_of rows) (field row 1) ≡ None → ⊥
filled_known rows done row here kind none =
    let fault = mark_fault-unknown_filled rows done row (next_place done) kind none refl in
    cc (here, fault)

pub test_true : (a b : Bool) (e : DocketFault) (fault : Option DocketFault) → fault ≡ unless (a && b) e → a ≡ true → fault ≡ unless b e
test_true a b e fault is t = rw (is, t) refl

pub test_false : (a b : Bool) (e : DocketFault) (fault : Option DocketFault) → fault ≡ unless (a && b) e → a ≡ false → fault ≡ unless a e
test_false a b e fault is t = rw (is, t) refl

-- before any row the marks are blank: no resident has a programme, and no flag is set
pub marks_none : (m : Marks) (rows : List Fields) (programmes residents : ℕ) → IsBlank m programmes residents → programmes ≡ length (programmes_of rows) → residents ≡ length (residents_of rows)
    → IsMarked m rows []
marks_none m rows programmes residents h ep er = record {
  sheet = h.sheet ∙ ap (λ n. replicate n None) er ∙ map_const None (residents_of rows);
  marked = h.marked ∙ ap (λ n. replicate n false) er ∙ map_const false (residents_of rows);
  filled = h.filled ∙ ap (λ n. replicate n false) ep ∙ map_const false (programmes_of rows);
  counts = h.counts ∙ ap (λ n. replicate n 0) ep ∙ map_const 0 (programmes_of rows);
}

-- after all rows the marks have the docket's sheet
pub sheet_all : (m : Marks) (rows : List Fields) → IsMarked m rows rows → m.sheet ≡ placement_of rows
unfolding placement_of
sheet_all m rows h = h.sheet

-- a kept row's number for field i is the text number of the name in field i, and finds the member with
-- this name
pub member_is : (texts : Fields) (members : List ℕ) (names : List (List ℕ)) (n i : ℕ) (row : Fields) → IsDistinct bytes_eq texts → AreNames texts members names → IsText texts n i row
    → position (nat_eq n) members ≡ number_in names (field row i)
member_is texts members names n i row d h at = member_named texts members n (field row i) d h.within at ∙ ap (λ l. number_in l (field row i)) h.texts_are

-- there are as many members' text numbers as members' names
pub members_are : (texts : Fields) (members : List ℕ) (names : List (List ℕ)) → AreNames texts members names → length members ≡ length names
members_are texts members names h = names_length texts members names h

-- fewer records stand before a record than there are records in all
pub room : (texts : Fields) (programmes residents : List ℕ) (all before : List Fields) (place : ℕ) (mark : Mark) (row : Fields) → StandsAfter texts programmes residents all before place mark row
    → length before < MAX_RECORDS
room texts programmes residents all before place mark row h =
    let size = ap length h.all_are ∙ length-append before (row ∷ h.rest) in
    let few = h.known.few in
    omega (arith, size, few)

-- the fault of a kept M row, found by the text numbers of its two names
pub matched_fault_is : (texts : Fields) (programmes residents : List ℕ) (all before : List Fields) (place r p : ℕ) (row : Fields)
    → StandsAfter texts programmes residents all before place (Matched r p) row
    → mark_fault all before row ≡ option_or (unless (is_some (position (nat_eq r) residents)) (UnknownName place))
    (option_or (unless (is_some (position (nat_eq p) programmes)) (UnknownName place)) (unless (not (list_any (is_mark_of (field row 1)) before)) (BadSheet place)))
unfolding mark_fault
matched_fault_is texts programmes residents all before place r p row h =
    rw (
      member_is texts residents (residents_of all) r 1 row h.known.distinct h.known.residents_are h.says.1,
      member_is texts programmes (programmes_of all) p 2 row h.known.distinct h.known.programmes_are h.says.2,
      h.place_is,
      h.says.0,
    )
    (by (number_in (residents_of all) (field row 1)))
  where
    by : (o : Option ℕ) → option_or (unless (is_some o && is_declared (programmes_of all) (field row 2)) (UnknownName (next_place before))) (unless (not (list_any (is_mark_of (field row 1)) before)) (BadSheet (next_place before)))
        ≡ option_or (unless (is_some o) (UnknownName (next_place before))) (option_or (unless (is_declared (programmes_of all) (field row 2)) (UnknownName (next_place before))) (unless (not (list_any (is_mark_of (field row 1)) before)) (BadSheet (next_place before))))
    by None = refl
    by (Some i) = refl

pub unmatched_fault_is : (texts : Fields) (programmes residents : List ℕ) (all before : List Fields) (place r : ℕ) (row : Fields)
    → StandsAfter texts programmes residents all before place (Unmatched r) row
    → mark_fault all before row ≡ option_or (unless (is_some (position (nat_eq r) residents)) (UnknownName place)) (unless (not (list_any (is_mark_of (field row 1)) before)) (BadSheet place))
unfolding mark_fault
unmatched_fault_is texts programmes residents all before place r row h =
    rw (member_is texts residents (residents_of all) r 1 row h.known.distinct h.known.residents_are h.says.1, h.place_is, h.says.0) refl

pub filled_fault_is : (texts : Fields) (programmes residents : List ℕ) (all before : List Fields) (place p f q : ℕ) (row : Fields)
    → StandsAfter texts programmes residents all before place (Filled p f q) row
    → mark_fault all before row ≡ option_or (unless (is_some (position (nat_eq p) programmes)) (UnknownName place)) (unless (not (list_any (is_row_of FILLED (field row 1)) before)) (BadSheet place))
unfolding mark_fault
filled_fault_is texts programmes residents all before place p f q row h =
    rw (member_is texts programmes (programmes_of all) p 1 row h.known.distinct h.known.programmes_are h.says.1, h.place_is, h.says.0) refl

-- the resident of an M row is the one whose text number the kept row has
pub matched_resident : (texts : Fields) (programmes residents : List ℕ) (all before : List Fields) (place r p i : ℕ) (row : Fields)
    → StandsAfter texts programmes residents all before place (Matched r p) row → position (nat_eq r) residents ≡ Some i → number_in (residents_of all) (field row 1) ≡ Some i
matched_resident texts programmes residents all before place r p i row h e = sym (member_is texts residents (residents_of all) r 1 row h.known.distinct h.known.residents_are h.says.1) ∙ e

pub matched_programme : (texts : Fields) (programmes residents : List ℕ) (all before : List Fields) (place r p i : ℕ) (row : Fields)
    → StandsAfter texts programmes residents all before place (Matched r p) row → position (nat_eq p) programmes ≡ Some i → number_in (programmes_of all) (field row 2) ≡ Some i
matched_programme texts programmes residents all before place r p i row h e = sym (member_is texts programmes (programmes_of all) p 2 row h.known.distinct h.known.programmes_are h.says.2) ∙ e

pub unmatched_resident : (texts : Fields) (programmes residents : List ℕ) (all before : List Fields) (place r i : ℕ) (row : Fields)
    → StandsAfter texts programmes residents all before place (Unmatched r) row → position (nat_eq r) residents ≡ Some i → number_in (residents_of all) (field row 1) ≡ Some i
unmatched_resident texts programmes residents all before place r i row h e = sym (member_is texts residents (residents_of all) r 1 row h.known.distinct h.known.residents_are h.says.1) ∙ e

pub filled_programme : (texts : Fields) (programmes residents : List ℕ) (all before : List Fields) (place p f q i : ℕ) (row : Fields)
    → StandsAfter texts programmes residents all before place (Filled p f q) row → position (nat_eq p) programmes ≡ Some i → number_in (programmes_of all) (field row 1) ≡ Some i
filled_programme texts programmes residents all before place p f q i row h e = sym (member_is texts programmes (programmes_of all) p 1 row h.known.distinct h.known.programmes_are h.says.1) ∙ e

pub filled_unknown : (texts : Fields) (programmes residents : List ℕ) (all before : List Fields) (place p f q : ℕ) (row : Fields)
    → StandsAfter texts programmes residents all before place (Filled p f q) row → position (nat_eq p) programmes ≡ None → number_in (programmes_of all) (field row 1) ≡ None
filled_unknown texts programmes residents all before place p f q row h e = sym (member_is texts programmes (programmes_of all) p 1 row h.known.distinct h.known.programmes_are h.says.1) ∙ e

-- blank marks, one for each member, are the marks of the residents and programmes before any row
pub blank_marked : (m : Marks) (texts : Fields) (programmes residents : List ℕ) (all : List Fields) (p r : ℕ) → IsBlank m p r → p ≡ length programmes → r ≡ length residents
    → AreKnown texts programmes residents all → IsMarked m all []
blank_marked m texts programmes residents all p r blank ep er known =
    marks_none m all p r blank (ep ∙ members_are texts programmes (programmes_of all) known.programmes_are) (er ∙ members_are texts residents (residents_of all) known.residents_are)
