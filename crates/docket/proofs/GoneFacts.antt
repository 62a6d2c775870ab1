-- Which members are withdrawn, by number, after one more withdrawal.
use Rattle.docket.specs.Limits.{widest}
use Rattle.std.proofs.Common.{◌≡◌, ◌≤◌, ◌<◌, ◌+◌, ℕ, List, [], ◌∷◌, ◌++◌, Bool, true, false, length, take, sym, ◌∙◌, refl, ap, Option, Some, None, rules}
use Rattle.std.specs.Prelude.{◌||◌, not, bytes_eq, codes, nat_le, slice_set, slice_index_or, Result, Ok, Err}
use Rattle.std.specs.List.{list_any}
use Rattle.std.specs.Option.{option_or}
use Rattle.std.proofs.lemmas.List.{length-map, take_more}
use Rattle.std.proofs.lemmas.List.Folds.{list_any-append}
use Rattle.docket.specs.Fields.{kind_of, is_row_of, unless, withdrawal_kind, withdrawal_row_fault}
use Rattle.records.specs.Reading.{Fields, field}
use Rattle.docket.specs.Rows.{row_at}
use Rattle.docket.specs.Contents.{programmes_of, residents_of, is_withdrawal_of, withdrawn_of, lists_of}
use Rattle.docket_names.specs.Texts.{number_in}
use Rattle.docket.specs.Passes.{first_from, reading_fault, repeat_fault, is_version_2, ranking_fault, names_on, next_place}
use Rattle.docket.specs.Ranking.{IsRanked}
use Rattle.match_model.specs.Draft.{Draft, with_programme_withdrawn, with_resident_withdrawn}
use Rattle.match_model.specs.Draft as model
use Rattle.match_model.specs.Fault.{AnswersExactly}
use Rattle.docket.specs.declared.vocabulary.TheConstants.{PROGRAMME_LIST, RESIDENT_LIST, MAX_RECORDS}
use Rattle.docket.specs.declared.fault.DocketFault.TheVariants.{UnknownKind, UnknownName, DeclaredTwice}
use Rattle.docket.proofs.NumberFacts.{distinct, number_below, at_number, map_at}
use Rattle.docket_names.proofs.NameFacts.{bytes_eq-same}
use Rattle.docket.proofs.SoundFacts.{both_none, unless_none}
use Rattle.docket.proofs.RankingFacts.{sound_row, off, bytes_eq-swap, lists_of-other, distinct_programmes, distinct_residents}
use Rattle.docket.proofs.WithdrawalFacts.{withdrawn_of-other}

-- one more W row of a side sets the flag of its member and leaves all other flags unchanged
pub withdrawn_of-owner : (side : List ℕ) (names : List (List ℕ)) (before : List Fields) (row : Fields) (i : ℕ) → distinct names ≡ true
    → number_in names (field row 2) ≡ Some i → is_row_of withdrawal_kind side row ≡ true
    → withdrawn_of side names (before ++ row ∷ []) ≡ slice_set (withdrawn_of side names before) i true
unfolding withdrawn_of
withdrawn_of-owner side names before row i d at on =
    map_at flag_before flag_after names (field row 2) i d at other ∙ ap (slice_set (withdrawn_of side names before) i) own
  where
    flag_before : List ℕ → Bool
    flag_before name = list_any (is_withdrawal_of side name) before

    flag_after : List ℕ → Bool
    flag_after name = list_any (is_withdrawal_of side name) (before ++ row ∷ [])

    left : (a : Bool) → (a || false) ≡ a
    left true = refl
    left false = refl

    right : (a : Bool) → (a || true) ≡ true
    right true = refl
    right false = refl

    other : (x : List ℕ) → bytes_eq (field row 2) x ≡ false → flag_after x ≡ flag_before x
    other x e = rw (list_any-append (is_withdrawal_of side x) before (row ∷ []), on, bytes_eq-swap (field row 2) x e) (left (flag_before x))

    own : flag_after (field row 2) ≡ true
    own = rw (list_any-append (is_withdrawal_of side (field row 2)) before (row ∷ []), on, bytes_eq-same (field row 2)) (right (flag_before (field row 2)))

-- the flag of the member at place i is set exactly if some W row of the side has this member's name
pub withdrawn_at : (side : List ℕ) (names : List (List ℕ)) (before : List Fields) (name : List ℕ) (i : ℕ) → number_in names name ≡ Some i
    → slice_index_or (withdrawn_of side names before) i false ≡ list_any (is_withdrawal_of side name) before
unfolding withdrawn_of
withdrawn_at side names before name i at = at_number (λ (n : List ℕ). list_any (is_withdrawal_of side n) before) names name i false at

-- there is one flag for each member
pub length-withdrawn_of : (side : List ℕ) (names : List (List ℕ)) (rows : List Fields) → length (withdrawn_of side names rows) ≡ length names
unfolding withdrawn_of
length-withdrawn_of side names rows = length-map names (λ (name : List ℕ). list_any (is_withdrawal_of side name) rows)

-- a W row that the first pass accepted withdraws a member whom no earlier row withdrew
pub not_withdrawn : (rows : List Fields) (k : ℕ) → first_from (reading_fault widest) [] rows ≡ None → length rows ≤ MAX_RECORDS → k < length rows
    → kind_of (row_at rows k) ≡ withdrawal_kind → list_any (is_withdrawal_of (field (row_at rows k) 1) (field (row_at rows k) 2)) (take k rows) ≡ false
unfolding repeat_fault
not_withdrawn rows k sound few lt kind = by (take k rows) (row_at rows k) kind (sound_row rows k sound few lt).1
  where
    by : (before : List Fields) (row : Fields) → kind_of row ≡ withdrawal_kind → repeat_fault before row ≡ None
        → list_any (is_withdrawal_of (field row 1) (field row 2)) before ≡ false
    by before row kind none =
        let known = unless (is_version_2 before) (UnknownKind (next_place before)) in
        let fresh = unless (not (list_any (is_withdrawal_of (field row 1) (field row 2)) before)) (DeclaredTwice (next_place before)) in
        let asked : option_or known (option_or (withdrawal_row_fault (next_place before) row) fresh) ≡ None = rw kind at none in
        let own = both_none known (option_or (withdrawal_row_fault (next_place before) row) fresh) asked in
        let last = both_none (withdrawal_row_fault (next_place before) row) fresh own.1 in
        off _ (unless_none (not (list_any (is_withdrawal_of (field row 1) (field row 2)) before)) (DeclaredTwice (next_place before)) last.1)

-- in the second pass a W row has a fault exactly if its member is not declared
pub withdrawal_named : (rows before : List Fields) (row : Fields) (names : List (List ℕ)) (n i : ℕ) → kind_of row ≡ withdrawal_kind → names_on (field row 1) rows ≡ names
    → number_in names (field row 2) ≡ Some i → ranking_fault rows before row ≡ None
unfolding ranking_fault
withdrawal_named rows before row names n i kind on at = rw (kind, on, at) refl

pub withdrawal_unnamed : (rows before : List Fields) (row : Fields) (names : List (List ℕ)) (n : ℕ) → kind_of row ≡ withdrawal_kind → names_on (field row 1) rows ≡ names
    → number_in names (field row 2) ≡ None → n ≡ next_place before → ranking_fault rows before row ≡ Some (UnknownName n)
unfolding ranking_fault
withdrawal_unnamed rows before row names n kind on at place = rw (kind, on, at, place) refl

-- the builder is right after a W row if it sets the flag of the row's member and changes nothing
-- else
ranked_gone : (b e : Draft) (rows : List Fields) (k : ℕ) → k < length rows → kind_of (row_at rows k) ≡ withdrawal_kind → IsRanked b rows (take k rows)
    → e.quotas ≡ b.quotas → e.programme_lists ≡ b.programme_lists → e.resident_lists ≡ b.resident_lists
    → e.programmes_withdrawn ≡ withdrawn_of (codes "P") (programmes_of rows) (take k rows ++ row_at rows k ∷ [])
    → e.residents_withdrawn ≡ withdrawn_of (codes "R") (residents_of rows) (take k rows ++ row_at rows k ∷ [])
    → IsRanked e rows (take (k + 1) rows)
ranked_gone b e rows k lt kind h q p r pg rg =
    let next = take_more rows k [] lt in
    record {
      quotas = q ∙ h.quotas;
      programme_lists = p ∙ h.programme_lists
          ∙ sym (lists_of-other PROGRAMME_LIST (programmes_of rows) (residents_of rows) (take k rows) (row_at rows k) (rw kind refl))
          ∙ ap (lists_of PROGRAMME_LIST (programmes_of rows) (residents_of rows)) (sym next);
      resident_lists = r ∙ h.resident_lists
          ∙ sym (lists_of-other RESIDENT_LIST (residents_of rows) (programmes_of rows) (take k rows) (row_at rows k) (rw kind refl))
          ∙ ap (lists_of RESIDENT_LIST (residents_of rows) (programmes_of rows)) (sym next);
      programmes_withdrawn = pg ∙ ap (withdrawn_of (codes "P") (programmes_of rows)) (sym next);
      residents_withdrawn = rg ∙ ap (withdrawn_of (codes "R") (residents_of rows)) (sym next);
    }

pub ranked_programme_gone : (b e : Draft) (rows : List Fields) (k i : ℕ) → first_from (reading_fault widest) [] rows ≡ None → length rows ≤ MAX_RECORDS → k < length rows
    → kind_of (row_at rows k) ≡ withdrawal_kind → field (row_at rows k) 1 ≡ codes "P" → number_in (programmes_of rows) (field (row_at rows k) 2) ≡ Some i
    → IsRanked b rows (take k rows) → e ≡ with_programme_withdrawn b i → IsRanked e rows (take (k + 1) rows)
ranked_programme_gone b e rows k i sound few lt kind on at h is =
    ranked_gone b e rows k lt kind h (ap (λ (d : Draft). d.quotas) is) (ap (λ (d : Draft). d.programme_lists) is) (ap (λ (d : Draft). d.resident_lists) is)
    (ap (λ (d : Draft). d.programmes_withdrawn) is
    ∙ ap (λ (flags : List Bool). slice_set flags i true) h.programmes_withdrawn
    ∙ sym (withdrawn_of-owner (codes "P") (programmes_of rows) (take k rows) (row_at rows k) i (distinct_programmes rows sound few) at (rw (kind, on) refl)))
    (ap (λ (d : Draft). d.residents_withdrawn) is ∙ h.residents_withdrawn
    ∙ sym (withdrawn_of-other (codes "R") (residents_of rows) (take k rows) (row_at rows k) (rw (kind, on) refl)))

pub ranked_resident_gone : (b e : Draft) (rows : List Fields) (k i : ℕ) → first_from (reading_fault widest) [] rows ≡ None → length rows ≤ MAX_RECORDS → k < length rows
    → kind_of (row_at rows k) ≡ withdrawal_kind → field (row_at rows k) 1 ≡ codes "R" → number_in (residents_of rows) (field (row_at rows k) 2) ≡ Some i
    → IsRanked b rows (take k rows) → e ≡ with_resident_withdrawn b i → IsRanked e rows (take (k + 1) rows)
ranked_resident_gone b e rows k i sound few lt kind on at h is =
    ranked_gone b e rows k lt kind h (ap (λ (d : Draft). d.quotas) is) (ap (λ (d : Draft). d.programme_lists) is) (ap (λ (d : Draft). d.resident_lists) is)
    (ap (λ (d : Draft). d.programmes_withdrawn) is ∙ h.programmes_withdrawn
    ∙ sym (withdrawn_of-other (codes "P") (programmes_of rows) (take k rows) (row_at rows k) (rw (kind, on) refl)))
    (ap (λ (d : Draft). d.residents_withdrawn) is
    ∙ ap (λ (flags : List Bool). slice_set flags i true) h.residents_withdrawn
    ∙ sym (withdrawn_of-owner (codes "R") (residents_of rows) (take k rows) (row_at rows k) i (distinct_residents rows sound few) at (rw (kind, on) refl)))

-- the builder accepts the withdrawal in a W row that names a declared member
stays : (side : List ℕ) (names : List (List ℕ)) (rows : List Fields) (k i : ℕ) (flags : List Bool) → first_from (reading_fault widest) [] rows ≡ None → length rows ≤ MAX_RECORDS
    → k < length rows → kind_of (row_at rows k) ≡ withdrawal_kind → field (row_at rows k) 1 ≡ side → number_in names (field (row_at rows k) 2) ≡ Some i
    → flags ≡ withdrawn_of side names (take k rows) → model.withdrawal_fault flags i ≡ None
stays side names rows k i flags sound few lt kind on at is =
    let below = number_below names (field (row_at rows k) 2) i at in
    let there : nat_le (length names) i ≡ false = search (rules, below) in
    let fresh : list_any (is_withdrawal_of side (field (row_at rows k) 2)) (take k rows) ≡ false = rw (← on) (not_withdrawn rows k sound few lt kind) in
    rw (is, length-withdrawn_of side names (take k rows), there, withdrawn_at side names (take k rows) (field (row_at rows k) 2) i at, fresh) refl

pub programme_stays : (b : Draft) (rows : List Fields) (k i : ℕ) → first_from (reading_fault widest) [] rows ≡ None → length rows ≤ MAX_RECORDS → k < length rows
    → kind_of (row_at rows k) ≡ withdrawal_kind → field (row_at rows k) 1 ≡ codes "P" → number_in (programmes_of rows) (field (row_at rows k) 2) ≡ Some i
    → IsRanked b rows (take k rows) → model.withdrawal_fault b.programmes_withdrawn i ≡ None
programme_stays b rows k i sound few lt kind on at h = stays (codes "P") (programmes_of rows) rows k i b.programmes_withdrawn sound few lt kind on at h.programmes_withdrawn

pub resident_stays : (b : Draft) (rows : List Fields) (k i : ℕ) → first_from (reading_fault widest) [] rows ≡ None → length rows ≤ MAX_RECORDS → k < length rows
    → kind_of (row_at rows k) ≡ withdrawal_kind → field (row_at rows k) 1 ≡ codes "R" → number_in (residents_of rows) (field (row_at rows k) 2) ≡ Some i
    → IsRanked b rows (take k rows) → model.withdrawal_fault b.residents_withdrawn i ≡ None
resident_stays b rows k i sound few lt kind on at h = stays (codes "R") (residents_of rows) rows k i b.residents_withdrawn sound few lt kind on at h.residents_withdrawn

-- if a test had no fault, the call that makes this test did not refuse
pub not_refused : {T E : Type 0} (fault : Option E) (r : Result T E) (e : E) → fault ≡ None → AnswersExactly fault r → r ≡ Err e → ⊥
not_refused fault (Ok v) e none answers is = cc is
not_refused fault (Err f) e none answers is = cc (none, answers)
