-- The second pass goes over entries, each of which stands for a record. `done` are the records that it
-- has gone over, and `left` the entries that it has not reached.
use Rattle.std.proofs.Common.{◌≡◌, ◌<◌, ◌+◌, List, [], ◌∷◌, ◌++◌, Bool, true, false, length, take, sym, ◌∙◌, refl, ap, subst, arith, None, append_assoc, append-nil, get_or}
use Rattle.std.specs.Prelude.{◌||◌}
use Rattle.std.proofs.lemmas.Bool.{or_parts}
use Rattle.std.proofs.lemmas.List.{length-append, take-append-le, take_all, take_more}
use Rattle.match_model.specs.Draft.{Draft}
use Rattle.docket.specs.Fields.{is_kind, withdrawal_kind}
use Rattle.records.specs.Reading.{Fields}
use Rattle.docket.specs.ListPass.{ShowsRow}
use Rattle.docket.specs.Lists.{ListEntry, is_ranking_row}
use Rattle.docket.specs.Passes.{first_from, ranking_fault}
use Rattle.docket.specs.Ranking.{IsRanked}
use Rattle.docket.specs.Rows.{row_at}
use Rattle.docket.specs.declared.vocabulary.TheConstants.{PROGRAMME_LIST, RESIDENT_LIST}
use Rattle.docket.proofs.PassFacts.{first_from-push}
use Rattle.docket.proofs.RankingFacts.{ranking_fault-other}
use Rattle.docket.proofs.RankedFacts.{ranked_other}

-- the first entry in `left` is that of this row; if the row has no fault, the other entries have the property
-- `After`
pub record FirstLeft (rows done : List Fields) (row : Fields) (left : List ListEntry) (After : List ListEntry → Type 0) : Type 0 where
  pub entry : ListEntry
  pub more : List ListEntry
  pub left_is : left ≡ entry ∷ more
  pub record_no : entry.record_no ≡ length done + 1
  pub shown : ShowsRow rows row entry.kind entry.owner entry.listed
  pub after : first_from (ranking_fault rows) [] (done ++ row ∷ []) ≡ None → After more

-- if the row is a list or a withdrawal, and no earlier row has a fault, the first entry in `left` is that of the
-- row, and the other entries have the property `After`; a row of another kind has no entry
abbrev pub AtRow : Bool → List Fields → List Fields → Fields → List ListEntry → (List ListEntry → Type 0) → Type 0
AtRow true rows done row left After = first_from (ranking_fault rows) [] done ≡ None → FirstLeft rows done row left After
AtRow false rows done row left After = After left

-- up to the first fault, `left` has an entry of each list and each withdrawal after the records
-- `done`
unfoldable pub AreLeft : List Fields → List Fields → List Fields → List ListEntry → Type 0
AreLeft rows done [] left = left ≡ []
AreLeft rows done (row ∷ rest) left = AtRow (is_ranking_row row) rows done row left (λ more. AreLeft rows (done ++ row ∷ []) rest more)

-- in the list of all rows, the row follows directly after the rows `done`
pub record IsAmid (rows done : List Fields) (row : Fields) : Type 0 where
  pub there : length done < length rows
  pub before : take (length done) rows ≡ done
  pub here : row_at rows (length done) ≡ row
  pub past : take (length done + 1) rows ≡ done ++ row ∷ []

pub amid : (rows done rest : List Fields) (row : Fields) → rows ≡ done ++ row ∷ rest → IsAmid rows done row
amid rows done rest row is =
    let size = length-append done (row ∷ rest) in
    let sum = ap length is in
    let lt : length done < length rows = omega (arith, size, sum) in
    let before : take (length done) rows ≡ done = rw is (take-append-le (length done) done (row ∷ rest) (omega arith) ∙ take_all (length done) done (omega arith)) in
    let here : row_at rows (length done) ≡ row = rw is (at done) in
    record { there = lt; before = before; here = here; past = take_more rows (length done) [] lt ∙ (λ i. before i ++ here i ∷ []) }
  where
    at : (done : List Fields) → get_or (done ++ row ∷ rest) (length done) [] ≡ row
    at [] = refl
    at (d ∷ done) = at done

-- a row that is neither a list nor a withdrawal is neither a P row nor an R row nor a W row
other_parts : (row : Fields) → is_ranking_row row ≡ false → (is_kind PROGRAMME_LIST row ≡ false) × (is_kind RESIDENT_LIST row ≡ false) × (is_kind withdrawal_kind row ≡ false)
other_parts row e =
    let first = or_parts (is_kind PROGRAMME_LIST row || is_kind RESIDENT_LIST row) (is_kind withdrawal_kind row) e in
    let second = or_parts (is_kind PROGRAMME_LIST row) (is_kind RESIDENT_LIST row) first.0 in
    (second.0, second.1, first.1)

ranked_past : (b : Draft) (rows done rest : List Fields) (row : Fields) → rows ≡ done ++ row ∷ rest → is_ranking_row row ≡ false → IsRanked b rows done → IsRanked b rows (done ++ row ∷ [])
ranked_past b rows done rest row is e h =
    let a = amid rows done rest row is in
    let parts = other_parts row e in
    rw a.past at (ranked_other b rows (length done) a.there (rw a.here parts.0) (rw a.here parts.1) (rw a.here parts.2) (rw a.before h))

none_past : (rows done : List Fields) (row : Fields) → is_ranking_row row ≡ false → first_from (ranking_fault rows) [] done ≡ None → first_from (ranking_fault rows) [] (done ++ row ∷ []) ≡ None
none_past rows done row e none =
    let parts = other_parts row e in
    first_from-push (ranking_fault rows) done row none (ranking_fault-other rows done row parts.0 parts.1 parts.2)

-- the next list or withdrawal after the rows `done`, whose entry is the first in `left`
pub record NextLeft (b : Draft) (rows : List Fields) (entry : ListEntry) (more : List ListEntry) : Type 0 where
  pub done : List Fields
  pub row : Fields
  pub rest : List Fields
  pub split : rows ≡ done ++ row ∷ rest
  pub record_no : entry.record_no ≡ length done + 1
  pub shown : ShowsRow rows row entry.kind entry.owner entry.listed
  pub ranked : IsRanked b rows done
  pub none : first_from (ranking_fault rows) [] done ≡ None
  pub after : first_from (ranking_fault rows) [] (done ++ row ∷ []) ≡ None → AreLeft rows (done ++ row ∷ []) rest more

pub next_left : (b : Draft) (rows done rest : List Fields) (entry : ListEntry) (more : List ListEntry) → rows ≡ done ++ rest → IsRanked b rows done
    → first_from (ranking_fault rows) [] done ≡ None → AreLeft rows done rest (entry ∷ more) → NextLeft b rows entry more
unfolding AreLeft
next_left b rows done [] entry more is ranked none h = absurd (cc h)
next_left b rows done (row ∷ rest) entry more is ranked none h = by (is_ranking_row row) refl h
    (λ ranked none h. next_left b rows (done ++ row ∷ []) rest entry more (is ∙ sym (append_assoc done (row ∷ []) rest)) ranked none h)
  where
    by : (t : Bool) → is_ranking_row row ≡ t → AtRow t rows done row (entry ∷ more) (λ more. AreLeft rows (done ++ row ∷ []) rest more)
        → (IsRanked b rows (done ++ row ∷ []) → first_from (ranking_fault rows) [] (done ++ row ∷ []) ≡ None → AreLeft rows (done ++ row ∷ []) rest (entry ∷ more) → NextLeft b rows entry more) → NextLeft b rows entry more
    by true e h go =
        let first = h none in
        let same : entry ≡ first.entry = cc (first.left_is) in
        let others : more ≡ first.more = cc (first.left_is) in
        let place = first.record_no in
        record {
          done = done;
          row = row;
          rest = rest;
          split = is;
          record_no = ap (λ (e : ListEntry). e.record_no) same ∙ place;
          shown = subst (λ (e : ListEntry). ShowsRow rows row e.kind e.owner e.listed) (sym same) first.shown;
          ranked = ranked;
          none = none;
          after = λ n. subst (λ (m : List ListEntry). AreLeft rows (done ++ row ∷ []) rest m) (sym others) (first.after n);
        }
    by false e h go = go (ranked_past b rows done rest row is e ranked) (none_past rows done row e none) h

-- if `left` is empty, no row after the rows `done` is a list or a withdrawal
pub none_left : (b : Draft) (rows done rest : List Fields) → rows ≡ done ++ rest → IsRanked b rows done → first_from (ranking_fault rows) [] done ≡ None → AreLeft rows done rest []
    → IsRanked b rows rows × (first_from (ranking_fault rows) [] rows ≡ None)
unfolding AreLeft
none_left b rows done [] is ranked none h =
    let same : done ≡ rows = sym (is ∙ append-nil done) in
    (subst (λ (l : List Fields). IsRanked b rows l) same ranked, subst (λ (l : List Fields). first_from (ranking_fault rows) [] l ≡ None) same none)
none_left b rows done (row ∷ rest) is ranked none h = by (is_ranking_row row) refl h
    (λ ranked none h. none_left b rows (done ++ row ∷ []) rest (is ∙ sym (append_assoc done (row ∷ []) rest)) ranked none h)
  where
    by : (t : Bool) → is_ranking_row row ≡ t → AtRow t rows done row [] (λ more. AreLeft rows (done ++ row ∷ []) rest more)
        → (IsRanked b rows (done ++ row ∷ []) → first_from (ranking_fault rows) [] (done ++ row ∷ []) ≡ None → AreLeft rows (done ++ row ∷ []) rest [] → IsRanked b rows rows × (first_from (ranking_fault rows) [] rows ≡ None))
        → IsRanked b rows rows × (first_from (ranking_fault rows) [] rows ≡ None)
    by true e h go = let first = h none in absurd (cc (first.left_is))
    by false e h go = go (ranked_past b rows done rest row is e ranked) (none_past rows done row e none) h
