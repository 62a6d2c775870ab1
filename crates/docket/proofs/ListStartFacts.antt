-- Before the second pass, the store has an entry of each rank list and each withdrawal.
use Rattle.std.proofs.Common.{◌≡◌, ◌≤◌, ◌+◌, ℕ, List, [], ◌∷◌, ◌++◌, Bool, true, false, length, sym, ◌∙◌, refl, ap, subst, None, append_assoc}
use Rattle.std.proofs.lemmas.List.{length-append}
use Rattle.records.specs.Reading.{Fields}
use Rattle.docket.specs.Limits.{widest}
use Rattle.docket.specs.Lists.{ListEntry, is_ranking_row, entry_in, entries_from}
use Rattle.docket.specs.Passes.{first_from, reading_fault}
use Rattle.docket.specs.declared.vocabulary.TheConstants.{MAX_RECORDS}
use Rattle.docket.proofs.ListFacts.{no_entry}
use Rattle.docket.proofs.ListEntryFacts.{has_shown}
use Rattle.docket.proofs.ListLeftFacts.{AreLeft, AtRow}

-- a list with one more row at its end is longer by one
pub done_more : (done : List Fields) (row : Fields) → length (done ++ row ∷ []) ≡ length done + 1
done_more done row = length-append done (row ∷ [])

-- if the first pass accepted all rows, the entries of the rows `rest` are what the second pass
-- needs for these rows
pub left_whole : (rows done rest : List Fields) → first_from (reading_fault widest) [] rows ≡ None → length rows ≤ MAX_RECORDS → rows ≡ done ++ rest
    → AreLeft rows done rest (entries_from (length done) rest)
unfolding AreLeft entries_from
left_whole rows done [] sound few is = refl
left_whole rows done (row ∷ rest) sound few is =
    by (is_ranking_row row) refl
    (subst (λ (n : ℕ). AreLeft rows (done ++ row ∷ []) rest (entries_from n rest)) (done_more done row) (left_whole rows (done ++ row ∷ []) rest sound few (is ∙ sym (append_assoc done (row ∷ []) rest))))
  where
    by : (t : Bool) → is_ranking_row row ≡ t → AreLeft rows (done ++ row ∷ []) rest (entries_from (length done + 1) rest)
        → AtRow t rows done row (entry_in (length done + 1) row ++ entries_from (length done + 1) rest) (λ more. AreLeft rows (done ++ row ∷ []) rest more)
    by false e more = subst (λ (l : List ListEntry). AreLeft rows (done ++ row ∷ []) rest (l ++ entries_from (length done + 1) rest)) (sym (no_entry (length done + 1) row e)) more
    by true e more = λ none.
        let s = has_shown rows done rest (length done + 1) row sound few is e in
        record {
          entry = s.entry;
          more = entries_from (length done + 1) rest;
          left_is = ap (λ (l : List ListEntry). l ++ entries_from (length done + 1) rest) s.is;
          record_no = s.record_no;
          shown = s.shown;
          after = λ fine. more;
        }
