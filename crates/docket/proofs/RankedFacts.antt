-- What the builder has after each list and each withdrawal of the second pass, and which faults it finds.
use Rattle.docket.specs.Limits.{widest}
use Rattle.std.proofs.Common.{◌≡◌, ◌≤◌, ◌<◌, ◌+◌, ℕ, List, [], true, false, length, take, drop, sym, ◌∙◌, refl, ap, Option, Some, None, inl, inr, rules}
use Rattle.std.specs.Prelude.{not, if◌then◌else◌, codes, slice_set, nat_le, replicate}
use Rattle.std.specs.List.{list_all}
use Rattle.std.proofs.lemmas.List.{take_more}
use Rattle.match_model.specs.Draft.{Draft, with_programme_list, with_resident_list, list_fault, has_no_repeats, instance_of, IsFinishFault}
use Rattle.match_model.specs.declared.fault.ModelFault.{ModelFault}
use Rattle.match_model.specs.declared.fault.ModelFault.TheVariants as model
use Rattle.docket.specs.Fields.{kind_of, is_kind, withdrawal_kind}
use Rattle.records.specs.Reading.{Fields, field}
use Rattle.docket.specs.Rows.{row_at}
use Rattle.docket.specs.Contents.{listed_in, programmes_of, residents_of, lists_of, withdrawn_of, draft_of}
use Rattle.docket_names.specs.Texts.{AreNames, number_in, is_declared}
use Rattle.docket_names.proofs.TextFacts.{names_length}
use Rattle.std.proofs.lemmas.Simd.{splat_is_map}
use Rattle.docket.specs.Ranking.{IsRanked}
use Rattle.docket.specs.Passes.{first_from, reading_fault, pairs_fault}
use Rattle.match_model.specs.Instance.{pair_count}
use Rattle.match_model.specs.Limits.{most_pairs}
use Rattle.docket.specs.Answers.{Refuses, at_record}
use Rattle.docket.specs.declared.vocabulary.TheConstants.{PROGRAMME_LIST, RESIDENT_LIST, MAX_RECORDS}
use Rattle.docket.proofs.WithdrawalFacts.{withdrawn_of-other}
use Rattle.docket.proofs.RankingFacts.{distinct_programmes, distinct_residents, length-lists_of, length-quotas_of, list_fault-row, lists_of-none, lists_of-other, lists_of-owner, programme_list_free, resident_list_free, sound_row}

-- what the builder has after a P row: the list of the row's programme
pub ranked_programme : (b e : Draft) (rows : List Fields) (k i : ℕ) → first_from (reading_fault widest) [] rows ≡ None → length rows ≤ MAX_RECORDS → k < length rows
    → kind_of (row_at rows k) ≡ PROGRAMME_LIST → number_in (programmes_of rows) (field (row_at rows k) 1) ≡ Some i → IsRanked b rows (take k rows)
    → e ≡ with_programme_list b i (listed_in (residents_of rows) (row_at rows k)) → IsRanked e rows (take (k + 1) rows)
ranked_programme b e rows k i sound few lt kind at h is =
    let free = programme_list_free (take k rows) (row_at rows k) (sound_row rows k sound few lt).1 kind in
    let next = take_more rows k [] lt in
    record {
      quotas = ap (λ (d : Draft). d.quotas) is ∙ h.quotas;
      programme_lists =
          ap (λ (d : Draft). d.programme_lists) is
          ∙ ap (λ (l : List (Option (List ℕ))). slice_set l i (Some (listed_in (residents_of rows) (row_at rows k)))) h.programme_lists
          ∙ sym (lists_of-owner PROGRAMME_LIST (programmes_of rows) (residents_of rows) (take k rows) (row_at rows k) i (distinct_programmes rows sound few) at (rw kind refl) free)
          ∙ ap (lists_of PROGRAMME_LIST (programmes_of rows) (residents_of rows)) (sym next);
      resident_lists =
          ap (λ (d : Draft). d.resident_lists) is ∙ h.resident_lists
          ∙ sym (lists_of-other RESIDENT_LIST (residents_of rows) (programmes_of rows) (take k rows) (row_at rows k) (rw kind refl))
          ∙ ap (lists_of RESIDENT_LIST (residents_of rows) (programmes_of rows)) (sym next);
      programmes_withdrawn = ap (λ (d : Draft). d.programmes_withdrawn) is ∙ h.programmes_withdrawn
          ∙ sym (withdrawn_of-other (codes "P") (programmes_of rows) (take k rows) (row_at rows k) (rw kind refl))
          ∙ ap (withdrawn_of (codes "P") (programmes_of rows)) (sym next);
      residents_withdrawn = ap (λ (d : Draft). d.residents_withdrawn) is ∙ h.residents_withdrawn
          ∙ sym (withdrawn_of-other (codes "R") (residents_of rows) (take k rows) (row_at rows k) (rw kind refl))
          ∙ ap (withdrawn_of (codes "R") (residents_of rows)) (sym next);
    }

pub ranked_resident : (b e : Draft) (rows : List Fields) (k i : ℕ) → first_from (reading_fault widest) [] rows ≡ None → length rows ≤ MAX_RECORDS → k < length rows
    → kind_of (row_at rows k) ≡ RESIDENT_LIST → number_in (residents_of rows) (field (row_at rows k) 1) ≡ Some i → IsRanked b rows (take k rows)
    → e ≡ with_resident_list b i (listed_in (programmes_of rows) (row_at rows k)) → IsRanked e rows (take (k + 1) rows)
ranked_resident b e rows k i sound few lt kind at h is =
    let free = resident_list_free (take k rows) (row_at rows k) (sound_row rows k sound few lt).1 kind in
    let next = take_more rows k [] lt in
    record {
      quotas = ap (λ (d : Draft). d.quotas) is ∙ h.quotas;
      resident_lists =
          ap (λ (d : Draft). d.resident_lists) is
          ∙ ap (λ (l : List (Option (List ℕ))). slice_set l i (Some (listed_in (programmes_of rows) (row_at rows k)))) h.resident_lists
          ∙ sym (lists_of-owner RESIDENT_LIST (residents_of rows) (programmes_of rows) (take k rows) (row_at rows k) i (distinct_residents rows sound few) at (rw kind refl) free)
          ∙ ap (lists_of RESIDENT_LIST (residents_of rows) (programmes_of rows)) (sym next);
      programme_lists =
          ap (λ (d : Draft). d.programme_lists) is ∙ h.programme_lists
          ∙ sym (lists_of-other PROGRAMME_LIST (programmes_of rows) (residents_of rows) (take k rows) (row_at rows k) (rw kind refl))
          ∙ ap (lists_of PROGRAMME_LIST (programmes_of rows) (residents_of rows)) (sym next);
      programmes_withdrawn = ap (λ (d : Draft). d.programmes_withdrawn) is ∙ h.programmes_withdrawn
          ∙ sym (withdrawn_of-other (codes "P") (programmes_of rows) (take k rows) (row_at rows k) (rw kind refl))
          ∙ ap (withdrawn_of (codes "P") (programmes_of rows)) (sym next);
      residents_withdrawn = ap (λ (d : Draft). d.residents_withdrawn) is ∙ h.residents_withdrawn
          ∙ sym (withdrawn_of-other (codes "R") (residents_of rows) (take k rows) (row_at rows k) (rw kind refl))
          ∙ ap (withdrawn_of (codes "R") (residents_of rows)) (sym next);
    }

-- a row that is neither a list nor a withdrawal does not change the builder
pub ranked_other : (b : Draft) (rows : List Fields) (k : ℕ) → k < length rows → is_kind PROGRAMME_LIST (row_at rows k) ≡ false → is_kind RESIDENT_LIST (row_at rows k) ≡ false
    → is_kind withdrawal_kind (row_at rows k) ≡ false → IsRanked b rows (take k rows) → IsRanked b rows (take (k + 1) rows)
ranked_other b rows k lt p r w h =
    let next = take_more rows k [] lt in
    record {
      quotas = h.quotas;
      programme_lists = h.programme_lists
          ∙ sym (lists_of-other PROGRAMME_LIST (programmes_of rows) (residents_of rows) (take k rows) (row_at rows k) p)
          ∙ ap (lists_of PROGRAMME_LIST (programmes_of rows) (residents_of rows)) (sym next);
      resident_lists = h.resident_lists
          ∙ sym (lists_of-other RESIDENT_LIST (residents_of rows) (programmes_of rows) (take k rows) (row_at rows k) r)
          ∙ ap (lists_of RESIDENT_LIST (residents_of rows) (programmes_of rows)) (sym next);
      programmes_withdrawn = h.programmes_withdrawn
          ∙ sym (withdrawn_of-other (codes "P") (programmes_of rows) (take k rows) (row_at rows k) (rw w refl))
          ∙ ap (withdrawn_of (codes "P") (programmes_of rows)) (sym next);
      residents_withdrawn = h.residents_withdrawn
          ∙ sym (withdrawn_of-other (codes "R") (residents_of rows) (take k rows) (row_at rows k) (rw w refl))
          ∙ ap (withdrawn_of (codes "R") (residents_of rows)) (sym next);
    }

-- the only fault that the builder can find in the list of a P row is that a resident stands on it
-- twice
pub programme_list_fault : (b : Draft) (rows : List Fields) (k i : ℕ) (items : List ℕ) → first_from (reading_fault widest) [] rows ≡ None → length rows ≤ MAX_RECORDS → k < length rows
    → kind_of (row_at rows k) ≡ PROGRAMME_LIST → number_in (programmes_of rows) (field (row_at rows k) 1) ≡ Some i → IsRanked b rows (take k rows)
    → items ≡ listed_in (residents_of rows) (row_at rows k) → list_all (is_declared (residents_of rows)) (drop 2 (row_at rows k)) ≡ true
    → list_fault b.programme_lists i (length b.resident_lists) items ≡ (if not (has_no_repeats (listed_in (residents_of rows) (row_at rows k))) then Some model.ListedTwice else None)
programme_list_fault b rows k i items sound few lt kind at h is known =
    let free = programme_list_free (take k rows) (row_at rows k) (sound_row rows k sound few lt).1 kind in
    rw (is, h.programme_lists, h.resident_lists, length-lists_of RESIDENT_LIST (residents_of rows) (programmes_of rows) (take k rows))
    (list_fault-row PROGRAMME_LIST (programmes_of rows) (residents_of rows) (take k rows) (row_at rows k) i at free known)

pub resident_list_fault : (b : Draft) (rows : List Fields) (k i : ℕ) (items : List ℕ) → first_from (reading_fault widest) [] rows ≡ None → length rows ≤ MAX_RECORDS → k < length rows
    → kind_of (row_at rows k) ≡ RESIDENT_LIST → number_in (residents_of rows) (field (row_at rows k) 1) ≡ Some i → IsRanked b rows (take k rows)
    → items ≡ listed_in (programmes_of rows) (row_at rows k) → list_all (is_declared (programmes_of rows)) (drop 2 (row_at rows k)) ≡ true
    → list_fault b.resident_lists i (length b.quotas) items ≡ (if not (has_no_repeats (listed_in (programmes_of rows) (row_at rows k))) then Some model.ListedTwice else None)
resident_list_fault b rows k i items sound few lt kind at h is known =
    let free = resident_list_free (take k rows) (row_at rows k) (sound_row rows k sound few lt).1 kind in
    rw (is, h.resident_lists, h.quotas, length-quotas_of rows)
    (list_fault-row RESIDENT_LIST (residents_of rows) (programmes_of rows) (take k rows) (row_at rows k) i at free known)

pub same_draft : {b c : Draft} → b.limits ≡ c.limits → b.quotas ≡ c.quotas → b.programme_lists ≡ c.programme_lists → b.resident_lists ≡ c.resident_lists
    → b.programmes_withdrawn ≡ c.programmes_withdrawn → b.residents_withdrawn ≡ c.residents_withdrawn → b ≡ c
same_draft l q p r pg rg = λ i. record { limits = l i; quotas = q i; programme_lists = p i; resident_lists = r i; programmes_withdrawn = pg i; residents_withdrawn = rg i }

-- after all rows the builder has the quotas, lists and withdrawals of the rows, and the limits that
-- it had
ranked_all : (b : Draft) (rows : List Fields) → IsRanked b rows rows → b ≡ record (draft_of rows) { limits = b.limits }
ranked_all b rows h = same_draft refl h.quotas h.programme_lists h.resident_lists h.programmes_withdrawn h.residents_withdrawn

-- the instance of the builder has as many acceptable pairs as the instance of the rows
same_pairs : (b : Draft) (rows : List Fields) → IsRanked b rows rows → pair_count (instance_of b) ≡ pair_count (instance_of (draft_of rows))
same_pairs b rows h = ap (λ (d : Draft). pair_count (instance_of d)) (ranked_all b rows h)

pub pairs_fine : (b : Draft) (rows : List Fields) → IsRanked b rows rows → pair_count (instance_of b) ≤ most_pairs b.limits → pairs_fault b.limits rows ≡ None
unfolding pairs_fault
pairs_fine b rows h few =
    let small : nat_le (pair_count (instance_of (draft_of rows))) (most_pairs b.limits) ≡ true = rw (same_pairs b rows h) at (at_most few) in
    rw small refl
  where
    at_most : pair_count (instance_of b) ≤ most_pairs b.limits → nat_le (pair_count (instance_of b)) (most_pairs b.limits) ≡ true
    at_most le = search (rules, le)

pub pairs_over : (b : Draft) (rows : List Fields) (fault : ModelFault) (n : ℕ) → IsRanked b rows rows → IsFinishFault b fault → n ≡ length rows
    → Refuses (pairs_fault b.limits rows) (at_record n fault)
unfolding pairs_fault
pairs_over b rows fault n h (inl memory) place = inl (ap (at_record n) memory)
pairs_over b rows fault n h (inr over) place =
    let large : nat_le (pair_count (instance_of (draft_of rows))) (most_pairs b.limits) ≡ false = rw (same_pairs b rows h) at (above over.1) in
    inr (rw (large, over.0, place) refl)
  where
    above : most_pairs b.limits < pair_count (instance_of b) → nat_le (pair_count (instance_of b)) (most_pairs b.limits) ≡ false
    above lt = search (rules, lt)

-- before any list is given, each programme has none
pub none_given : (texts : Fields) (programmes : List ℕ) (b : Draft) (rows : List Fields) → AreNames texts programmes (programmes_of rows) → IsRanked b rows []
    → replicate (length programmes) None ≡ b.programme_lists
none_given texts programmes b rows names h =
    splat_is_map (programmes_of rows) (length programmes) None (sym (names_length texts programmes (programmes_of rows) names))
    ∙ sym (h.programme_lists ∙ lists_of-none PROGRAMME_LIST (programmes_of rows) (residents_of rows))
