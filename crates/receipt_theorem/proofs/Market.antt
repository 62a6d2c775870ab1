-- What is known of the members of a docket without a fault.
use Rattle.std.proofs.Common.{◌≡◌, ℕ, zero, suc, ◌+◌, ◌<◌, ◌≤◌, ◌&&◌, ◌||◌, Bool, true, false, List, [], ◌∷◌, ◌++◌, length, get_or, nat_le, nat_lt, Option, Some, None, option_map, refl, sym, ap, ◌∙◌, arith, subst, rules, inl, inr}
use Rattle.std.specs.Prelude.{if◌then◌else◌, bytes_eq, not, unwrap_or, map}
use Rattle.std.specs.Option.{option_or}
use Rattle.std.specs.List.{All, list_all, list_any}
use Rattle.std.proofs.lemmas.Bool.{and_parts, cases_lt, eqb-true, lt-ltb, or_parts}
use Rattle.std.proofs.lemmas.List.{get_or_past, length_push}
use Rattle.std.proofs.lemmas.List.Elements.{All-nil}
use Rattle.std.proofs.lemmas.List.Folds.{list_all-append}
use Rattle.std.proofs.lemmas.Slice.Eq.{bytes_eq-Decides}
use Rattle.match_model.specs.Instance.{Instance, IsInstance, list_at, quota}
use Rattle.match_model.specs.Draft.{AreLists, Draft, given_lists, has_no_repeats, instance_of, programme_lists_left, resident_lists_left}
use Rattle.match_model.proofs.Mutual.{length-given_lists, length-mutual_lists}
use Rattle.match_model.proofs.Remaining.{length-remaining_lists}
use Rattle.match_model.specs.Limits.{most_programmes, most_residents}
use Rattle.match_model.specs.Ranking.{HasNoRepeats, is_listed, place}
use Rattle.match_model.specs.Written.{AreWritten, Written, written_of}
use Rattle.match_model.specs.declared.limits.Limits.TheVariants.{National}
use Rattle.settle_law.proofs.Places.{HasNoRepeats-nil, HasNoRepeats-cons}
use Rattle.records.specs.Reading.{Fields, field}
use Rattle.docket_names.specs.Words.{is_name, is_name_byte}
use Rattle.docket_names.specs.Texts.{number_in}
use Rattle.docket_names.proofs.WordFacts.{list_all_true_at}
use Rattle.docket.specs.Contents.{Contents, contents_of, draft_of, programmes_of, residents_of}
use Rattle.docket.specs.Fields.{is_kind, kind_of, quota_row_fault, row_fault, counted, unless}
use Rattle.docket.specs.Limits.{most_records}
use Rattle.docket.specs.Passes.{fault_in, fault_of, first_from, limit_fault, next_place, reading_fault, repeat_fault}
use Rattle.docket.specs.Texts.{programme_name, resident_name}
use Rattle.docket.specs.declared.fault.DocketFault.{DocketFault}
use Rattle.docket.specs.declared.fault.DocketFault.TheVariants.{BadName, BadQuota, TooManyRecords}
use Rattle.docket.proofs.CountFacts.{unmapped}
use Rattle.docket.proofs.DeclarationFacts.{programmes_of-if, residents_of-if}
use Rattle.docket.proofs.NumberFacts.{distinct, number_in-cons}
use Rattle.docket.proofs.RankingFacts.{bytes_eq-swap, distinct_programmes, distinct_residents, length-lists_of, length-quotas_of, off}
use Rattle.docket.proofs.SoundFacts.{both_none, list_row_sound, unless_none}
use Rattle.docket.proofs.StandardFacts.{fault_standard}
use Rattle.docket.proofs.WidestFacts.{few_widest, sound_widest}
use Rattle.docket.specs.Contents.{workers_in}
use Rattle.match_theorem.proofs.Limits.{over_records, quota_letter, resident_letter}
use Rattle.match_theorem.proofs.Lists.{AreSound, rows_sound}
use Rattle.receipt_theorem.proofs.Places.{AreNamesOf, Below}
use Rattle.receipt_theorem.proofs.Rows.{IsPlain, IsShortName}

-- Names.

-- a record without a fault in the first pass has no fault of its own, and there is room for one
-- record more
own_none : (before : List Fields) (row : Fields) → reading_fault National before row ≡ None
    → (row_fault (next_place before) (workers_in before) row ≡ None) × (nat_le (most_records National) (length before) ≡ false)
unfolding reading_fault
own_none before row none = by (nat_le (most_records National) (length before)) none
  where
    by : (b : Bool) → (if b then Some (TooManyRecords (next_place before)) else option_or (row_fault (next_place before) (workers_in before) row) (option_or (repeat_fault before row) (limit_fault National before row))) ≡ None
        → (row_fault (next_place before) (workers_in before) row ≡ None) × (b ≡ false)
    by true e = absurd (cc e)
    by false e = ((both_none (row_fault (next_place before) (workers_in before) row) (option_or (repeat_fault before row) (limit_fault National before row)) e).0, refl)

programme_named : (n : ℕ) (workers : Option ℕ) (row : Fields) → row_fault n workers row ≡ None → is_kind quota_letter row ≡ true → is_name (field row 1) ≡ true
unfolding row_fault
programme_named n workers row none kind =
    let own : quota_row_fault n row ≡ None = rw kind at none in
    let rest = (both_none (counted n 3 row) _ own).1 in
    unless_none (is_name (field row 1)) (BadName n) (both_none (unless (is_name (field row 1)) (BadName n)) _ rest).0

resident_named : (n : ℕ) (workers : Option ℕ) (row : Fields) → row_fault n workers row ≡ None → is_kind resident_letter row ≡ true → is_name (field row 1) ≡ true
unfolding row_fault
resident_named n workers row none kind =
    let is : kind_of row ≡ resident_letter = eqb-true (kind_of row) resident_letter kind in
    list_row_sound n row (rw is at none)

-- if no record has a fault, and the records of one kind declare the names in their second fields,
-- each declared name has the form of a name
all_named : (P : List Fields → List (List ℕ)) (kind : ℕ)
    → ((n : ℕ) (workers : Option ℕ) (row : Fields) → row_fault n workers row ≡ None → is_kind kind row ≡ true → is_name (field row 1) ≡ true)
    → ((before : List Fields) (row : Fields) → P (before ++ row ∷ []) ≡ (if is_kind kind row then P before ++ field row 1 ∷ [] else P before))
    → P [] ≡ [] → (rows : List Fields) → first_from (reading_fault National) [] rows ≡ None → list_all is_name (P rows) ≡ true
all_named P kind one next none rows sound = over_records (reading_fault National) (λ some. list_all is_name (P some) ≡ true) (rw none refl) more rows sound
  where
    more : (before : List Fields) (row : Fields) → reading_fault National before row ≡ None → list_all is_name (P before) ≡ true → list_all is_name (P (before ++ row ∷ [])) ≡ true
    more before row e h = rw (next before row) (by (is_kind kind row) refl)
      where
        by : (b : Bool) → is_kind kind row ≡ b → list_all is_name (if b then P before ++ field row 1 ∷ [] else P before) ≡ true
        by true k = list_all-append is_name (P before) (field row 1 ∷ []) ∙ rw (h, one (next_place before) (workers_in before) row (own_none before row e).0 k) refl
        by false k = h

few_rows : (rows : List Fields) → first_from (reading_fault National) [] rows ≡ None → length rows ≤ most_records National
few_rows rows none = over_records (reading_fault National) (λ some. length some ≤ most_records National) (omega arith) more rows none
  where
    more : (before : List Fields) (row : Fields) → reading_fault National before row ≡ None → length before ≤ most_records National → length (before ++ row ∷ []) ≤ most_records National
    more before row e h = search (rules, (own_none before row e).1, length_push before row)

-- in a list of different names, a search for the name at place i finds place i
number_there : (names : List (List ℕ)) (i : ℕ) → distinct names ≡ true → i < length names → number_in names (get_or names i []) ≡ Some i
unfolding distinct
number_there [] i d l = absurd (omega (arith, l))
number_there (x ∷ xs) zero d l = number_in-cons x xs x ∙ rw ((bytes_eq-Decides x x).1 refl) refl
number_there (x ∷ xs) (suc i) d l =
    let parts = and_parts (not (list_any (bytes_eq x) xs)) (distinct xs) d in
    let other : bytes_eq (get_or xs i []) x ≡ false = differ xs i parts.0 (omega (arith, l)) in
    number_in-cons x xs (get_or xs i []) ∙ rw (other, number_there xs i parts.1 (omega (arith, l))) refl
  where
    differ : (ys : List (List ℕ)) (k : ℕ) → not (list_any (bytes_eq x) ys) ≡ true → k < length ys → bytes_eq (get_or ys k []) x ≡ false
    differ [] k n l = absurd (omega (arith, l))
    differ (y ∷ ys) zero n l = bytes_eq-swap x y (or_parts (bytes_eq x y) (list_any (bytes_eq x) ys) (off (bytes_eq x y || list_any (bytes_eq x) ys) n)).0
    differ (y ∷ ys) (suc k) n l = differ ys k (rw (or_parts (bytes_eq x y) (list_any (bytes_eq x) ys) (off (bytes_eq x y || list_any (bytes_eq x) ys) n)).1 refl) (omega (arith, l))

-- a list of n different names of the right form gives each number below n a name of its own
names_of_numbers : (names : List (List ℕ)) → list_all is_name names ≡ true → distinct names ≡ true → AreNamesOf (length names) (λ k. get_or names k [])
names_of_numbers names named apart = record {
  named = λ k l. list_all_true_at is_name names k [] l named;
  apart = λ j k l m same. (
      let both : Some j ≡ Some k = sym (number_there names j apart l) ∙ ap (number_in names) same ∙ number_there names k apart m in
      cc both);
}

-- Lists.

once : (xs : List ℕ) → has_no_repeats xs ≡ true → HasNoRepeats xs
once [] h = HasNoRepeats-nil
once (x ∷ xs) h =
    let parts = and_parts (not (is_listed xs x)) (has_no_repeats xs) h in
    HasNoRepeats-cons x xs (λ l. let there : is_listed xs x ≡ true = lt-ltb (place xs x) (length xs) l in let gone : is_listed xs x ≡ false = off (is_listed xs x) parts.0 in cc (sym there ∙ gone)) (once xs parts.1)

-- each number on the list is below n, and none is on it twice
pub record IsWrittenList (n : ℕ) (list : List ℕ) : Type 0 where
  pub below : Below n list
  pub different : HasNoRepeats list

written_list : (lists : List (Option (List ℕ))) (n i : ℕ) → AreLists lists n → IsWrittenList n (list_at (given_lists lists) i)
written_list lists n i h = elim (cases_lt i (length (given_lists lists))) [
  | inl l ↦ record {
    below = λ k d m. search (rules, list_all_true_at (λ x. nat_lt x n) (list_at (given_lists lists) i) k d m (h.items_below i [] l));
    different = once (list_at (given_lists lists) i) (h.no_repeats i [] l);
  }
  | inr past ↦ rw (get_or_past (given_lists lists) i [] past) (record { below = All-nil (λ x. x < n); different = HasNoRepeats-nil })
]

-- each programme's and each resident's name is plain and short; a number that no member has counts
-- as having an empty name
pub record HasPlainNames (d : Contents) : Type 0 where
  pub programmes : (p : ℕ) → IsShortName (programme_name d p)
  pub residents : (r : ℕ) → IsShortName (resident_name d r)

short_names : (names : List (List ℕ)) → list_all is_name names ≡ true → (k : ℕ) → IsShortName (get_or names k [])
unfolding is_name
short_names names named k = elim (cases_lt k (length names)) [
  | inl l ↦
      let is = list_all_true_at is_name names k [] l named in
      let parts = and_parts (nat_le 1 (length (get_or names k [])) && nat_le (length (get_or names k [])) 32) (list_all is_name_byte (get_or names k [])) is in
      let most : nat_le (length (get_or names k [])) 32 ≡ true = (and_parts (nat_le 1 (length (get_or names k []))) (nat_le (length (get_or names k [])) 32) parts.0).1 in
      record { plain = parts.1; short = search (rules, most) }
  | inr past ↦ rw (get_or_past names k [] past) (record { plain = refl; short = omega arith })
]

-- what is known of the members of a docket without a fault: each list has numbers of members, each
-- once, and the names are different and plain
pub record IsMarket (d : Contents) (draft : Draft) : Type 0 where
  pub instance : IsInstance d.instance
  pub made : AreWritten d.instance (written_of draft)
  pub programmes : AreNamesOf (length d.instance.quotas) (programme_name d)
  pub residents : AreNamesOf (length d.instance.resident_lists) (resident_name d)
  pub names : HasPlainNames d
  pub programme_lists : (p : ℕ) → IsWrittenList (length d.instance.resident_lists) (list_at (given_lists draft.programme_lists) p)
  pub resident_lists : (r : ℕ) → IsWrittenList (length d.instance.quotas) (list_at (given_lists draft.resident_lists) r)
  pub programme_numbers : (p : ℕ) → p < length d.instance.quotas → number_in d.programmes (programme_name d p) ≡ Some p
  pub one_list_each : length (given_lists draft.resident_lists) ≡ length d.instance.resident_lists
  pub few_programmes : length d.instance.quotas ≤ 10000
  pub few_residents : length d.instance.resident_lists ≤ 100000
  pub few_places : (p : ℕ) → quota d.instance p ≤ 10000

no_programmes : programmes_of [] ≡ []
unfolding programmes_of
no_programmes = refl

no_residents : residents_of [] ≡ []
unfolding residents_of
no_residents = refl

pub market : (rows : List Fields) → fault_in National rows ≡ None → IsMarket (contents_of rows) (draft_of rows)
unfolding programme_name resident_name
market rows none =
    let d = contents_of rows in
    let draft = draft_of rows in
    let sound = rows_sound National rows none in
    let first = sound_widest National rows sound.reading in
    let few = few_widest National (length rows) (few_rows rows sound.reading) in
    let ours : length (programmes_of rows) ≡ length (draft_of rows).quotas = sym (length-quotas_of rows) in
    let kept : length (instance_of (draft_of rows)).resident_lists ≡ length (draft_of rows).resident_lists =
    length-mutual_lists (resident_lists_left (draft_of rows)) (programme_lists_left (draft_of rows)) ∙ length-remaining_lists (given_lists (draft_of rows).resident_lists) (draft_of rows).residents_withdrawn
    ∙ length-given_lists (draft_of rows).resident_lists in
    let theirs : length (residents_of rows) ≡ length (instance_of (draft_of rows)).resident_lists =
    sym (length-lists_of resident_letter (residents_of rows) (programmes_of rows) rows) ∙ sym kept in
    let named = all_named programmes_of quota_letter programme_named programmes_of-if no_programmes rows sound.reading in
    let named' = all_named residents_of resident_letter resident_named residents_of-if no_residents rows sound.reading in
    record {
      instance = sound.instance;
      made = record { draft = draft_of rows; made = refl; lists = refl };
      programmes = subst (λ n. AreNamesOf n (λ k. get_or (programmes_of rows) k [])) ours (names_of_numbers (programmes_of rows) named (distinct_programmes rows first few));
      residents = subst (λ n. AreNamesOf n (λ k. get_or (residents_of rows) k [])) theirs (names_of_numbers (residents_of rows) named' (distinct_residents rows first few));
      names = record { programmes = short_names (programmes_of rows) named; residents = short_names (residents_of rows) named' };
      programme_lists = λ p. subst (λ n. IsWrittenList n (list_at (given_lists (draft_of rows).programme_lists) p)) (sym kept) (written_list (draft_of rows).programme_lists (length (draft_of rows).resident_lists) p sound.draft.programme_lists);
      resident_lists = λ r. written_list (draft_of rows).resident_lists (length (draft_of rows).quotas) r sound.draft.resident_lists;
      programme_numbers = λ p l. number_there (programmes_of rows) p (distinct_programmes rows first few) (omega (arith, ours, l));
      one_list_each = length-given_lists (draft_of rows).resident_lists ∙ sym kept;
      few_programmes = sound.draft.programmes_within;
      few_residents = subst (λ n. n ≤ 100000) (sym kept) sound.draft.residents_within;
      few_places = λ p. sound.instance.quotas_within p;
    }
