-- The instance of a docket without a fault has strict and mutual lists.
use Rattle.std.proofs.Common.{◌≡◌, ◌≤◌, ◌<◌, ℕ, List, [], ◌∷◌, ◌++◌, Bool, true, false, length, drop, find, get_or, subst, sym, ◌∙◌, refl, rules, arith, Option, Some, None}
use Rattle.std.specs.Prelude.{if◌then◌else◌, ◌&&◌, nat_le, nat_lt, bytes_eq, unwrap_or, option_map, IfSome}
use Rattle.std.specs.List.{All, list_all, list_any}
use Rattle.std.specs.Option.{option_or}
use Rattle.std.proofs.lemmas.Bool.{and_parts}
use Rattle.std.proofs.lemmas.List.{length-map}
use Rattle.std.proofs.lemmas.List.Elements.{All-map}
use Rattle.match_model.specs.Instance.{IsInstance, pair_count}
use Rattle.match_model.specs.Draft.{Draft, IsDraft, given_lists, has_no_repeats, instance_of}
use Rattle.match_model.specs.Limits.{IsWithin, most_programmes, most_residents, most_pairs}
use Rattle.match_model.specs.declared.limits.Limits.{Limits}
use Rattle.match_model.proofs.LimitFacts.{pairs_bounded}
use Rattle.match_model.specs.declared.fault.ModelFault.TheVariants as model
use Rattle.match_model.proofs.Kept.{IsWithin-instance_of, IsWellFormed-instance_of}
use Rattle.docket.specs.Fields.{is_kind, is_row_of, unless, withdrawal_kind}
use Rattle.records.specs.Reading.{Fields, field, rows_of}
use Rattle.docket_names.specs.Texts.{is_declared}
use Rattle.docket.specs.Contents.{programmes_of, residents_of, quotas_of, listed_in, lists_of, draft_of, withdrawn_of, is_withdrawal_of}
use Rattle.docket.specs.Passes.{first_from, reading_fault, ranking_fault, listing_fault, unknown_fault, pairs_fault, sheet_fault, event_fault, fault_in, fault_within, first_pass_fault, later_fault, listed_fault, next_place}
use Rattle.docket.specs.declared.fault.DocketFault.{DocketFault}
use Rattle.docket.specs.declared.fault.DocketFault.TheVariants.{UnknownName, Model}
use Rattle.docket.specs.declared.records_fault.RecordsFault.{RecordsFault}
use Rattle.docket.specs.declared.records_fault.RecordsFault.TheVariants.{Docket}
use Rattle.docket.proofs.CountFacts.{unmapped}
use Rattle.docket.proofs.SoundFacts.{both_none, unless_none}
use Rattle.docket.proofs.RankingFacts.{length-quotas_of, length-lists_of, items_below}
use Rattle.match_theorem.proofs.Limits.{programme_letter, resident_letter, one_kind, programmes_within, residents_within, quotas_within}

-- every number of the list is below n, and stands in the list once
abbrev IsList : ℕ → List ℕ → Type 0
IsList n list = (list_all (λ x. nat_lt x n) list ≡ true) × (has_no_repeats list ≡ true)

-- if each record that passes a test has a property, the record found by this test has the property
found : (f : List Fields → Fields → Option DocketFault) (p : Fields → Bool) (R : Fields → Type 0)
    → ((before : List Fields) (row : Fields) → f before row ≡ None → p row ≡ true → R row)
    → (before rows : List Fields) → first_from f before rows ≡ None → IfSome (find p rows) R
unfolding first_from
found f p R each before [] none = tt
found f p R each before (row ∷ rest) none =
    let parts = both_none (f before row) (first_from f (before ++ row ∷ []) rest) none in
    by parts.0 (p row) refl (found f p R each (before ++ row ∷ []) rest parts.1)
  where
    by : f before row ≡ None → (b : Bool) → p row ≡ b → IfSome (find p rest) R → IfSome (if b then Some row else find p rest) R
    by here true e h = each before row here e
    by here false e h = h

-- if the list in a record has no fault, it names only members, and each of them once
listing_sound : (n : ℕ) (others : List (List ℕ)) (row : Fields) → listing_fault n others row ≡ None → IsList (length others) (listed_in others row)
unfolding listed_in
listing_sound n others row none =
    let parts = both_none (unknown_fault n others row) (unless (has_no_repeats (listed_in others row)) (Model n model.ListedTwice)) none in (
      items_below others (drop 2 row) (unless_none (list_all (is_declared others) (drop 2 row)) (UnknownName n) parts.0),
      unless_none (has_no_repeats (listed_in others row)) (Model n model.ListedTwice) parts.1,
    )

programme_sound : (rows before : List Fields) (row : Fields) → ranking_fault rows before row ≡ None → is_kind programme_letter row ≡ true
    → IsList (length (residents_of rows)) (listed_in (residents_of rows) row)
unfolding ranking_fault
programme_sound rows before row none kind = by _ (is_kind programme_letter row) kind none
  where
    owner : Option DocketFault
    owner = unless (is_declared (programmes_of rows) (field row 1)) (UnknownName (next_place before))

    by : (rest : Option DocketFault) (b : Bool) → b ≡ true → (if b then option_or owner (listing_fault (next_place before) (residents_of rows) row) else rest) ≡ None
        → IsList (length (residents_of rows)) (listed_in (residents_of rows) row)
    by rest true t e = listing_sound (next_place before) (residents_of rows) row (both_none owner (listing_fault (next_place before) (residents_of rows) row) e).1
    by rest false t e = absurd (cc t)

resident_sound : (rows before : List Fields) (row : Fields) → ranking_fault rows before row ≡ None → is_kind resident_letter row ≡ true
    → IsList (length (programmes_of rows)) (listed_in (programmes_of rows) row)
unfolding ranking_fault
resident_sound rows before row none kind = by _ _ (is_kind programme_letter row) (is_kind resident_letter row) refl kind none
  where
    by : (first rest : Option DocketFault) (a b : Bool) → is_kind programme_letter row ≡ a → b ≡ true
        → (if a then first else if b then listing_fault (next_place before) (programmes_of rows) row else rest) ≡ None
        → IsList (length (programmes_of rows)) (listed_in (programmes_of rows) row)
    by first rest true b p t e = let same : programme_letter ≡ resident_letter = one_kind row programme_letter resident_letter p kind in absurd (omega (arith, same))
    by first rest false true p t e = listing_sound (next_place before) (programmes_of rows) row e
    by first rest false false p t e = absurd (cc t)

-- each owner's list has only members, and each of them once
given : (kind n : ℕ) (owners others : List (List ℕ)) (rows : List Fields)
    → ((name : List ℕ) → IfSome (find (is_row_of kind name) rows) (λ row. IsList n (listed_in others row)))
    → All (IsList n) (given_lists (lists_of kind owners others rows))
unfolding lists_of
given kind n owners others rows sound =
    All-map (IsList n) (λ list. unwrap_or list []) (lists_of kind owners others rows)
    (All-map (λ (list : Option (List ℕ)). IsList n (unwrap_or list [])) (λ name. option_map (listed_in others) (find (is_row_of kind name) rows)) owners
    (λ i d lt. by (find (is_row_of kind (get_or owners i d)) rows) (sound (get_or owners i d))))
  where
    by : (o : Option Fields) → IfSome o (λ row. IsList n (listed_in others row)) → IsList n (unwrap_or (option_map (listed_in others) o) [])
    by None h = (refl, refl)
    by (Some row) h = h

all_below : (n : ℕ) (lists : List (List ℕ)) → All (IsList n) lists → All (λ list. list_all (λ x. nat_lt x n) list ≡ true) lists
all_below n lists h = λ i d lt. (h i d lt).0

all_once : (n : ℕ) (lists : List (List ℕ)) → All (IsList n) lists → All (λ list. has_no_repeats list ≡ true) lists
all_once n lists h = λ i d lt. (h i d lt).1

-- a row that is found as an owner's row of some kind is of this kind
kind_of_owned : (kind : ℕ) (name : List ℕ) (row : Fields) → is_row_of kind name row ≡ true → is_kind kind row ≡ true
kind_of_owned kind name row e = (and_parts (is_kind kind row) (bytes_eq name (field row 1)) e).0

-- there is one flag for each name
flags_each : (side : List ℕ) (names : List (List ℕ)) (rows : List Fields) → length (withdrawn_of side names rows) ≡ length names
unfolding withdrawn_of
flags_each side names rows = length-map names (λ (name : List ℕ). list_any (is_withdrawal_of side name) rows)

-- the input that a docket's records give to a builder with these limits
abbrev draft_within : Limits → List Fields → Draft
draft_within lim rows = record (draft_of rows) { limits = lim }

-- the quotas, lists and withdrawals in a docket's records are what a builder accepts
draft_kept : (lim : Limits) (rows : List Fields) → first_from (reading_fault lim) [] rows ≡ None → first_from (ranking_fault rows) [] rows ≡ None → IsDraft (draft_within lim rows)
draft_kept lim rows reading ranking =
    let programmes = programmes_of rows in
    let residents = residents_of rows in
    let many = length-quotas_of rows in
    let ours = given programme_letter (length residents) programmes residents rows
    (λ name. found (ranking_fault rows) (is_row_of programme_letter name) (λ row. IsList (length residents) (listed_in residents row))
    (λ before row none e. programme_sound rows before row none (kind_of_owned programme_letter name row e)) [] rows ranking) in
    let theirs = given resident_letter (length programmes) residents programmes rows
    (λ name. found (ranking_fault rows) (is_row_of resident_letter name) (λ row. IsList (length programmes) (listed_in programmes row))
    (λ before row none e. resident_sound rows before row none (kind_of_owned resident_letter name row e)) [] rows ranking) in
    let their_lists = length-lists_of resident_letter residents programmes rows in
    record {
      one_list_each = length-lists_of programme_letter programmes residents rows ∙ sym many;
      programmes_within = subst (λ n. n ≤ most_programmes lim) (sym many) (programmes_within lim rows reading);
      residents_within = subst (λ n. n ≤ most_residents lim) (sym their_lists) (residents_within lim rows reading);
      quotas_within = quotas_within lim rows reading;
      programme_lists = record {
        items_below = subst (λ n. All (λ list. list_all (λ x. nat_lt x n) list ≡ true) (given_lists (lists_of programme_letter programmes residents rows))) (sym their_lists) (all_below _ _ ours);
        no_repeats = all_once _ _ ours;
      };
      resident_lists = record {
        items_below = subst (λ n. All (λ list. list_all (λ x. nat_lt x n) list ≡ true) (given_lists (lists_of resident_letter residents programmes rows))) (sym many) (all_below _ _ theirs);
        no_repeats = all_once _ _ theirs;
      };
      one_flag_each_programme = flags_each _ programmes rows ∙ sym many;
      one_flag_each_resident = flags_each _ residents rows ∙ sym their_lists;
    }

-- the number of acceptable pairs is at most the limit on pairs
pairs_within : (lim : Limits) (rows : List Fields) → pairs_fault lim rows ≡ None → pair_count (instance_of (draft_of rows)) ≤ most_pairs lim
unfolding pairs_fault
pairs_within lim rows none = search (rules, unless_none (nat_le (pair_count (instance_of (draft_of rows))) (most_pairs lim)) (Model (length rows) model.TooManyPairs) none)

-- the first pass finds no fault in the records, and their input to a builder is valid and gives an
-- instance within the limits
pub record AreSound (lim : Limits) (rows : List Fields) : Type 0 where
  pub reading : first_from (reading_fault lim) [] rows ≡ None
  pub draft : IsDraft (record (draft_of rows) { limits = lim })
  pub few : pair_count (instance_of (draft_of rows)) ≤ most_pairs lim
  pub instance : IsInstance (instance_of (draft_of rows))

-- if no record has a fault in either of the first pass's two tests, none has a fault in the first
-- test
reading_sound : (lim : Limits) (before rows : List Fields) → first_from (first_pass_fault lim) before rows ≡ None → first_from (reading_fault lim) before rows ≡ None
unfolding first_from
reading_sound lim before [] h = refl
reading_sound lim before (row ∷ rest) h =
    let parts = both_none_of (first_pass_fault lim before row) (first_from (first_pass_fault lim) (before ++ row ∷ []) rest) h in
    let own = both_none_of (option_map Docket (reading_fault lim before row)) (listed_fault lim before row) parts.0 in
    rw (unmapped (reading_fault lim before row) own.0) (reading_sound lim (before ++ row ∷ []) rest parts.1)
  where
    both_none_of : (a b : Option RecordsFault) → option_or a b ≡ None → (a ≡ None) × (b ≡ None)
    both_none_of None b e = (refl, e)
    both_none_of (Some f) b e = absurd (cc e)

pub rows_sound : (lim : Limits) (rows : List Fields) → fault_in lim rows ≡ None → AreSound lim rows
unfolding later_fault
rows_sound lim rows none =
    let whole = both (first_from (first_pass_fault lim) [] rows) (option_map Docket (later_fault lim rows)) none in
    let reading = reading_sound lim [] rows whole.0 in
    let later = unmapped (later_fault lim rows) whole.1 in
    let ranked = both_none (first_from (ranking_fault rows) [] rows) (option_or (pairs_fault lim rows) (option_or (sheet_fault rows) (first_from (event_fault rows) [] rows))) later in
    let paired = both_none (pairs_fault lim rows) (option_or (sheet_fault rows) (first_from (event_fault rows) [] rows)) ranked.1 in
    let kept = draft_kept lim rows reading ranked.0 in
    let few = pairs_within lim rows paired.0 in
    record {
      reading = reading;
      draft = kept;
      few = few;
      instance = (IsWellFormed-instance_of (draft_within lim rows) (pair_count (instance_of (draft_of rows))) kept (omega (arith, few, pairs_bounded lim)) refl).is_instance;
    }
  where
    both : (a b : Option RecordsFault) → option_or a b ≡ None → (a ≡ None) × (b ≡ None)
    both None b e = (refl, e)
    both (Some f) b e = absurd (cc e)

-- the instance of a docket without a fault is strict and mutual, and within the limits
pub docket_instance : (lim : Limits) (bytes : List ℕ) → fault_within lim bytes ≡ None
    → IsInstance (instance_of (draft_of (rows_of bytes))) × IsWithin lim (instance_of (draft_of (rows_of bytes)))
docket_instance lim bytes none =
    let sound = rows_sound lim (rows_of bytes) none in
    (sound.instance, IsWithin-instance_of (draft_within lim (rows_of bytes)) sound.draft sound.few)
