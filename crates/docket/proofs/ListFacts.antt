-- What the store keeps of the lists and withdrawals, after each record.
use Rattle.std.proofs.Common.{◌≡◌, ◌⊎◌, ◌≤◌, ◌<◌, ◌+◌, ℕ, List, [], ◌∷◌, ◌++◌, Bool, true, false, length, drop, map, count_by, sym, ◌∙◌, refl, ap, arith, inl, inr, append_assoc, append-nil}
use Rattle.std.specs.Prelude.{bytes_eq, slice_index_or, ◌||◌}
use Rattle.std.specs.List.{All, list_any}
use Rattle.std.proofs.lemmas.Bool.{or_parts}
use Rattle.std.proofs.lemmas.List.{length-append, map-append, take-append-drop}
use Rattle.std.proofs.lemmas.List.Elements.{All-nil, All-push, All-weaker, All-head, All-tail}
use Rattle.std.proofs.lemmas.List.Folds.{list_any-append}
use Rattle.std.proofs.lemmas.Grind.{flat_map-append}
use Rattle.docket.specs.Fields.{is_kind, withdrawal_kind}
use Rattle.records.specs.Reading.{Fields}
use Rattle.docket.specs.Lists.{is_among, ListEntry, KeptEntry, KeptLists, AreLists, AreFront, IsCutFrom, IsWithin, HasEntry, AddsEntry, named, entry_names, names_in, entry_in, entries_from, entries_of, is_ranking_row}
use Rattle.docket.specs.Passes.{next_place}
use Rattle.docket.specs.declared.vocabulary.TheConstants.{PROGRAMME_LIST, RESIDENT_LIST, MOST_NAMES}
use Rattle.docket_names.specs.Texts.{StartsWith}
use Rattle.docket_names.proofs.TextFacts.{numbers_kept, texts_kept, starts_length}
use Rattle.docket.proofs.AmongFacts.{or_left, or_right, count_append, count_all, count_wider}
use Rattle.docket.proofs.ListCountFacts.{have_starts}
use Rattle.docket.proofs.ListWalkFacts.{within_or_over, all_wider, number_text}

-- one more record adds its entry, if it has one, to the entries of all records
entries_from-push : (n : ℕ) (rows : List Fields) (row : Fields) → entries_from n (rows ++ row ∷ []) ≡ entries_from n rows ++ entry_in (n + length rows + 1) row
unfolding entries_from
entries_from-push n [] row = let same : n + 1 ≡ n + 0 + 1 = omega arith in append-nil (entry_in (n + 1) row) ∙ ap (λ (k : ℕ). entry_in k row) same
entries_from-push n (r ∷ rows) row =
    let same : n + 1 + length rows + 1 ≡ n + length (r ∷ rows) + 1 = omega arith in
    ap (λ (l : List ListEntry). entry_in (n + 1) r ++ l) (entries_from-push (n + 1) rows row ∙ ap (λ (k : ℕ). entries_from (n + 1) rows ++ entry_in k row) same)
    ∙ sym (append_assoc (entry_in (n + 1) r) (entries_from (n + 1) rows) (entry_in (n + length (r ∷ rows) + 1) row))

pub entries_push : (rows : List Fields) (row : Fields) → entries_of (rows ++ row ∷ []) ≡ entries_of rows ++ entry_in (next_place rows) row
entries_push rows row = let same : 0 + length rows + 1 ≡ next_place rows = omega arith in entries_from-push 0 rows row ∙ ap (λ (k : ℕ). entries_of rows ++ entry_in k row) same

-- a record that is neither a list nor a withdrawal has no entry
pub no_entry : (n : ℕ) (row : Fields) → is_ranking_row row ≡ false → entry_in n row ≡ []
unfolding entry_in
no_entry n row e =
    let first = or_parts (is_kind PROGRAMME_LIST row || is_kind RESIDENT_LIST row) (is_kind withdrawal_kind row) e in
    let second = or_parts (is_kind PROGRAMME_LIST row) (is_kind RESIDENT_LIST row) first.0 in
    rw (second.0, second.1, first.1) refl

-- the numbers in the entries stand for the same texts after texts were added
pub within_grown : (texts more : Fields) (entries : List KeptEntry) → StartsWith texts more → All (IsWithin texts) entries → All (IsWithin more) entries
within_grown texts more entries s h = All-weaker (IsWithin texts) (IsWithin more) one entries h
  where
    one : (e : KeptEntry) → IsWithin texts e → IsWithin more e
    one e h = let owner = h.0 in let size = starts_length texts more s in (omega (arith, owner, size), numbers_kept texts more e.listed s h.1)

pub named_grown : (texts more : Fields) (entries : List KeptEntry) → StartsWith texts more → All (IsWithin texts) entries → map (named more) entries ≡ map (named texts) entries
named_grown texts more [] s h = refl
named_grown texts more (e ∷ entries) s h =
    let here = All-head (IsWithin texts) e entries h in
    let owner : slice_index_or more e.owner [] ≡ slice_index_or texts e.owner [] = number_text texts more e.owner s here.0 in
    let listed = texts_kept texts more e.listed s here.1 in
    let tail = named_grown texts more entries s (All-tail (IsWithin texts) e entries h) in
    λ i. record { record_no = e.record_no; kind = e.kind; owner = owner i; listed = listed i } ∷ tail i

-- if n texts pass a test, at least n pass a wider test after texts were added
pub count_grown : (p q : List ℕ → Bool) → ((t : List ℕ) → p t ≡ true → q t ≡ true) → (texts more : Fields) (n : ℕ) → StartsWith texts more → n ≤ count_by p texts → n ≤ count_by q more
count_grown p q h texts more n s le =
    let whole : more ≡ texts ++ drop (length texts) more = sym (take-append-drop (length texts) more) ∙ ap (λ (l : List (List ℕ)). l ++ drop (length texts) more) s in
    let split = count_append q texts (drop (length texts) more) in
    let wide = count_wider p q h texts in
    rw whole (omega (arith, split, wide, le))

-- the first entries of a list are still its first entries after more entries were added
pub front_more : (kept all more : List ListEntry) → AreFront kept all → AreFront kept (all ++ more)
unfolding AreFront
front_more [] all more h = tt
front_more (e ∷ kept) [] more h = absurd h
front_more (e ∷ []) (a ∷ all) more h = h
front_more (e ∷ f ∷ kept) (a ∷ all) more h = (h.0, front_more (f ∷ kept) all more h.1)

-- a list of entries whose last one is cut has the first entries of the list with this entry whole
pub front_cut : (all : List ListEntry) (e a : ListEntry) → IsCutFrom a e → AreFront (all ++ e ∷ []) (all ++ a ∷ [])
unfolding AreFront
front_cut [] e a h = h
front_cut (x ∷ []) e a h = (refl, h)
front_cut (x ∷ y ∷ all) e a h = (refl, front_cut (y ∷ all) e a h)

-- the store of lists before the first record is empty
pub lists_none : (texts : Fields) → AreLists texts (record { entries = []; brought = 0 }) []
unfolding AreFront entries_from
lists_none texts = record { within = All-nil (IsWithin texts); whole = λ le. refl; front = tt; counted = omega arith }

-- the store of lists is right after more texts were added, if the texts start with the old ones
pub lists_grow : (texts more : Fields) (lists : KeptLists) (rows : List Fields) → StartsWith texts more → AreLists texts lists rows → AreLists more lists rows
lists_grow texts more lists rows s h =
    let same = named_grown texts more lists.entries s h.within in
    record {
      within = within_grown texts more lists.entries s h.within;
      whole = λ le. same ∙ h.whole le;
      front = rw same h.front;
      counted = rw same (count_grown (is_among (names_in (map (named texts) lists.entries))) (is_among (names_in (map (named texts) lists.entries))) (λ t e. e) texts more lists.brought s h.counted);
    }

-- the store of lists stays right after a record that is neither a list nor a withdrawal
pub lists_other : (texts : Fields) (lists : KeptLists) (rows : List Fields) (row : Fields) → is_ranking_row row ≡ false → AreLists texts lists rows → AreLists texts lists (rows ++ row ∷ [])
lists_other texts lists rows row e h =
    let same : entries_of (rows ++ row ∷ []) ≡ entries_of rows = entries_push rows row ∙ ap (λ (l : List ListEntry). entries_of rows ++ l) (no_entry (next_place rows) row e) ∙ append-nil (entries_of rows) in
    record { within = h.within; whole = λ le. h.whole le ∙ sym same; front = rw same h.front; counted = h.counted }

-- the store of lists stays right after a record of which nothing is kept, as too many names came
-- before
lists_past : (texts : Fields) (lists : KeptLists) (rows : List Fields) (row : Fields) → MOST_NAMES < lists.brought → AreLists texts lists rows → AreLists texts lists (rows ++ row ∷ [])
lists_past texts lists rows row over h = record {
  within = h.within;
  whole = λ le. absurd (omega (arith, over, le));
  front = rw (entries_push rows row) (front_more (map (named texts) lists.entries) (entries_of rows) (entry_in (next_place rows) row) h.front);
  counted = h.counted;
}

-- one more entry adds its names, in order, to the names in the entries
pub names_push : (entries : List ListEntry) (e : ListEntry) → names_in (entries ++ e ∷ []) ≡ names_in entries ++ entry_names e
names_push entries e = flat_map-append entry_names entries (e ∷ []) ∙ ap (λ (l : List (List ℕ)). names_in entries ++ l) (append-nil (entry_names e))

-- the store of lists is right after a record whose entry is kept, whole or cut
lists_kept : (texts more : Fields) (old new : KeptLists) (rows : List Fields) (row : Fields) (entry : ListEntry) → old.brought ≤ MOST_NAMES → HasEntry texts more old new entry
    → entry_in (next_place rows) row ≡ entry ∷ [] → AreLists texts old rows → AreLists more new (rows ++ row ∷ [])
lists_kept texts more old new rows row entry few k is h =
    let s = have_starts texts more (entry_names (named more k.kept)) k.joined in
    let same = named_grown texts more old.entries s h.within in
    let whole = h.whole few in
    let kept : map (named more) new.entries ≡ map (named texts) old.entries ++ named more k.kept ∷ [] =
    ap (map (named more)) k.entries ∙ map-append (named more) old.entries (k.kept ∷ []) ∙ ap (λ (l : List ListEntry). l ++ named more k.kept ∷ []) same in
    let all : entries_of (rows ++ row ∷ []) ≡ entries_of rows ++ entry ∷ [] = entries_push rows row ∙ ap (λ (l : List ListEntry). entries_of rows ++ l) is in
    record {
      within = rw k.entries (All-push (IsWithin more) old.entries k.kept (within_grown texts more old.entries s h.within) k.within);
      whole = λ le. kept ∙ (λ i. whole i ++ k.whole le i ∷ []) ∙ sym all;
      front = rw (kept, all, whole) (front_cut (entries_of rows) (named more k.kept) entry k.short);
      counted = rw (kept, names_push (map (named texts) old.entries) (named more k.kept)) (counts (names_in (map (named texts) old.entries)) h.counted);
    }
  where
    counts : (names : List (List ℕ)) → old.brought ≤ count_by (is_among names) texts → new.brought ≤ count_by (is_among (names ++ entry_names (named more k.kept))) more
    counts names le =
        let own = entry_names (named more k.kept) in
        let more_are = k.joined.more_are in
        let split = count_append (is_among (names ++ own)) texts k.joined.extra in
        let wide = count_wider (is_among names) (is_among (names ++ own)) (λ t e. list_any-append (bytes_eq t) names own ∙ or_left (list_any (bytes_eq t) names) _ e) texts in
        let extra = count_all (is_among (names ++ own)) k.joined.extra (all_wider (is_among own) (is_among (names ++ own)) (λ t e. list_any-append (bytes_eq t) names own ∙ or_right (list_any (bytes_eq t) names) _ e) k.joined.extra k.joined.among) in
        let size = length-append texts k.joined.extra in
        let sized = ap length more_are in
        let sum = k.count in
        let total = ap (count_by (is_among (names ++ own))) more_are in
        omega (arith, total, split, wide, extra, size, sized, sum, le)

-- the store of lists is right after the record of an entry, which is kept unless too many names
-- came before
pub lists_added : (texts more : Fields) (old new : KeptLists) (rows : List Fields) (row : Fields) (entry : ListEntry) → AddsEntry texts more old new entry → StartsWith texts more
    → entry_in (next_place rows) row ≡ entry ∷ [] → AreLists texts old rows → AreLists more new (rows ++ row ∷ [])
lists_added texts more old new rows row entry a s is h = by (within_or_over old.brought MOST_NAMES)
  where
    by : (old.brought ≤ MOST_NAMES) ⊎ (MOST_NAMES < old.brought) → AreLists more new (rows ++ row ∷ [])
    by (inl few) = lists_kept texts more old new rows row entry few (a.kept few) is h
    by (inr over) = rw (a.cut over) (lists_past more old rows row over (lists_grow texts more old rows s h))
