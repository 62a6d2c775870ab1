-- How the names of one record are kept, name by name.
use Rattle.std.proofs.Common.{◌≡◌, ◌⊎◌, ◌≤◌, ◌<◌, ◌+◌, ◌-◌, ℕ, List, [], ◌∷◌, ◌++◌, Bool, true, false, length, get_or, take, drop, map, sym, ◌∙◌, refl, ap, arith, rules, Some, inl, inr, append_assoc, append-nil}
use Rattle.std.specs.Prelude.{nat_le, slice_get, slice_index_or, bytes_eq}
use Rattle.std.specs.List.{list_any, list_all}
use Rattle.std.proofs.Math.Seq.{drop-append_seam}
use Rattle.std.proofs.lemmas.Bool.{and_parts, and_from}
use Rattle.std.proofs.lemmas.List.{length-append, map-append, take_all, take-append-le, drop-append-le, length-drop, get_or-drop, get_or-take}
use Rattle.csv.specs.Records.{field_at}
use Rattle.csv.proofs.RecordFacts.{field-get}
use Rattle.docket_names.specs.Words.{is_name}
use Rattle.std.proofs.lemmas.List.Elements.{All-nil, All-push, All-append, All-head, All-tail}
use Rattle.std.proofs.lemmas.List.Folds.{list_any-append, list_all-append, list_all_at}
use Rattle.std.proofs.lemmas.Option.{get_or_from_slice_get, slice_get_within, slice_get-get_or}
use Rattle.docket.specs.Lists.{is_among, HaveJoined, ListEntry, entry_at, ArePartsOf, AreWalked, HasEntry}
use Rattle.docket.specs.declared.store.lists.KeptRow.{KeptRow}
use Rattle.docket.specs.declared.store.lists.ListKind.{ListKind}
use Rattle.docket.specs.declared.vocabulary.TheConstants.{MOST_NAMES}
use Rattle.docket_names.specs.Texts.{IsJoined, StartsWith, texts_at}
use Rattle.docket_names.proofs.TextFacts.{numbers_kept, texts_kept, starts_length}
use Rattle.docket.proofs.AmongFacts.{or_left, or_right}
use Rattle.docket.proofs.ListCountFacts.{part_more, have_none, have_more, have_starts}

pub within_or_over : (a b : ℕ) → (a ≤ b) ⊎ (b < a)
within_or_over a b = by (nat_le a b) refl
  where
    by : (t : Bool) → nat_le a b ≡ t → (a ≤ b) ⊎ (b < a)
    by true e = inl (search (rules, e))
    by false e = inr (search (rules, e))

-- items that all pass a test all pass a wider test
pub all_wider : (p q : List ℕ → Bool) → ((t : List ℕ) → p t ≡ true → q t ≡ true) → (xs : List (List ℕ)) → list_all p xs ≡ true → list_all q xs ≡ true
all_wider p q h [] e = refl
all_wider p q h (x ∷ xs) e =
    let parts = and_parts (p x) (list_all p xs) e in
    and_from (q x) (list_all q xs) (h x parts.0) (all_wider p q h xs parts.1)

-- the texts that were added with a first list of names and then with a second list are texts of the
-- joined list
pub have_both : (texts more most first second : List (List ℕ)) → HaveJoined texts more first → HaveJoined more most second → HaveJoined texts most (first ++ second)
have_both texts more most first second h i = record {
  extra = h.extra ++ i.extra;
  more_are = i.more_are ∙ ap (λ (l : List (List ℕ)). l ++ i.extra) h.more_are ∙ append_assoc texts h.extra i.extra;
  among = list_all-append (is_among (first ++ second)) h.extra i.extra
      ∙ and_from _ _
      (all_wider (is_among first) (is_among (first ++ second)) (λ t e. list_any-append (bytes_eq t) first second ∙ or_left (list_any (bytes_eq t) first) _ e) h.extra h.among)
      (all_wider (is_among second) (is_among (first ++ second)) (λ t e. list_any-append (bytes_eq t) first second ∙ or_right (list_any (bytes_eq t) first) _ e) i.extra i.among);
}

-- without names no text is added
pub joined_none : (texts more : List (List ℕ)) → HaveJoined texts more [] → more ≡ texts
joined_none texts more h = by h.extra h.more_are h.among
  where
    by : (extra : List (List ℕ)) → more ≡ texts ++ extra → list_all (is_among []) extra ≡ true → more ≡ texts
    by [] e all = e ∙ append-nil texts
    by (x ∷ extra) e all = absurd (cc all)

texts_none : (texts : List (List ℕ)) → texts_at texts [] ≡ []
unfolding texts_at
texts_none texts = refl

texts_both : (texts : List (List ℕ)) (xs ys : List ℕ) → texts_at texts (xs ++ ys) ≡ texts_at texts xs ++ texts_at texts ys
unfolding texts_at
texts_both texts xs ys = map-append (λ n. slice_index_or texts n []) xs ys

text_alone : (texts : List (List ℕ)) (n : ℕ) (text : List ℕ) → slice_get texts n ≡ Some text → texts_at texts (n ∷ []) ≡ text ∷ []
unfolding texts_at
text_alone texts n text at = ap (λ t. t ∷ []) (get_or_from_slice_get texts n text [] at)

-- before the walk over a record's names has begun, nothing is kept
pub walked_none : (texts : List (List ℕ)) (numbers : List ℕ) (brought : ℕ) → AreWalked texts numbers brought texts numbers brought []
walked_none texts numbers brought = record {
  added = [];
  rest = [];
  all_are = sym (append-nil numbers);
  within = All-nil (λ n. n < length texts);
  names_are = rw (texts_none texts) refl;
  joined = have_none texts (texts_at texts []);
  count = refl;
  whole = λ le. refl;
  cut = λ lt. refl;
}

-- if too many texts were new before, a name is only tested, and nothing is kept
pub walked_past : (texts : List (List ℕ)) (numbers : List ℕ) (brought : ℕ) (text : List ℕ) → MOST_NAMES < brought → AreWalked texts numbers brought texts numbers brought (text ∷ [])
walked_past texts numbers brought text over = record {
  added = [];
  rest = text ∷ [];
  all_are = sym (append-nil numbers);
  within = All-nil (λ n. n < length texts);
  names_are = rw (texts_none texts) refl;
  joined = have_none texts (texts_at texts []);
  count = refl;
  whole = λ le. absurd (omega (arith, over, le));
  cut = λ lt. refl;
}

-- a name that is kept adds the number of its text, and the text itself if it is new
pub walked_name : (texts : List (List ℕ)) (numbers : List ℕ) (brought : ℕ) (more : List (List ℕ)) (now n : ℕ) (text : List ℕ) → brought ≤ MOST_NAMES
    → slice_get more n ≡ Some text → IsJoined texts more text → now + length texts ≡ brought + length more
    → AreWalked texts numbers brought more (numbers ++ n ∷ []) now (text ∷ [])
walked_name texts numbers brought more now n text few at joined count = record {
  added = n ∷ [];
  rest = [];
  all_are = refl;
  within = All-push (λ m. m < length more) [] n (All-nil (λ m. m < length more)) (slice_get_within more n text at);
  names_are = rw (text_alone more n text at) refl;
  joined = rw (text_alone more n text at) (have_more texts texts more [] text (have_none texts []) joined);
  count = count;
  whole = λ le. refl;
  cut = λ lt. absurd (omega (arith, lt, few));
}

-- a walk over some names and then over one more name is a walk over all of these names
pub walked_more : (texts : List (List ℕ)) (numbers : List ℕ) (brought : ℕ) (more : List (List ℕ)) (all : List ℕ) (now : ℕ) (most : List (List ℕ)) (whole : List ℕ) (last : ℕ) (names : List (List ℕ)) (text : List ℕ)
    → AreWalked texts numbers brought more all now names → AreWalked more all now most whole last (text ∷ [])
    → AreWalked texts numbers brought most whole last (names ++ text ∷ [])
walked_more texts numbers brought more all now most whole last names text h i = by (within_or_over now MOST_NAMES)
  where
    grown : StartsWith more most
    grown = have_starts more most (texts_at most i.added) i.joined

    old : StartsWith texts more
    old = have_starts texts more (texts_at more h.added) h.joined

    same : texts_at most h.added ≡ texts_at more h.added
    same = texts_kept more most h.added grown h.within

    by : (now ≤ MOST_NAMES) ⊎ (MOST_NAMES < now) → AreWalked texts numbers brought most whole last (names ++ text ∷ [])
    by (inl few) =
        let none = h.whole few in
        let size = starts_length texts more old in
        let sum = h.count in
        let sum2 = i.count in
        let front : names ≡ texts_at more h.added = h.names_are ∙ ap (λ (l : List (List ℕ)). texts_at more h.added ++ l) none ∙ append-nil (texts_at more h.added) in
        record {
          added = h.added ++ i.added;
          rest = i.rest;
          all_are = i.all_are ∙ ap (λ (l : List ℕ). l ++ i.added) h.all_are ∙ append_assoc numbers h.added i.added;
          within = All-append (λ n. n < length most) h.added i.added (numbers_kept more most h.added grown h.within) i.within;
          names_are = rw (front, i.names_are, texts_both most h.added i.added, same) (sym (append_assoc (texts_at more h.added) (texts_at most i.added) i.rest));
          joined = rw (texts_both most h.added i.added, same) (have_both texts more most (texts_at more h.added) (texts_at most i.added) h.joined i.joined);
          count = omega (arith, sum, sum2);
          whole = i.whole;
          cut = λ lt. absurd (omega (arith, lt, few, size, sum));
        }
    by (inr over) =
        let none = i.cut over in
        let still : most ≡ more = joined_none more most (rw (none, texts_none most) at i.joined) in
        let sum = h.count in
        let sum2 = i.count in
        let size = ap length still in
        record {
          added = h.added;
          rest = h.rest ++ text ∷ [];
          all_are = i.all_are ∙ ap (λ (l : List ℕ). all ++ l) none ∙ append-nil all ∙ h.all_are;
          within = numbers_kept more most h.added grown h.within;
          names_are = ap (λ (l : List (List ℕ)). l ++ text ∷ []) h.names_are ∙ append_assoc (texts_at more h.added) h.rest (text ∷ []) ∙ ap (λ (l : List (List ℕ)). l ++ (h.rest ++ text ∷ [])) (sym same);
          joined = rw (same, still) h.joined;
          count = omega (arith, sum, sum2);
          whole = λ le. absurd (omega (arith, sum2, size, over, le));
          cut = h.cut;
        }

-- the parts of the rows stay the same if the sequence of names grows
pub parts_kept : (names more : List ℕ) (rows : List KeptRow) → ArePartsOf names rows → map (entry_at (names ++ more)) rows ≡ map (entry_at names) rows
parts_kept names more [] h = refl
parts_kept names more (row ∷ rows) h =
    let here = All-head (λ (row : KeptRow). (row.start ≤ row.end) × (row.end ≤ length names)) row rows h in
    let up = here.0 in
    let end = here.1 in
    let size = length-drop row.start names in
    let part : take (row.end - row.start) (drop row.start (names ++ more)) ≡ take (row.end - row.start) (drop row.start names) =
    rw (drop-append-le row.start names more (omega (arith, up, end))) (take-append-le (row.end - row.start) (drop row.start names) more (omega (arith, up, end, size))) in
    let tail = parts_kept names more rows (All-tail (λ (row : KeptRow). (row.start ≤ row.end) × (row.end ≤ length names)) row rows h) in
    λ i. record { record_no = row.record_no; kind = row.kind; owner = row.owner; listed = part i } ∷ tail i

-- one more kept row has the part of the sequence that its owner and its names were given
pub parts_push : (names added : List ℕ) (rows : List KeptRow) (place : ℕ) (kind : ListKind) (owner start end : ℕ) → ArePartsOf names rows → start ≡ length names → end ≡ length (names ++ added)
    → map (entry_at (names ++ added)) (rows ++ record { record_no = place; kind = kind; owner = owner; start = start; end = end } ∷ [])
    ≡ map (entry_at names) rows ++ record { record_no = place; kind = kind; owner = owner; listed = added } ∷ []
parts_push names added rows place kind owner start end h first last =
    let size = length-append names added in
    let whole : take (end - start) (drop start (names ++ added)) ≡ added = rw (first, drop-append_seam names added) (take_all (end - length names) added (omega (arith, last, size))) in
    map-append (entry_at (names ++ added)) rows (record { record_no = place; kind = kind; owner = owner; start = start; end = end } ∷ [])
    ∙ (λ i. parts_kept names added rows h i ++ record { record_no = place; kind = kind; owner = owner; listed = whole i } ∷ [])

-- a number of the texts stands for the same text after texts were added
pub number_text : (known more : List (List ℕ)) (n : ℕ) → StartsWith known more → n < length known → slice_index_or more n [] ≡ slice_index_or known n []
number_text known more n s lt = sym (get_or-take (length known) more n [] lt) ∙ ap (λ (l : List (List ℕ)). get_or l n []) s

pub text_kept : (known more : List (List ℕ)) (n : ℕ) (text : List ℕ) → StartsWith known more → slice_get known n ≡ Some text → slice_get more n ≡ Some text
text_kept known more n text s at =
    let there = slice_get_within known n text at in
    let size = starts_length known more s in
    slice_get-get_or more n [] (omega (arith, there, size)) ∙ ap Some (number_text known more n s there ∙ get_or_from_slice_get known n text [] at)

-- after one more row was kept, the kept rows stand for this row's entry and for all entries before
-- it
pub entry_added : (texts known more : List (List ℕ)) (names all : List ℕ) (rows : List KeptRow) (brought count now : ℕ) (entry : ListEntry) (owner start end : ℕ)
    → ArePartsOf names rows → IsJoined texts known entry.owner → slice_get known owner ≡ Some entry.owner → count + length texts ≡ brought + length known
    → AreWalked known names count more all now entry.listed → start ≡ length names → end ≡ length all
    → HasEntry texts more (record { entries = map (entry_at names) rows; brought = brought })
    (record { entries = map (entry_at all) (rows ++ record { record_no = entry.record_no; kind = entry.kind; owner = owner; start = start; end = end } ∷ []); brought = now }) entry
entry_added texts known more names all rows brought count now entry owner start end parts joined at sum walked first last =
    let grown = have_starts known more (texts_at more walked.added) walked.joined in
    let sum2 = walked.count in
    let there = slice_get_within known owner entry.owner at in
    let size = starts_length known more grown in
    let text : slice_index_or more owner [] ≡ entry.owner = number_text known more owner grown there ∙ get_or_from_slice_get known owner entry.owner [] at in
    let all_are = walked.all_are in
    record {
      kept = record { record_no = entry.record_no; kind = entry.kind; owner = owner; listed = walked.added };
      entries = rw all_are (parts_push names walked.added rows entry.record_no entry.kind owner start end parts first (last ∙ ap length all_are));
      within = (omega (arith, there, size), walked.within);
      short = record { record_no = refl; kind = refl; owner = text; rest = walked.rest; listed = walked.names_are };
      whole = λ few. let none = walked.whole few in let listed = sym (walked.names_are ∙ ap (λ (l : List (List ℕ)). texts_at more walked.added ++ l) none ∙ append-nil (texts_at more walked.added)) in
          λ i. record { record_no = entry.record_no; kind = entry.kind; owner = text i; listed = listed i };
      joined = rw text (have_both texts known more (entry.owner ∷ []) (texts_at more walked.added) (have_more texts texts known [] entry.owner (have_none texts []) joined) walked.joined);
      count = omega (arith, sum, sum2);
    }

-- if a text of the record is not a name, not all listed texts are names
pub name_missing : (row : List (List ℕ)) (i : ℕ) (text : List ℕ) → 2 ≤ i → i < length row → field_at row i ≡ Some text → is_name text ≡ false → list_all is_name (drop 2 row) ≡ false
name_missing row i text low lt at none =
    let size = length-drop 2 row in
    let place : 2 + (i - 2) ≡ i = omega (arith, low) in
    let here : get_or (drop 2 row) (i - 2) [] ≡ text = get_or-drop 2 row (i - 2) [] ∙ ap (λ (k : ℕ). get_or row k []) place ∙ field-get row i text at in
    list_all_at is_name (drop 2 row) (i - 2) [] (omega (arith, size, low, lt)) (ap is_name here ∙ none)

-- the listed texts before field i and the text in field i are names
pub names_more : (row : List (List ℕ)) (i : ℕ) (text : List ℕ) → 2 ≤ i → i < length row → field_at row i ≡ Some text → list_all is_name (take (i - 2) (drop 2 row)) ≡ true → is_name text ≡ true
    → list_all is_name (take (i + 1 - 2) (drop 2 row)) ≡ true
names_more row i text low lt at all is =
    rw (← part_more row 2 i text low lt at, list_all-append is_name (take (i - 2) (drop 2 row)) (text ∷ []), all, is) refl

pub walked_grown : (texts : List (List ℕ)) (numbers : List ℕ) (brought : ℕ) (more : List (List ℕ)) (all : List ℕ) (now : ℕ) (names : List (List ℕ))
    → AreWalked texts numbers brought more all now names → (StartsWith texts more) × (length numbers ≤ length all)
walked_grown texts numbers brought more all now names h =
    let size = length-append numbers h.added in
    let sum = ap length h.all_are in
    (have_starts texts more (texts_at more h.added) h.joined, omega (arith, size, sum))
