-- How the members' lists of numbers grow with each row of the second pass.
use Rattle.docket.specs.Limits.{widest}
use Rattle.std.proofs.Common.{◌≡◌, ◌≤◌, ◌<◌, ◌+◌, ℕ, zero, suc, List, [], ◌∷◌, ◌++◌, Bool, true, false, length, take, drop, map, find, arith, sym, ◌∙◌, refl, ap, Option, Some, None, inl, inr, rules, is_some}
use Rattle.std.specs.Prelude.{◌||◌, not, if◌then◌else◌, option_map, bytes_eq, slice_set, nat_lt, nat_le, unwrap_or, Result, Err}
use Rattle.std.specs.Option.{option_or}
use Rattle.std.specs.List.{list_any, list_all}
use Rattle.std.proofs.lemmas.List.{take_more, take_all, take-append-drop, length-take, length-map}
use Rattle.std.proofs.lemmas.List.Folds.{list_any-append, find-append}
use Rattle.match_model.specs.Draft.{AnswersOrWantsMemory, owner_fault, list_fault, has_no_repeats}
use Rattle.match_model.specs.declared.fault.ModelFault.{ModelFault}
use Rattle.match_model.specs.declared.fault.ModelFault.TheVariants as model
use Rattle.std.proofs.lemmas.Bool.{and_from, and_parts, or_parts}
use Rattle.docket.specs.Fields.{kind_of, is_kind, is_row_of, unless, row_fault, withdrawal_kind}
use Rattle.records.specs.Reading.{Fields, field}
use Rattle.docket.specs.Rows.{row_at}
use Rattle.docket.specs.Contents.{member_in, listed_in, names_of, rows_of_kind, quotas_of, programmes_of, residents_of, lists_of, workers_in}
use Rattle.docket_names.specs.Texts.{number_in, is_declared}
use Rattle.docket_names.specs.Words.{number_of}
use Rattle.docket.specs.Passes.{first_from, reading_fault, repeat_fault, limit_fault, next_place, listing_fault, ranking_fault}
use Rattle.docket.specs.Answers.{Refuses, at_record}
use Rattle.docket.specs.declared.vocabulary.TheConstants.{QUOTA, PROGRAMME_LIST, RESIDENT_LIST, MAX_RECORDS}
use Rattle.docket.specs.declared.fault.DocketFault.{DocketFault}
use Rattle.docket.specs.declared.fault.DocketFault.TheVariants.{DeclaredTwice, UnknownName, Model}
use Rattle.docket.proofs.PassFacts.{first_from-append, reading_fault-few}
use Rattle.docket.proofs.SoundFacts.{both_none, unless_none}
use Rattle.docket.proofs.DeclarationFacts.{option_or-none, names_of-if, is_declared-rows}
use Rattle.docket_names.proofs.NameFacts.{is_declared-any, same_bytes, bytes_eq-same}
use Rattle.docket.proofs.NumberFacts.{distinct, number_below, at_number, map_at}

pub off : (b : Bool) → not b ≡ true → b ≡ false
off true h = cc h
off false h = refl

-- if a pass finds no fault in any row, it finds none in row k
pub clean_at : (f : List Fields → Fields → Option DocketFault) (rows : List Fields) (k : ℕ) → first_from f [] rows ≡ None → k < length rows
    → f (take k rows) (row_at rows k) ≡ None
unfolding first_from
clean_at f rows k none lt =
    let parts : first_from f [] (take (k + 1) rows ++ drop (k + 1) rows) ≡ None = rw (take-append-drop (k + 1) rows) none in
    let front = (both_none (first_from f [] (take (k + 1) rows)) (first_from f (take (k + 1) rows) (drop (k + 1) rows)) (sym (first_from-append f [] (take (k + 1) rows) (drop (k + 1) rows)) ∙ parts)).0 in
    let split : first_from f [] (take k rows ++ row_at rows k ∷ []) ≡ None = rw (← (take_more rows k [] lt)) front in
    let last = (both_none (first_from f [] (take k rows)) (first_from f (take k rows) (row_at rows k ∷ [])) (sym (first_from-append f [] (take k rows) (row_at rows k ∷ [])) ∙ split)).1 in
    (both_none (f (take k rows) (row_at rows k)) None last).0

-- there is one quota for each programme
pub length-quotas_of : (rows : List Fields) → length (quotas_of rows) ≡ length (programmes_of rows)
unfolding quotas_of programmes_of
length-quotas_of rows = length-map (rows_of_kind QUOTA rows) (λ (r : Fields). unwrap_or (number_of (field r 2)) 0) ∙ sym (length-map (rows_of_kind QUOTA rows) (λ (r : Fields). field r 1))

-- a row that the first pass accepted has no fault by itself and none because of earlier rows
pub sound_row : (rows : List Fields) (k : ℕ) → first_from (reading_fault widest) [] rows ≡ None → length rows ≤ MAX_RECORDS → k < length rows
    → (row_fault (k + 1) (workers_in (take k rows)) (row_at rows k) ≡ None) × (repeat_fault (take k rows) (row_at rows k) ≡ None)
sound_row rows k none few lt =
    let size = length-take k rows in
    let here : length (take k rows) ≡ k = omega arith in
    let room : length (take k rows) < MAX_RECORDS = omega arith in
    let all = sym (reading_fault-few widest (take k rows) (row_at rows k) room) ∙ clean_at (reading_fault widest) rows k none lt in
    let own = both_none (row_fault (next_place (take k rows)) (workers_in (take k rows)) (row_at rows k)) (option_or (repeat_fault (take k rows) (row_at rows k)) (limit_fault widest (take k rows) (row_at rows k))) all in
    (ap (λ (n : ℕ). row_fault (n + 1) (workers_in (take k rows)) (row_at rows k)) (sym here) ∙ own.0, (both_none (repeat_fault (take k rows) (row_at rows k)) (limit_fault widest (take k rows) (row_at rows k)) own.1).0)

-- if a Q row isn't refused as a repetition, no earlier Q row has its name
pub quota_free : (before : List Fields) (row : Fields) → repeat_fault before row ≡ None → kind_of row ≡ QUOTA → list_any (is_row_of QUOTA (field row 1)) before ≡ false
unfolding repeat_fault
quota_free before row none kind =
    off _ (unless_none (not (list_any (is_row_of QUOTA (field row 1)) before)) (DeclaredTwice (next_place before)) (rw kind at none))

pub programme_list_free : (before : List Fields) (row : Fields) → repeat_fault before row ≡ None → kind_of row ≡ PROGRAMME_LIST → list_any (is_row_of PROGRAMME_LIST (field row 1)) before ≡ false
unfolding repeat_fault
programme_list_free before row none kind =
    off _ (unless_none (not (list_any (is_row_of PROGRAMME_LIST (field row 1)) before)) (DeclaredTwice (next_place before)) (rw kind at none))

pub resident_list_free : (before : List Fields) (row : Fields) → repeat_fault before row ≡ None → kind_of row ≡ RESIDENT_LIST → list_any (is_row_of RESIDENT_LIST (field row 1)) before ≡ false
unfolding repeat_fault
resident_list_free before row none kind =
    off _ (unless_none (not (list_any (is_row_of RESIDENT_LIST (field row 1)) before)) (DeclaredTwice (next_place before)) (rw kind at none))

-- if one text isn't equal to another, the other isn't equal to it
pub bytes_eq-swap : (xs ys : List ℕ) → bytes_eq xs ys ≡ false → bytes_eq ys xs ≡ false
bytes_eq-swap xs ys e = by (bytes_eq ys xs) refl
  where
    by : (b : Bool) → bytes_eq ys xs ≡ b → bytes_eq ys xs ≡ false
    by false h = h
    by true h =
        let same = same_bytes ys xs h in
        let yes : bytes_eq xs ys ≡ true = rw same (bytes_eq-same xs) in
        absurd (cc (yes, e))

-- names stay different when a new name is added
distinct_push : (names : List (List ℕ)) (name : List ℕ) → distinct names ≡ true → list_any (bytes_eq name) names ≡ false → distinct (names ++ name ∷ []) ≡ true
unfolding distinct
distinct_push [] name d e = refl
distinct_push (x ∷ xs) name d e =
    let parts = and_parts (not (list_any (bytes_eq x) xs)) (distinct xs) d in
    let apart = or_parts (bytes_eq name x) (list_any (bytes_eq name) xs) e in
    let none = off (list_any (bytes_eq x) xs) parts.0 in
    let more : list_any (bytes_eq x) (xs ++ name ∷ []) ≡ false = rw (list_any-append (bytes_eq x) xs (name ∷ []), none, bytes_eq-swap name x apart.0) refl in
    and_from _ _ (rw more refl) (distinct_push xs name parts.1 apart.1)

-- no two rows of a kind declare the same name
distinct_names : (kind : ℕ) → ((before : List Fields) (row : Fields) → repeat_fault before row ≡ None → kind_of row ≡ kind → list_any (is_row_of kind (field row 1)) before ≡ false)
    → (rows : List Fields) → first_from (reading_fault widest) [] rows ≡ None → length rows ≤ MAX_RECORDS → (k : ℕ) → k ≤ length rows → distinct (names_of kind (take k rows)) ≡ true
unfolding distinct
distinct_names kind free rows none few zero le = refl
distinct_names kind free rows none few (suc k) le = by (is_kind kind (row_at rows k)) refl (distinct_names kind free rows none few k (omega arith))
  where
    grown : names_of kind (take (k + 1) rows) ≡ (if is_kind kind (row_at rows k) then names_of kind (take k rows) ++ field (row_at rows k) 1 ∷ [] else names_of kind (take k rows))
    grown = rw (take_more rows k [] (omega arith)) (names_of-if kind (take k rows) (row_at rows k))

    next : take (suc k) rows ≡ take (k + 1) rows
    next = let same : suc k ≡ k + 1 = omega arith in rw same refl

    by : (b : Bool) → is_kind kind (row_at rows k) ≡ b → distinct (names_of kind (take k rows)) ≡ true → distinct (names_of kind (take (suc k) rows)) ≡ true
    by true e before =
        let kind_is : kind_of (row_at rows k) ≡ kind = search (rules, e) in
        let fresh = free (take k rows) (row_at rows k) (sound_row rows k none few (omega arith)).1 kind_is in
        let new : list_any (bytes_eq (field (row_at rows k) 1)) (names_of kind (take k rows)) ≡ false =
        sym (is_declared-any (names_of kind (take k rows)) (field (row_at rows k) 1)) ∙ is_declared-rows kind (take k rows) (field (row_at rows k) 1) ∙ fresh in
        rw (next, grown, e) (distinct_push (names_of kind (take k rows)) (field (row_at rows k) 1) before new)
    by false e before = rw (next, grown, e) before

pub distinct_programmes : (rows : List Fields) → first_from (reading_fault widest) [] rows ≡ None → length rows ≤ MAX_RECORDS → distinct (programmes_of rows) ≡ true
unfolding programmes_of
distinct_programmes rows none few =
    let all = distinct_names QUOTA quota_free rows none few (length rows) (omega arith) in
    rw (take_all (length rows) rows (omega arith)) at all

pub distinct_residents : (rows : List Fields) → first_from (reading_fault widest) [] rows ≡ None → length rows ≤ MAX_RECORDS → distinct (residents_of rows) ≡ true
unfolding residents_of
distinct_residents rows none few =
    let all = distinct_names RESIDENT_LIST resident_list_free rows none few (length rows) (omega arith) in
    rw (take_all (length rows) rows (omega arith)) at all

-- if no row passes a test, the search for such a row finds nothing
pub find_none : (p : Fields → Bool) (rows : List Fields) → list_any p rows ≡ false → find p rows ≡ None
find_none p [] e = refl
find_none p (r ∷ rows) e = by (p r) e (find_none p rows)
  where
    by : (b : Bool) → (b || list_any p rows) ≡ false → (list_any p rows ≡ false → find p rows ≡ None) → (if b then Some r else find p rows) ≡ None
    by true e more = absurd (cc e)
    by false e more = more e

-- the first row that passes a test, after one more row: the first earlier row that passes, or else
-- this row if it passes
pub find-push : (p : Fields → Bool) (rows : List Fields) (row : Fields) → find p (rows ++ row ∷ []) ≡ option_or (find p rows) (if p row then Some row else None)
find-push p rows row = find-append p rows (row ∷ [])

-- the row with a member's list gives this member the list, and changes no other member's list
pub lists_of-owner : (kind : ℕ) (owners others : List (List ℕ)) (before : List Fields) (row : Fields) (i : ℕ) → distinct owners ≡ true
    → number_in owners (field row 1) ≡ Some i → is_kind kind row ≡ true → list_any (is_row_of kind (field row 1)) before ≡ false
    → lists_of kind owners others (before ++ row ∷ []) ≡ slice_set (lists_of kind owners others before) i (Some (listed_in others row))
unfolding lists_of
lists_of-owner kind owners others before row i d at k free =
    rw (← own) (map_at (λ (name : List ℕ). option_map (listed_in others) (find (is_row_of kind name) before))
    (λ (name : List ℕ). option_map (listed_in others) (find (is_row_of kind name) (before ++ row ∷ []))) owners (field row 1) i d at other)
  where
    other : (x : List ℕ) → bytes_eq (field row 1) x ≡ false
        → option_map (listed_in others) (find (is_row_of kind x) (before ++ row ∷ [])) ≡ option_map (listed_in others) (find (is_row_of kind x) before)
    other x e =
        let apart = bytes_eq-swap (field row 1) x e in
        rw (find-push (is_row_of kind x) before row, k, apart, sym (option_or-none (find (is_row_of kind x) before))) refl

    own : option_map (listed_in others) (find (is_row_of kind (field row 1)) (before ++ row ∷ [])) ≡ Some (listed_in others row)
    own = rw (find-push (is_row_of kind (field row 1)) before row, k, bytes_eq-same (field row 1), find_none (is_row_of kind (field row 1)) before free) refl

pub map-same : {A B : Type 0} (f g : A → B) (xs : List A) → ((x : A) → f x ≡ g x) → map f xs ≡ map g xs
map-same f g [] h = refl
map-same f g (x ∷ xs) h = rw (h x, map-same f g xs h) refl

-- a row of another kind does not change the members' lists
pub lists_of-other : (kind : ℕ) (owners others : List (List ℕ)) (before : List Fields) (row : Fields) → is_kind kind row ≡ false
    → lists_of kind owners others (before ++ row ∷ []) ≡ lists_of kind owners others before
unfolding lists_of
lists_of-other kind owners others before row k =
    map-same (λ (name : List ℕ). option_map (listed_in others) (find (is_row_of kind name) (before ++ row ∷ []))) (λ (name : List ℕ). option_map (listed_in others) (find (is_row_of kind name) before)) owners
    (λ x. rw (find-push (is_row_of kind x) before row, k, sym (option_or-none (find (is_row_of kind x) before))) refl)

-- before the first row no member has a list
pub lists_of-none : (kind : ℕ) (owners others : List (List ℕ)) → lists_of kind owners others [] ≡ map (λ name. None) owners
unfolding lists_of
lists_of-none kind owners others = refl

-- the members' lists have one entry for each member
pub length-lists_of : (kind : ℕ) (owners others : List (List ℕ)) (rows : List Fields) → length (lists_of kind owners others rows) ≡ length owners
unfolding lists_of
length-lists_of kind owners others rows = length-map owners (λ (name : List ℕ). option_map (listed_in others) (find (is_row_of kind name) rows))

-- before the row with an owner's list, this owner has no list
pub owner_unlisted : (kind : ℕ) (owners others : List (List ℕ)) (before : List Fields) (name : List ℕ) (i : ℕ) → number_in owners name ≡ Some i
    → list_any (is_row_of kind name) before ≡ false → owner_fault (lists_of kind owners others before) i ≡ None
unfolding lists_of
owner_unlisted kind owners others before name i at free =
    let below = number_below owners name i at in
    let size = length-map owners (λ (n : List ℕ). option_map (listed_in others) (find (is_row_of kind n) before)) in
    let list = at_number (λ (n : List ℕ). option_map (listed_in others) (find (is_row_of kind n) before)) owners name i None at in
    let there : nat_le (length (map (λ (n : List ℕ). option_map (listed_in others) (find (is_row_of kind n) before)) owners)) i ≡ false = rw size (search (rules, below)) in
    rw (there, list, find_none (is_row_of kind name) before free) refl

-- if all listed names are declared, the numbers of their members are below the number of members
pub items_below : (others : List (List ℕ)) (names : List (List ℕ)) → list_all (is_declared others) names ≡ true
    → list_all (λ x. nat_lt x (length others)) (map (member_in others) names) ≡ true
items_below others [] h = refl
items_below others (n ∷ names) h =
    let parts = and_parts (is_declared others n) (list_all (is_declared others) names) h in
    and_from _ _ (by (number_in others n) refl parts.0) (items_below others names parts.1)
  where
    by : (o : Option ℕ) → number_in others n ≡ o → is_some o ≡ true → nat_lt (unwrap_or (number_in others n) 0) (length others) ≡ true
    by None e s = absurd (cc s)
    by (Some i) e s = rw e (search (rules, number_below others n i e))

-- the builder refuses a list of declared members exactly if a member stands on it twice
pub list_fault-row : (kind : ℕ) (owners others : List (List ℕ)) (before : List Fields) (row : Fields) (i : ℕ) → number_in owners (field row 1) ≡ Some i
    → list_any (is_row_of kind (field row 1)) before ≡ false → list_all (is_declared others) (drop 2 row) ≡ true
    → list_fault (lists_of kind owners others before) i (length others) (listed_in others row)
    ≡ (if not (has_no_repeats (listed_in others row)) then Some model.ListedTwice else None)
unfolding listed_in
list_fault-row kind owners others before row i at free known =
    rw (owner_unlisted kind owners others before (field row 1) i at free, items_below others (drop 2 row) known) refl

-- the builder's fault for a list becomes a fault of the docket at the list's record
pub listed_answer : (T : Type 0) (n : ℕ) (twice : Bool) (r : Result T ModelFault) (f : Option ModelFault) → f ≡ (if not twice then Some model.ListedTwice else None)
    → AnswersOrWantsMemory f r → (fault : ModelFault) → r ≡ Err fault → Refuses (unless twice (Model n model.ListedTwice)) (at_record n fault)
listed_answer T n twice r f is h fault e = by twice f is (rw e at h)
  where
    by : (t : Bool) (g : Option ModelFault) → g ≡ (if not t then Some model.ListedTwice else None) → AnswersOrWantsMemory {T = T} g (Err fault)
        → Refuses (unless t (Model n model.ListedTwice)) (at_record n fault)
    by t g is (inl memory) = inl (ap (at_record n) memory)
    by true g is (inr some) = absurd (cc (is, some))
    by false g is (inr some) = let same : fault ≡ model.ListedTwice = cc (is, some) in inr (ap (λ x. Some (at_record n x)) (sym same))

pub listed_fine : (n : ℕ) (twice : Bool) (f : Option ModelFault) → f ≡ (if not twice then Some model.ListedTwice else None) → f ≡ None → unless twice (Model n model.ListedTwice) ≡ None
listed_fine n true f is none = refl
listed_fine n false f is none = absurd (cc (is, none))

-- row k, counted from 0, is record k + 1
pub place_at : (rows : List Fields) (k : ℕ) → k < length rows → k + 1 ≡ next_place (take k rows)
place_at rows k lt = let size = length-take k rows in omega arith

-- if the owner of a P row is declared, the second pass finds in the row only a fault of its list
pub ranking_fault-owned : (rows before : List Fields) (row : Fields) (n i : ℕ) → kind_of row ≡ PROGRAMME_LIST → number_in (programmes_of rows) (field row 1) ≡ Some i
    → n ≡ next_place before → ranking_fault rows before row ≡ listing_fault n (residents_of rows) row
unfolding ranking_fault
ranking_fault-owned rows before row n i kind at place = rw (kind, at, place) refl

pub ranking_fault-unowned : (rows before : List Fields) (row : Fields) (n : ℕ) → kind_of row ≡ PROGRAMME_LIST → number_in (programmes_of rows) (field row 1) ≡ None
    → n ≡ next_place before → ranking_fault rows before row ≡ Some (UnknownName n)
unfolding ranking_fault
ranking_fault-unowned rows before row n kind at place = rw (kind, at, place) refl

-- in an R row the second pass finds only a fault of its list
pub ranking_fault-resident : (rows before : List Fields) (row : Fields) (n : ℕ) → kind_of row ≡ RESIDENT_LIST
    → n ≡ next_place before → ranking_fault rows before row ≡ listing_fault n (programmes_of rows) row
unfolding ranking_fault
ranking_fault-resident rows before row n kind place = rw (kind, place) refl

pub ranking_fault-other : (rows before : List Fields) (row : Fields) → is_kind PROGRAMME_LIST row ≡ false → is_kind RESIDENT_LIST row ≡ false
    → is_kind withdrawal_kind row ≡ false → ranking_fault rows before row ≡ None
unfolding ranking_fault
ranking_fault-other rows before row p r w = rw (p, r, w) refl

-- if row k passes a test, some row passes this test
list_any_true_at : (p : Fields → Bool) (rows : List Fields) (k : ℕ) → k < length rows → p (row_at rows k) ≡ true → list_any p rows ≡ true
list_any_true_at p [] k lt e = absurd (omega arith)
list_any_true_at p (r ∷ rows) zero lt e = rw e refl
list_any_true_at p (r ∷ rows) (suc k) lt e = rw (list_any_true_at p rows k (omega arith) e) (right (p r))
  where
    right : (b : Bool) → (b || true) ≡ true
    right true = refl
    right false = refl

-- the resident of an R row without a fault in the first pass is declared
pub resident_declared : (rows : List Fields) (k : ℕ) → k < length rows → kind_of (row_at rows k) ≡ RESIDENT_LIST
    → number_in (residents_of rows) (field (row_at rows k) 1) ≡ None → ⊥
unfolding residents_of
resident_declared rows k lt kind none =
    let there = list_any_true_at (is_row_of RESIDENT_LIST (field (row_at rows k) 1)) rows k lt (rw (kind, bytes_eq-same (field (row_at rows k) 1)) refl) in
    let known : is_declared (names_of RESIDENT_LIST rows) (field (row_at rows k) 1) ≡ true = is_declared-rows RESIDENT_LIST rows (field (row_at rows k) 1) ∙ there in
    let absent : is_declared (names_of RESIDENT_LIST rows) (field (row_at rows k) 1) ≡ false = ap is_some none in
    cc (known, absent)
