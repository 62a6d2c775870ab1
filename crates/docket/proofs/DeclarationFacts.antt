-- What the rows declare after one more row is added.
use Rattle.match_model.specs.declared.limits.Limits.{Limits}
use Rattle.std.proofs.Common.{◌≡◌, ℕ, List, [], ◌∷◌, ◌++◌, Bool, true, false, length, sym, ◌∙◌, refl, ap, Option, Some, None, map, find, filter, is_some, inl, inr, append-nil, ◌<◌}
use Rattle.std.specs.Prelude.{◌==◌, ◌&&◌, ◌||◌, not, if◌then◌else◌, option_map, unwrap_or, bytes_eq, Ok, Err, nat_le, nat_lt, option_and_then, IfSome}
use Rattle.std.specs.List.{list_any}
use Rattle.std.specs.Option.{option_or}
use Rattle.std.proofs.lemmas.List.{map-append, length-map}
use Rattle.std.proofs.lemmas.List.Elements.{filter-append, All-nil}
use Rattle.std.proofs.lemmas.List.Folds.{list_any-append, find-append}
use Rattle.exchange_core.specs.declared.event.Capacity.{Capacity}
use Rattle.exchange_core.specs.declared.event.Capacity.TheVariants.{Full}
use Rattle.match_model.specs.Draft.{Draft, AnswersFirst, programme_fault, resident_fault}
use Rattle.match_model.specs.Limits.{most_programmes, most_residents}
use Rattle.match_model.specs.declared.limits.TheConstants.{MAX_QUOTA}
use Rattle.match_model.specs.declared.fault.ModelFault.{ModelFault}
use Rattle.match_model.specs.declared.fault.ModelFault.TheVariants as model
use Rattle.docket.specs.Words.{capacity_of, workers_of}
use Rattle.docket_names.specs.Words.{number_of}
use Rattle.docket.specs.Fields.{kind_of, is_kind, is_row_of, unless}
use Rattle.records.specs.Reading.{Fields, field}
use Rattle.docket.specs.Contents.{rows_of_kind, names_of, programmes_of, residents_of, quotas_of, workers_in, worker_in, who_of}
use Rattle.docket_names.specs.Texts.{is_declared}
use Rattle.docket.specs.Passes.{repeat_fault, limit_fault, next_place}
use Rattle.docket.specs.Answers.{Refuses, at_record}
use Rattle.docket.specs.Declarations.{capacity_in, AreByWorker, who_if}
use Rattle.docket.specs.Whole.{AreWorkers}
use Rattle.docket.specs.declared.vocabulary.TheConstants.{QUOTA, PROGRAMME_LIST, RESIDENT_LIST, CAPACITY, EVENT}
use Rattle.docket.specs.declared.fault.DocketFault.{DocketFault}
use Rattle.docket.specs.declared.fault.DocketFault.TheVariants.{DeclaredTwice, Model, BadEvent}
use Rattle.docket_names.proofs.NameFacts.{is_declared-map}
use Rattle.docket.proofs.WordFacts.{workers_within}

-- the values of f at the rows of one kind, after one more row: if this row is of the kind, its value is
-- added
pub images-if : {A : Type 0} (f : Fields → A) (kind : ℕ) (rows : List Fields) (row : Fields)
    → map f (rows_of_kind kind (rows ++ row ∷ [])) ≡ (if is_kind kind row then map f (rows_of_kind kind rows) ++ f row ∷ [] else map f (rows_of_kind kind rows))
images-if f kind rows row =
    ap (map f) (filter-append (is_kind kind) rows (row ∷ [])) ∙ map-append f (rows_of_kind kind rows) (filter (is_kind kind) (row ∷ [])) ∙ by (is_kind kind row)
  where
    by : (b : Bool) → map f (rows_of_kind kind rows) ++ map f (if b then row ∷ [] else []) ≡ (if b then map f (rows_of_kind kind rows) ++ f row ∷ [] else map f (rows_of_kind kind rows))
    by true = refl
    by false = append-nil (map f (rows_of_kind kind rows))

pub names_of-if : (kind : ℕ) (rows : List Fields) (row : Fields)
    → names_of kind (rows ++ row ∷ []) ≡ (if is_kind kind row then names_of kind rows ++ field row 1 ∷ [] else names_of kind rows)
names_of-if kind rows row = images-if (λ r. field r 1) kind rows row

pub programmes_of-if : (rows : List Fields) (row : Fields)
    → programmes_of (rows ++ row ∷ []) ≡ (if is_kind QUOTA row then programmes_of rows ++ field row 1 ∷ [] else programmes_of rows)
unfolding programmes_of
programmes_of-if rows row = names_of-if QUOTA rows row

pub residents_of-if : (rows : List Fields) (row : Fields)
    → residents_of (rows ++ row ∷ []) ≡ (if is_kind RESIDENT_LIST row then residents_of rows ++ field row 1 ∷ [] else residents_of rows)
unfolding residents_of
residents_of-if rows row = names_of-if RESIDENT_LIST rows row

pub quotas_of-if : (rows : List Fields) (row : Fields)
    → quotas_of (rows ++ row ∷ []) ≡ (if is_kind QUOTA row then quotas_of rows ++ unwrap_or (number_of (field row 2)) 0 ∷ [] else quotas_of rows)
unfolding quotas_of
quotas_of-if rows row = images-if (λ r. unwrap_or (number_of (field r 2)) 0) QUOTA rows row

-- none, the entry of a member without a list
abbrev none : Option (List ℕ)
none = None

-- the capacity that the rows declare after one more row: the one declared before, or else this row's, if
-- it is a C row
pub capacity_in-if : (rows : List Fields) (row : Fields)
    → capacity_in (rows ++ row ∷ []) ≡ option_or (capacity_in rows) (if is_kind CAPACITY row then Some (unwrap_or (capacity_of (field row 1)) Full) else None)
unfolding capacity_in
capacity_in-if rows row =
    ap (option_map (λ (r : Fields). unwrap_or (capacity_of (field r 1)) Full)) (find-append (is_kind CAPACITY) rows (row ∷ []))
    ∙ by (find (is_kind CAPACITY) rows) (is_kind CAPACITY row)
  where
    by : (o : Option Fields) (b : Bool)
        → option_map (λ (r : Fields). unwrap_or (capacity_of (field r 1)) Full) (option_or o (if b then Some row else None))
        ≡ option_or (option_map (λ (r : Fields). unwrap_or (capacity_of (field r 1)) Full) o) (if b then Some (unwrap_or (capacity_of (field row 1)) Full) else None)
    by None true = refl
    by None false = refl
    by (Some r) b = refl

-- the number of workers that the rows declare after one more row: the one declared before, or else this
-- row's, if it is a C row
pub workers_in-if : (rows : List Fields) (row : Fields)
    → workers_in (rows ++ row ∷ []) ≡ (if is_some (capacity_in rows) then workers_in rows else if is_kind CAPACITY row then workers_of (field row 2) else None)
unfolding workers_in capacity_in
workers_in-if rows row =
    ap (option_and_then (λ (r : Fields). workers_of (field r 2))) (find-append (is_kind CAPACITY) rows (row ∷ []))
    ∙ by (find (is_kind CAPACITY) rows) (is_kind CAPACITY row)
  where
    by : (o : Option Fields) (b : Bool)
        → option_and_then (λ (r : Fields). workers_of (field r 2)) (option_or o (if b then Some row else None))
        ≡ (if is_some (option_map (λ (r : Fields). unwrap_or (capacity_of (field r 1)) Full) o) then option_and_then (λ (r : Fields). workers_of (field r 2)) o
        else if b then workers_of (field row 2) else None)
    by None true = refl
    by None false = refl
    by (Some r) b = refl

-- rows that declare no capacity have no number of workers
pub workers_in-none : (rows : List Fields) → is_some (capacity_in rows) ≡ false → workers_in rows ≡ None
unfolding workers_in capacity_in
workers_in-none rows e = by (find (is_kind CAPACITY) rows) e
  where
    by : (o : Option Fields) → is_some (option_map (λ (r : Fields). unwrap_or (capacity_of (field r 1)) Full) o) ≡ false
        → option_and_then (λ (r : Fields). workers_of (field r 2)) o ≡ None
    by None e = refl
    by (Some r) e = absurd (cc e)

-- the workers of the events, after one more row: an E row's worker is added
pub who_of-if : (rows : List Fields) (row : Fields)
    → who_of (rows ++ row ∷ []) ≡ (if is_kind EVENT row then who_of rows ++ worker_in row ∷ [] else who_of rows)
unfolding who_of
who_of-if rows row = images-if worker_in EVENT rows row

-- rows without events have no workers of events
pub who_of-none : (rows : List Fields) → list_any (is_kind EVENT) rows ≡ false → who_of rows ≡ []
unfolding who_of
who_of-none rows e = ap (map worker_in) (none_of rows e)
  where
    none_of : (rs : List Fields) → list_any (is_kind EVENT) rs ≡ false → filter (is_kind EVENT) rs ≡ []
    none_of [] h = refl
    none_of (r ∷ rs) h = by (is_kind EVENT r) h (none_of rs)
      where
        by : (b : Bool) → (b || list_any (is_kind EVENT) rs) ≡ false → (list_any (is_kind EVENT) rs ≡ false → filter (is_kind EVENT) rs ≡ [])
            → (if b then r ∷ filter (is_kind EVENT) rs else filter (is_kind EVENT) rs) ≡ []
        by true f more = absurd (cc f)
        by false f more = more f

-- a row that is neither a C row nor an E row changes neither the number of workers nor the workers of events
pub by_other : (workers : Option ℕ) (who : List ℕ) (rows : List Fields) (row : Fields) (k : ℕ) → kind_of row ≡ k → (k == CAPACITY) ≡ false → (k == EVENT) ≡ false
    → AreByWorker workers who rows → AreByWorker workers who (rows ++ row ∷ [])
by_other workers who rows row k kind c e h = record {
  workers_are = h.workers_are ∙ sym (rw (workers_in-if rows row, kind, c) (same (is_some (capacity_in rows)) refl));
  who_are = h.who_are ∙ all workers;
  within = h.within;
}
  where
    same : (b : Bool) → is_some (capacity_in rows) ≡ b → (if b then workers_in rows else None) ≡ workers_in rows
    same true f = refl
    same false f = sym (workers_in-none rows f)

    all : (w : Option ℕ) → who_if w rows ≡ who_if w (rows ++ row ∷ [])
    all None = refl
    all (Some n) = rw (who_of-if rows row, kind, e) refl

-- the first C row, before any event, sets the number of workers
pub by_opened : (old workers : Option ℕ) (who : List ℕ) (rows : List Fields) (row : Fields) → kind_of row ≡ CAPACITY → is_some (capacity_in rows) ≡ false
    → list_any (is_kind EVENT) rows ≡ false → workers_of (field row 2) ≡ workers → AreByWorker old who rows → AreByWorker workers who (rows ++ row ∷ [])
by_opened old workers who rows row kind none free read h = record {
  workers_are = sym (rw (workers_in-if rows row, none, kind) read);
  who_are = empty ∙ sym (all workers);
  within = within workers read;
}
  where
    empty_if : (w : Option ℕ) → who_if w rows ≡ []
    empty_if None = refl
    empty_if (Some n) = who_of-none rows free

    empty : who ≡ []
    empty = h.who_are ∙ empty_if old

    all : (w : Option ℕ) → who_if w (rows ++ row ∷ []) ≡ []
    all None = refl
    all (Some n) = rw (who_of-if rows row, kind) (who_of-none rows free)

    within : (w : Option ℕ) → workers_of (field row 2) ≡ w → IfSome w (λ n. AreWorkers n who)
    within None e = tt
    within (Some n) e =
        let few = workers_within (field row 2) n e in
        record { some = few.0; few = few.1; numbers = rw empty (All-nil (λ w. w < n)) }

pub by_plain : (workers : Option ℕ) (who : List ℕ) (rows : List Fields) (row : Fields) → kind_of row ≡ EVENT → is_some (capacity_in rows) ≡ true
    → is_some workers ≡ false → AreByWorker workers who rows → AreByWorker workers who (rows ++ row ∷ [])
by_plain (Some n) who rows row kind has some h = absurd (cc some)
by_plain None who rows row kind has some h = record {
  workers_are = h.workers_are ∙ sym (rw (workers_in-if rows row, has) refl);
  who_are = h.who_are;
  within = tt;
}

-- after one more row, some row passes a test exactly if this row or an earlier row passes the test
pub list_any-if : (p : Fields → Bool) (rows : List Fields) (row : Fields) → list_any p (rows ++ row ∷ []) ≡ (if p row then true else list_any p rows)
list_any-if p rows row = list_any-append p rows (row ∷ []) ∙ by (list_any p rows) (p row)
  where
    by : (a b : Bool) → (a || (b || false)) ≡ (if b then true else a)
    by true true = refl
    by true false = refl
    by false true = refl
    by false false = refl

-- a name is declared by rows of a kind exactly if some row of this kind has the name
pub is_declared-rows : (kind : ℕ) (rows : List Fields) (name : List ℕ) → is_declared (names_of kind rows) name ≡ list_any (is_row_of kind name) rows
is_declared-rows kind rows name = is_declared-map (λ (r : Fields). field r 1) (rows_of_kind kind rows) name ∙ kept rows
  where
    kept : (rs : List Fields) → list_any (λ (r : Fields). bytes_eq name (field r 1)) (filter (is_kind kind) rs) ≡ list_any (is_row_of kind name) rs
    kept [] = refl
    kept (r ∷ rs) = by (is_kind kind r) (kept rs)
      where
        by : (b : Bool) → list_any (λ (r : Fields). bytes_eq name (field r 1)) (filter (is_kind kind) rs) ≡ list_any (is_row_of kind name) rs
            → list_any (λ (r : Fields). bytes_eq name (field r 1)) (if b then r ∷ filter (is_kind kind) rs else filter (is_kind kind) rs)
            ≡ ((b && bytes_eq name (field r 1)) || list_any (is_row_of kind name) rs)
        by true e = ap (λ x. bytes_eq name (field r 1) || x) e
        by false e = e

-- an error explained by the first of two tests is explained by both tests together
pub refuses_first : (first second : Option DocketFault) (e : DocketFault) → Refuses first e → Refuses (option_or first second) e
refuses_first first second e (inl memory) = inl memory
refuses_first None second e (inr some) = absurd (cc some)
refuses_first (Some f) second e (inr some) = inr some

pub refuses_second : (first second : Option DocketFault) (e : DocketFault) → first ≡ None → Refuses second e → Refuses (option_or first second) e
refuses_second first second e none h = rw none h

-- the builder's fault becomes a fault of the docket at this record
pub refuses_builder : (T : Type 0) (n : ℕ) (f : Option ModelFault) (fault : ModelFault) → AnswersFirst {T = T} f (Err fault)
    → Refuses (option_map (at_record n) f) (at_record n fault)
refuses_builder T n None fault e = inl (ap (at_record n) e)
refuses_builder T n (Some g) fault e = let same : fault ≡ g = cc e in inr (ap (λ x. Some (at_record n x)) (sym same))

pub answers_built : {T : Type 0} (n : ℕ) (f : Option ModelFault) (v : T) → AnswersFirst f (Ok v) → option_map (at_record n) f ≡ None
answers_built n None v e = refl
answers_built n (Some g) v e = absurd (cc e)

-- the test of the limits is the builder's own test of its limits
pub limit_fault-quota : (d : Draft) (before : List Fields) (row : Fields) → kind_of row ≡ QUOTA → d.quotas ≡ quotas_of before
    → limit_fault d.limits before row ≡ option_map (at_record (next_place before)) (programme_fault d (unwrap_or (number_of (field row 2)) 0))
unfolding limit_fault quotas_of programmes_of
limit_fault-quota d before row kind quotas = rw (kind, quotas, same_length) (by (nat_le (most_programmes d.limits) (length (programmes_of before))) (nat_lt MAX_QUOTA (unwrap_or (number_of (field row 2)) 0)))
  where
    same_length : length (quotas_of before) ≡ length (programmes_of before)
    same_length = length-map (rows_of_kind QUOTA before) (λ (r : Fields). unwrap_or (number_of (field r 2)) 0) ∙ sym (length-map (rows_of_kind QUOTA before) (λ (r : Fields). field r 1))

    by : (a b : Bool) → (if a then Some (Model (next_place before) model.TooManyProgrammes) else if b then Some (Model (next_place before) model.QuotaTooLarge) else None)
        ≡ option_map (at_record (next_place before)) (if a then Some model.TooManyProgrammes else (if b then Some model.QuotaTooLarge else None))
    by true b = refl
    by false true = refl
    by false false = refl

pub limit_fault-resident : (d : Draft) (before : List Fields) (row : Fields) → kind_of row ≡ RESIDENT_LIST → d.resident_lists ≡ map (λ name. None) (residents_of before)
    → limit_fault d.limits before row ≡ option_map (at_record (next_place before)) (resident_fault d)
unfolding limit_fault
limit_fault-resident d before row kind lists = rw (kind, lists, length-map (residents_of before) (λ (n : List ℕ). none)) (by (nat_le (most_residents d.limits) (length (residents_of before))))
  where
    by : (a : Bool) → (if a then Some (Model (next_place before) model.TooManyResidents) else None)
        ≡ option_map (at_record (next_place before)) (if a then Some model.TooManyResidents else None)
    by true = refl
    by false = refl

-- the first pass's test for a repeated name, in a Q, P or R row
pub repeat_fault-quota : (before : List Fields) (row : Fields) → kind_of row ≡ QUOTA
    → repeat_fault before row ≡ unless (not (is_declared (programmes_of before) (field row 1))) (DeclaredTwice (next_place before))
unfolding repeat_fault programmes_of
repeat_fault-quota before row kind = rw (kind, is_declared-rows QUOTA before (field row 1)) refl

pub repeat_fault-list : (before : List Fields) (row : Fields) → kind_of row ≡ PROGRAMME_LIST
    → repeat_fault before row ≡ unless (not (is_declared (names_of PROGRAMME_LIST before) (field row 1))) (DeclaredTwice (next_place before))
unfolding repeat_fault
repeat_fault-list before row kind = rw (kind, is_declared-rows PROGRAMME_LIST before (field row 1)) refl

pub repeat_fault-resident : (before : List Fields) (row : Fields) → kind_of row ≡ RESIDENT_LIST
    → repeat_fault before row ≡ unless (not (is_declared (residents_of before) (field row 1))) (DeclaredTwice (next_place before))
unfolding repeat_fault residents_of
repeat_fault-resident before row kind = rw (kind, is_declared-rows RESIDENT_LIST before (field row 1)) refl

pub limit_fault-other : (lim : Limits) (before : List Fields) (row : Fields) (k : ℕ) → kind_of row ≡ k → (k == QUOTA) ≡ false → (k == RESIDENT_LIST) ≡ false → limit_fault lim before row ≡ None
unfolding limit_fault
limit_fault-other lim before row k kind a b = rw (kind, a, b) refl

-- a fault followed by no fault is that fault
pub option_or-none : {A : Type 0} (o : Option A) → o ≡ option_or o None
option_or-none None = refl
option_or-none (Some x) = refl

-- the test for a repeated name in a Q row, in terms of the names that the code keeps
pub quota_asked : (before : List Fields) (row : Fields) (names : List (List ℕ)) (name : List ℕ) (n : ℕ) → kind_of row ≡ QUOTA
    → names ≡ programmes_of before → name ≡ field row 1 → n ≡ next_place before
    → repeat_fault before row ≡ unless (not (is_declared names name)) (DeclaredTwice n)
quota_asked before row names name n kind e f g = rw (repeat_fault-quota before row kind, e, f, g) refl

pub list_asked : (before : List Fields) (row : Fields) (names : List (List ℕ)) (name : List ℕ) (n : ℕ) → kind_of row ≡ PROGRAMME_LIST
    → names ≡ names_of PROGRAMME_LIST before → name ≡ field row 1 → n ≡ next_place before
    → repeat_fault before row ≡ unless (not (is_declared names name)) (DeclaredTwice n)
list_asked before row names name n kind e f g = rw (repeat_fault-list before row kind, e, f, g) refl

pub resident_asked : (before : List Fields) (row : Fields) (names : List (List ℕ)) (name : List ℕ) (n : ℕ) → kind_of row ≡ RESIDENT_LIST
    → names ≡ residents_of before → name ≡ field row 1 → n ≡ next_place before
    → repeat_fault before row ≡ unless (not (is_declared names name)) (DeclaredTwice n)
resident_asked before row names name n kind e f g = rw (repeat_fault-resident before row kind, e, f, g) refl

-- the test of the limits in a Q row, in terms of the quota that the builder was given
pub quota_limited : (d : Draft) (before : List Fields) (row : Fields) (q n : ℕ) → kind_of row ≡ QUOTA → d.quotas ≡ quotas_of before
    → q ≡ unwrap_or (number_of (field row 2)) 0 → n ≡ next_place before
    → limit_fault d.limits before row ≡ option_map (at_record n) (programme_fault d q)
quota_limited d before row q n kind e f g = rw (limit_fault-quota d before row kind e, f, g) refl

pub resident_limited : (d : Draft) (before : List Fields) (row : Fields) (n : ℕ) → kind_of row ≡ RESIDENT_LIST
    → d.resident_lists ≡ map (λ name. None) (residents_of before) → n ≡ next_place before
    → limit_fault d.limits before row ≡ option_map (at_record n) (resident_fault d)
resident_limited d before row n kind e g = rw (limit_fault-resident d before row kind e, g) refl

-- if neither of two tests has a fault, both together have no fault
pub no_fault : {F : Type 0} (first second : Option F) → first ≡ None → second ≡ None → option_or first second ≡ None
no_fault first second e f = rw (e, f) refl

-- the rows declare a capacity exactly if they have a C row
pub is_some-capacity_in : (rows : List Fields) → is_some (capacity_in rows) ≡ list_any (is_kind CAPACITY) rows
unfolding capacity_in
is_some-capacity_in [] = refl
is_some-capacity_in (r ∷ rows) = by (is_kind CAPACITY r) (is_some-capacity_in rows)
  where
    worth : Fields → Capacity
    worth row = unwrap_or (capacity_of (field row 1)) Full

    by : (b : Bool) → is_some (option_map (λ (row : Fields). unwrap_or (capacity_of (field row 1)) Full) (find (is_kind CAPACITY) rows)) ≡ list_any (is_kind CAPACITY) rows
        → is_some (option_map (λ (row : Fields). unwrap_or (capacity_of (field row 1)) Full) (if b then Some r else find (is_kind CAPACITY) rows)) ≡ (b || list_any (is_kind CAPACITY) rows)
    by true e = refl
    by false e = e

-- if no event comes before the first C row, the first pass refuses a C row exactly if a capacity was
-- declared before
pub capacity_asked : (before : List Fields) (row : Fields) (cap : Option Capacity) (n : ℕ) → kind_of row ≡ CAPACITY
    → cap ≡ capacity_in before → (cap ≡ None → list_any (is_kind EVENT) before ≡ false) → n ≡ next_place before
    → repeat_fault before row ≡ unless (not (is_some cap)) (BadEvent n)
unfolding repeat_fault
capacity_asked before row None n kind e f g = rw (kind, ← is_some-capacity_in before, ← e, f refl) refl
capacity_asked before row (Some room) n kind e f g = rw (kind, ← is_some-capacity_in before, ← e, g) refl

pub event_asked : (before : List Fields) (row : Fields) (cap : Option Capacity) (n : ℕ) → kind_of row ≡ EVENT
    → cap ≡ capacity_in before → n ≡ next_place before → repeat_fault before row ≡ unless (is_some cap) (BadEvent n)
unfolding repeat_fault
event_asked before row cap n kind e g = rw (kind, e, g, is_some-capacity_in before) refl

-- if a record fails this test, the first pass reports the test's fault
pub test_refused : (lim : Limits) (before : List Fields) (row : Fields) (test : Bool) (fault : DocketFault) → repeat_fault before row ≡ unless test fault → test ≡ false
    → Refuses (option_or (repeat_fault before row) (limit_fault lim before row)) fault
test_refused lim before row test fault e f = rw (e, f) (inr refl)

pub test_passed : (lim : Limits) (before : List Fields) (row : Fields) (test : Bool) (fault : DocketFault) → repeat_fault before row ≡ unless test fault → test ≡ true
    → limit_fault lim before row ≡ None → option_or (repeat_fault before row) (limit_fault lim before row) ≡ None
test_passed lim before row test fault e f g = rw (e, f, g) refl

pub none_is : {A : Type 0} (o : Option A) → is_some o ≡ false → o ≡ None
none_is None e = refl
none_is (Some x) e = absurd (cc e)

pub option_or-first : {A : Type 0} (o p : Option A) → is_some o ≡ false → p ≡ option_or o p
option_or-first None p e = refl
option_or-first (Some x) p e = cc e
