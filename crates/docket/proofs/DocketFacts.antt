-- What the passes over the rows find, taken together.
use Rattle.match_model.specs.declared.limits.Limits.{Limits}
use Rattle.std.proofs.Common.{◌≡◌, ◌⊎◌, inl, inr, ℕ, List, [], ◌∷◌, Bool, true, false, length, map, refl, Option, Some, None, rules}
use Rattle.std.specs.Prelude.{◌&&◌, ◌||◌, not, if◌then◌else◌, nat_eq, option_map, IfSome}
use Rattle.std.specs.List.{list_any}
use Rattle.std.specs.Option.{option_or}
use Rattle.docket.specs.Fields.{is_kind}
use Rattle.records.specs.Reading.{Fields, field, rows_of}
use Rattle.docket.specs.Contents.{Contents, programmes_of, residents_of, rows_of_kind, events_of, journal_of, JournalParts, ByWorkerParts, by_worker_of, has_sheet, declares_member}
use Rattle.docket.specs.Passes.{first_from, first_pass_fault, later_fault, fault_within, sheet_fault, mark_fault, missing_fault, filled_fault, ranking_fault, pairs_fault, event_fault}
use Rattle.docket.specs.Answers.{Stops}
use Rattle.docket.specs.Texts.{programme_name, resident_name}
use Rattle.std.proofs.lemmas.Option.{get_or_from_slice_get}
use Rattle.std.proofs.Common.{slice_get}
use Rattle.docket.specs.Read.{Explains, IsSourceFault}
use Rattle.std.specs.Prelude.{find, unwrap_or}
use Rattle.exchange_core.specs.declared.event.Capacity.{Capacity}
use Rattle.exchange_core.specs.declared.event.Capacity.TheVariants.{Full}
use Rattle.exchange_core.specs.declared.event.Event.{Event}
use Rattle.docket.specs.Words.{capacity_of}
use Rattle.docket.specs.Declarations.{AreByWorker, capacity_in}
use Rattle.docket.specs.Whole.{AreWorkers}
use Rattle.docket.specs.declared.vocabulary.TheConstants.{QUOTA, RESIDENT_LIST, CAPACITY}
use Rattle.docket.specs.declared.fault.DocketFault.{DocketFault}
use Rattle.docket.specs.declared.records_fault.RecordsFault.{RecordsFault}

not_empty : {A : Type 0} (x : A) (xs : List A) → nat_eq (length (x ∷ xs)) 0 ≡ false
not_empty x xs = search rules

and_false : (b : Bool) → (b && false) ≡ false
and_false true = refl
and_false false = refl

-- the docket has no names exactly if no row declares a member
pub no_members : (rows : List Fields) → (nat_eq (length (programmes_of rows)) 0 && nat_eq (length (residents_of rows)) 0) ≡ not (list_any declares_member rows)
unfolding programmes_of residents_of
no_members [] = refl
no_members (r ∷ rows) = by (is_kind QUOTA r) (is_kind RESIDENT_LIST r) (no_members rows)
  where
    name : Fields → List ℕ
    name row = field row 1

    by : (q m : Bool) → (nat_eq (length (map (λ (row : Fields). field row 1) (rows_of_kind QUOTA rows))) 0 && nat_eq (length (map (λ (row : Fields). field row 1) (rows_of_kind RESIDENT_LIST rows))) 0) ≡ not (list_any declares_member rows)
        → (nat_eq (length (map (λ (row : Fields). field row 1) (if q then r ∷ rows_of_kind QUOTA rows else rows_of_kind QUOTA rows))) 0
        && nat_eq (length (map (λ (row : Fields). field row 1) (if m then r ∷ rows_of_kind RESIDENT_LIST rows else rows_of_kind RESIDENT_LIST rows))) 0) ≡ not ((q || m) || list_any declares_member rows)
    by true m more = rw (not_empty (field r 1) (map (λ (row : Fields). field row 1) (rows_of_kind QUOTA rows))) refl
    by false true more = rw (not_empty (field r 1) (map (λ (row : Fields). field row 1) (rows_of_kind RESIDENT_LIST rows))) (and_false (nat_eq (length (map (λ (row : Fields). field row 1) (rows_of_kind QUOTA rows))) 0))
    by false false more = more

-- the workers of the events that the first pass notes are the docket's workers of events
pub by_worker_is : (workers : Option ℕ) (who : List ℕ) (rows : List Fields) → AreByWorker workers who rows
    → (option_map (λ n. record { workers = n; who = who }) workers ≡ by_worker_of rows) × IfSome (by_worker_of rows) (λ by. AreWorkers by.workers by.who)
by_worker_is None who rows h = rw (← h.workers_are) (refl, tt)
by_worker_is (Some n) who rows h = rw (← h.workers_are, ← h.who_are) (refl, h.within)

-- if reading the records gives a fault and the bytes are known, the whole call reports this fault
pub whole_reading : (lim : Limits) (known : Option (List ℕ)) (e : RecordsFault) → IsSourceFault e ⊎ Explains (option_map rows_of known) (first_from (first_pass_fault lim) []) e
    → IsSourceFault e ⊎ IfSome known (λ bytes. Stops (fault_within lim bytes) e)
whole_reading lim known e (inl read) = inl read
whole_reading lim None e (inr h) = inr tt
whole_reading lim (Some bytes) e (inr (inl memory)) = inr (inl memory)
whole_reading lim (Some bytes) e (inr (inr is)) = inr (inr (rw is refl))

-- in a docket with a sheet, the fault of the sheet is the first fault of its three walks
pub sheet_asked : (rows : List Fields) → has_sheet rows ≡ true
    → sheet_fault rows ≡ option_or (first_from (mark_fault rows) [] rows) (option_or (missing_fault rows) (first_from (filled_fault rows) [] rows))
unfolding sheet_fault
sheet_asked rows e = rw e refl

pub sheet_free : (rows : List Fields) → has_sheet rows ≡ false → sheet_fault rows ≡ None
unfolding sheet_fault
sheet_free rows e = rw e refl

-- the first fault after the first pass is the lists' fault, else the fault of too many pairs, else the
-- sheet's, else the events'
pub later_is : (lim : Limits) (rows : List Fields) → later_fault lim rows
    ≡ option_or (option_or (first_from (ranking_fault rows) [] rows) (pairs_fault lim rows)) (option_or (sheet_fault rows) (first_from (event_fault rows) [] rows))
unfolding later_fault
later_is lim rows = by (first_from (ranking_fault rows) [] rows)
  where
    by : (a : Option DocketFault) → option_or a (option_or (pairs_fault lim rows) (option_or (sheet_fault rows) (first_from (event_fault rows) [] rows)))
        ≡ option_or (option_or a (pairs_fault lim rows)) (option_or (sheet_fault rows) (first_from (event_fault rows) [] rows))
    by None = refl
    by (Some f) = refl

-- the name that a docket's contents give programme p is the item at place p of the programmes
pub programme_name-is : (d : Contents) (p : ℕ) (name : List ℕ) → slice_get d.programmes p ≡ Some name → programme_name d p ≡ name
unfolding programme_name
programme_name-is d p name h = get_or_from_slice_get d.programmes p name [] h

-- the name that a docket's contents give resident r is the item at place r of the residents
pub resident_name-is : (d : Contents) (r : ℕ) (name : List ℕ) → slice_get d.residents r ≡ Some name → resident_name d r ≡ name
unfolding resident_name
resident_name-is d r name h = get_or_from_slice_get d.residents r name [] h

pub same_contents : {a b : Contents} → a.programmes ≡ b.programmes → a.residents ≡ b.residents → a.instance ≡ b.instance → a.sheet ≡ b.sheet → a.journal ≡ b.journal → a ≡ b
same_contents p r n s j = λ i. record { programmes = p i; residents = r i; instance = n i; sheet = s i; journal = j i }

abbrev parts_of : List Event → Option ByWorkerParts → Capacity → JournalParts
parts_of items by c = record { capacity = c; events = items; by = by }

-- the journal made of this capacity, these events and these workers is the docket's journal
pub journal_is : (rows : List Fields) (cap : Option Capacity) (items : List Event) (workers : Option ByWorkerParts) → cap ≡ capacity_in rows → items ≡ events_of rows
    → workers ≡ by_worker_of rows → option_map (parts_of items workers) cap ≡ journal_of rows
unfolding capacity_in
journal_is rows cap items workers e f g = rw (e, f, g) (by (find (is_kind CAPACITY) rows))
  where
    by : (o : Option Fields) → option_map (parts_of (events_of rows) (by_worker_of rows)) (option_map (λ (row : Fields). unwrap_or (capacity_of (field row 1)) Full) o)
        ≡ option_map (λ (row : Fields). parts_of (events_of rows) (by_worker_of rows) (unwrap_or (capacity_of (field row 1)) Full)) o
    by None = refl
    by (Some row) = refl
