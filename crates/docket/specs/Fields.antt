-- One record: its fields, and the faults that need no other record.
use Rattle.std.specs.Prelude.{ℕ, nat_lt, ◌&&◌, ◌||◌, ◌==◌, Bool, if◌then◌else◌, Option, Some, None, is_some, List, [], ◌∷◌, length, drop, codes, bytes_eq, ◌+◌}
use Rattle.std.specs.Option.{option_or}
use Rattle.std.specs.List.{list_all}
use Rattle.records.specs.Reading.{Fields, field}
use Rattle.docket.specs.Words.{capacity_of, workers_of, worker_of, answer_of}
use Rattle.docket_names.specs.Words.{is_name, is_number, number_of}
use Rattle.docket.specs.declared.vocabulary.TheConstants.{QUOTA, PROGRAMME_LIST, RESIDENT_LIST, MATCHED, UNMATCHED, FILLED, CAPACITY, EVENT}
use Rattle.docket.specs.declared.vocabulary.EventWord.{EventWord}
use Rattle.docket.specs.declared.vocabulary.EventWord.TheVariants.{Offer, Take, Answer, Hear, Close}
use Rattle.docket.specs.declared.fault.DocketFault.{DocketFault}
use Rattle.docket.specs.declared.fault.DocketFault.TheVariants.{UnknownKind, FieldCount, BadName, BadQuota, BadEvent, BadSheet, BadVersion, BadWithdrawal}

-- the byte, if the text is one byte long; else 0
abbrev pub lone_byte : List ℕ → ℕ
lone_byte [] = 0
lone_byte (c ∷ []) = c
lone_byte (c ∷ d ∷ rest) = 0

-- the kind of a record: its first field, if this is one byte long; else 0
unfoldable pub kind_of : Fields → ℕ
kind_of row = lone_byte (field row 0)

-- whether the record is of the kind
abbrev pub is_kind : ℕ → Fields → Bool
is_kind kind row = kind_of row == kind

-- whether the record has this kind, and this name in its second field
abbrev pub is_row_of : ℕ → List ℕ → Fields → Bool
is_row_of kind name row = is_kind kind row && bytes_eq name (field row 1)

-- the fault if the test fails, else none
abbrev pub unless : Bool → DocketFault → Option DocketFault
unless test fault = if test then None else Some fault

-- the event word that a text spells, or none
unfoldable pub event_word : List ℕ → Option EventWord
event_word word =
    if bytes_eq word (codes "offer") then Some Offer
    else if bytes_eq word (codes "take") then Some Take
    else if bytes_eq word (codes "answer") then Some Answer
    else if bytes_eq word (codes "hear") then Some Hear
    else if bytes_eq word (codes "close") then Some Close
    else None

-- how many fields an event with this word has
abbrev pub width_of : EventWord → ℕ
width_of Offer = 4
width_of Take = 4
width_of Answer = 5
width_of Hear = 5
width_of Close = 2

-- how many fields an event with this word has: in a journal by worker one more than else
abbrev pub event_width : Option ℕ → EventWord → ℕ
event_width None word = width_of word
event_width (Some workers) word = width_of word + 1

-- The worker's number in the last field of an event, or none if the field has no such number. It is 0 if the journal
-- is not by worker.
abbrev pub worker_at : Option ℕ → EventWord → Fields → Option ℕ
worker_at None word row = Some 0
worker_at (Some workers) word row = worker_of workers (field row (width_of word))

-- The definitions from here on give the faults that a record has without a look at any other record. `counted` gives
-- the fault of a wrong number of fields.
abbrev pub counted : ℕ → ℕ → Fields → Option DocketFault
counted n width row = unless (length row == width) (FieldCount n)

-- the first fault of a Q row, which has to be `Q,programme,quota`
abbrev pub quota_row_fault : ℕ → Fields → Option DocketFault
quota_row_fault n row =
    option_or (counted n 3 row)
    (option_or (unless (is_name (field row 1)) (BadName n)) (unless (is_some (number_of (field row 2))) (BadQuota n)))

-- whether all fields after the first are names
unfoldable pub lists_names : Fields → Bool
lists_names row = list_all is_name (drop 1 row)

-- the first fault of a rank list, which has to be `P,programme,resident,..` or `R,resident,programme,..`
abbrev pub list_row_fault : ℕ → Fields → Option DocketFault
list_row_fault n row =
    option_or (unless (nat_lt 1 (length row)) (FieldCount n)) (unless (lists_names row) (BadName n))

-- the first fault of an M row, which has to be `M,resident,programme`
abbrev pub matched_row_fault : ℕ → Fields → Option DocketFault
matched_row_fault n row = option_or (counted n 3 row) (unless (is_name (field row 1) && is_name (field row 2)) (BadName n))

-- the first fault of a U row, which has to be `U,resident`
abbrev pub unmatched_row_fault : ℕ → Fields → Option DocketFault
unmatched_row_fault n row = option_or (counted n 2 row) (unless (is_name (field row 1)) (BadName n))

-- the first fault of an F row, which has to be `F,programme,filled,quota`
abbrev pub filled_row_fault : ℕ → Fields → Option DocketFault
filled_row_fault n row =
    option_or (counted n 4 row)
    (option_or (unless (is_name (field row 1)) (BadName n))
    (unless (is_number (field row 2) && is_number (field row 3)) (BadSheet n)))

-- the first fault of a C row, which has to be `C,full` or `C,n`; in a journal by worker the number of workers follows
abbrev pub capacity_row_fault : ℕ → Fields → Option DocketFault
capacity_row_fault n row =
    option_or (unless ((length row == 2) || (length row == 3)) (FieldCount n))
    (option_or (unless (is_some (capacity_of (field row 1))) (BadEvent n))
    (unless ((length row == 2) || is_some (workers_of (field row 2))) (BadEvent n)))

-- the fault of an event unless its fields 2 and 3, counted from 0, are names
abbrev pub event_names_fault : ℕ → Fields → Option DocketFault
event_names_fault n row = unless (is_name (field row 2) && is_name (field row 3)) (BadName n)

-- the first fault of an answer: its two names, then its kind of answer
abbrev pub answer_fault : ℕ → Fields → Option DocketFault
answer_fault n row = option_or (event_names_fault n row) (unless (is_some (answer_of (field row 4))) (BadEvent n))

-- the first fault of the fields after an event's word; a worker's number is not tested here
abbrev pub event_fields_fault : ℕ → Fields → EventWord → Option DocketFault
event_fields_fault n row Offer = event_names_fault n row
event_fields_fault n row Take = event_names_fault n row
event_fields_fault n row Answer = answer_fault n row
event_fields_fault n row Hear = answer_fault n row
event_fields_fault n row Close = None

-- The first fault of an event row: its word is unknown, its number of fields is wrong, or a field is bad. There is a
-- number of workers only if the journal is by worker.
abbrev pub worded_row_fault : ℕ → Option ℕ → Fields → Option EventWord → Option DocketFault
worded_row_fault n workers row None = Some (BadEvent n)
worded_row_fault n workers row (Some word) =
    option_or (counted n (event_width workers word) row)
    (option_or (event_fields_fault n row word) (unless (is_some (worker_at workers word row)) (BadEvent n)))

-- the first fault of an E row, which has to be `E,word,..`; in a journal by worker the worker's number stands at the
-- end
abbrev pub event_row_fault : ℕ → Option ℕ → Fields → Option DocketFault
event_row_fault n workers row =
    option_or (unless (nat_lt 1 (length row)) (FieldCount n)) (worded_row_fault n workers row (event_word (field row 1)))

-- the letter of a version row, `V`, in ASCII
abbrev pub version_kind : ℕ
version_kind = 86

-- the letter of a withdrawal row, `W`, in ASCII
abbrev pub withdrawal_kind : ℕ
withdrawal_kind = 87

-- the first fault of a V row, which has to be `V,2`
abbrev pub version_row_fault : ℕ → Fields → Option DocketFault
version_row_fault n row = option_or (counted n 2 row) (unless (bytes_eq (field row 1) (codes "2")) (BadVersion n))

-- whether the text is a side of the match: `P` for programmes or `R` for residents
abbrev pub is_side : List ℕ → Bool
is_side text = bytes_eq text (codes "P") || bytes_eq text (codes "R")

-- the first fault of a W row, which has to be `W,P,programme` or `W,R,resident`
abbrev pub withdrawal_row_fault : ℕ → Fields → Option DocketFault
withdrawal_row_fault n row =
    option_or (counted n 3 row)
    (option_or (unless (is_side (field row 1)) (BadWithdrawal n)) (unless (is_name (field row 2)) (BadName n)))

-- The first fault that record n has by itself: in its kind, its number of fields, its names, or its numbers and
-- words. If the journal is by worker, `workers` is the number of workers. A V or W row has no fault by itself:
-- whether the row is known depends on the records before it.
unfoldable pub row_fault : ℕ → Option ℕ → Fields → Option DocketFault
row_fault n workers row =
    if is_kind QUOTA row then quota_row_fault n row
    else if is_kind PROGRAMME_LIST row then list_row_fault n row
    else if is_kind RESIDENT_LIST row then list_row_fault n row
    else if is_kind MATCHED row then matched_row_fault n row
    else if is_kind UNMATCHED row then unmatched_row_fault n row
    else if is_kind FILLED row then filled_row_fault n row
    else if is_kind CAPACITY row then capacity_row_fault n row
    else if is_kind EVENT row then event_row_fault n workers row
    else if is_kind version_kind row then None
    else if is_kind withdrawal_kind row then None
    else Some (UnknownKind n)
