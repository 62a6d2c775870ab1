-- The rows that a replay writes.
use Rattle.std.specs.Prelude.{ℕ, ◌+◌, Option, Some, None, Result, Ok, Err, List, [], ◌∷◌, ◌++◌, length, codes, decimal}
use Rattle.exchange_core.specs.declared.event.Pending.{Pending}
use Rattle.exchange_core.specs.declared.event.Pending.TheVariants.{Offers, Due, Answers, Wish}
use Rattle.exchange_core.specs.declared.event.Refused.{Refused}
use Rattle.exchange_core.specs.declared.event.Refused.TheVariants.{Closed, NoSuchDesk, NoPlace, NotNext, AnswerDue, NothingWaiting, WrongFront, NotDue, MailboxFull, StillPending}
use Rattle.docket.specs.Contents.{Contents, JournalParts}
use Rattle.records.specs.RowText.{row}
use Rattle.docket.specs.Texts.{programme_name, resident_name}
use Rattle.match_audit.specs.declared.replayer.Replayed.{Replayed}
use Rattle.match_audit.specs.declared.replayer.ReplayFault.{ReplayFault}
use Rattle.match_audit.specs.declared.replayer.ReplayFault.TheVariants.{BadCapacity, Memory, At, NotClosed, SheetDiffers}
use Rattle.match_audit.specs.Replay.{NamesMember}

-- the word for a refusal
abbrev pub refusal_word : Refused → List ℕ
refusal_word Closed = codes "closed"
refusal_word NoSuchDesk = codes "no-such-desk"
refusal_word NoPlace = codes "no-place"
refusal_word NotNext = codes "not-next"
refusal_word AnswerDue = codes "answer-due"
refusal_word NothingWaiting = codes "nothing-waiting"
refusal_word WrongFront = codes "wrong-front"
refusal_word NotDue = codes "not-due"
refusal_word MailboxFull = codes "mailbox-full"
refusal_word (StillPending what) = codes "still-pending"

-- the word for what is pending
abbrev pub pending_word : Pending → List ℕ
pending_word (Offers r) = codes "offers"
pending_word (Due r) = codes "due"
pending_word (Answers p) = codes "answers"
pending_word (Wish p) = codes "wish"

-- the name of the desk where something is pending
abbrev pub pending_name : Contents → Pending → List ℕ
pending_name d (Offers r) = resident_name d r
pending_name d (Due r) = resident_name d r
pending_name d (Answers p) = programme_name d p
pending_name d (Wish p) = programme_name d p

-- the fields after the word of a refusal: for a refused close, what is pending and the name of its desk; else none
abbrev pub refusal_fields : Contents → Refused → List (List ℕ)
refusal_fields d (StillPending what) = pending_word what ∷ pending_name d what ∷ []
refusal_fields d refused = []

-- the fields of a row for a refused close: what is pending, and the name of its desk
abbrev pub pending_fields : List ℕ → List ℕ → List ℕ → List (List ℕ)
pending_fields place kind name = codes "N" ∷ place ∷ codes "still-pending" ∷ kind ∷ name ∷ []

-- the fields of a row for an event that was refused at this place
abbrev pub refused_fields : Contents → List ℕ → Refused → List (List ℕ)
refused_fields d place refused = codes "N" ∷ place ∷ refusal_word refused ∷ refusal_fields d refused

-- how many events the journal has; 0 without a journal
abbrev pub event_count : Option JournalParts → ℕ
event_count (Some journal) = length journal.events
event_count None = 0

-- the fields of a row about a fault of a journal; an event's number is counted from 1, and a missing close has the
-- number after the last event
abbrev pub fault_fields : Contents → ReplayFault → List (List ℕ)
fault_fields d BadCapacity = codes "N" ∷ codes "0" ∷ codes "bad-capacity" ∷ []
fault_fields d Memory = codes "N" ∷ codes "0" ∷ codes "memory" ∷ []
fault_fields d (At place refused) = codes "N" ∷ decimal place ∷ refusal_word refused ∷ refusal_fields d refused
fault_fields d NotClosed = codes "N" ∷ decimal (event_count d.journal + 1) ∷ codes "not-closed" ∷ []
fault_fields d (SheetDiffers r) = codes "D" ∷ resident_name d r ∷ []

-- the fields of the row for a replay's answer
abbrev pub answer_fields : Contents → Result Replayed ReplayFault → List (List ℕ)
answer_fields d (Ok replayed) = codes "G" ∷ decimal replayed.events ∷ []
answer_fields d (Err fault) = fault_fields d fault

-- the row of a worker: the worker's number, and how many events the worker made
unfoldable pub worker_row : ℕ → ℕ → List ℕ
worker_row worker events = row (codes "K" ∷ decimal worker ∷ decimal events ∷ [])

-- one row for each count, of the worker with this number and of those that follow
unfoldable pub worker_rows : ℕ → List ℕ → List ℕ
worker_rows first [] = []
worker_rows first (events ∷ counts) = worker_row first events ++ worker_rows (first + 1) counts

-- the rows that follow the row of an answer: one for each worker if the answer is good and there are counts,
-- else none
unfoldable pub count_rows : Result Replayed ReplayFault → Option (List ℕ) → List ℕ
count_rows (Ok replayed) (Some counts) = worker_rows 0 counts
count_rows answer counts = []

-- the rows of a replay's answer
unfoldable pub replay_text : Contents → Result Replayed ReplayFault → Option (List ℕ) → List ℕ
replay_text d answer counts = row (answer_fields d answer) ++ count_rows answer counts

-- the members that the answer names are members of the docket
abbrev pub IsAnswerOf : Contents → Result Replayed ReplayFault → Type 0
IsAnswerOf d (Ok replayed) = Unit {0}
IsAnswerOf d (Err fault) = NamesMember d.instance fault
