-- The desks' state that the seats of one side stand for, together with the row of notes. A seat is what the
-- core stores for one desk.
use Rattle.std.specs.Prelude.{ℕ, ◌+◌, ◌*◌, ◌/◌, ◌%◌, nat_eq, if◌then◌else◌, List, map}
use Rattle.exchange_core.specs.declared.event.AnswerKind.{AnswerKind}
use Rattle.exchange_core.specs.declared.event.AnswerKind.TheVariants.{Hold, Decline, Release}
use Rattle.exchange_core.specs.declared.resident_row.ResidentSeat.{ResidentSeat}
use Rattle.exchange_core.specs.declared.resident_row.TheConstants.{RANKS}
use Rattle.exchange_core.specs.declared.programme_row.ProgrammeSeat.{ProgrammeSeat}
use Rattle.exchange_core.specs.Mail.{Answered}
use Rattle.exchange_core.specs.Left.{ResidentLeft, ProgrammeLeft}
use Rattle.exchange_core.specs.Notes.{waiting_in, span, IsRing}
use Rattle.exchange_core.specs.Seats.{due_of}

-- the programme in the note of an offer, which is the note's upper part
abbrev pub programme_of : ℕ → ℕ
programme_of note = note / RANKS

-- the rank in the note of an offer, which is the note's lower part
abbrev pub rank_of : ℕ → ℕ
rank_of note = note % RANKS

-- the rank of the held offer after an answer: if the answer is `hold`, that of the taken offer, else the rank
-- held before
abbrev pub rank_after : ℕ → ℕ → AnswerKind → ℕ
rank_after held taken Hold = taken
rank_after held taken Decline = held
rank_after held taken Release = held

-- the state of a resident's desk that the resident's seat and the row of notes stand for
abbrev pub shown_resident : List ℕ → ResidentSeat → ResidentLeft
shown_resident notes seat = record { waiting = map programme_of (waiting_in notes seat.part); due = due_of seat.first_due seat.second_due; held = seat.held; room = seat.part.room }

-- where the part of a resident's seat starts, and for how many notes the part has room
abbrev pub resident_span : ResidentSeat → ℕ × ℕ
resident_span seat = span seat.part

-- the resident's part of the row of notes is a ring: its front lies within the part or at its end, and the
-- part has room for the notes that wait
abbrev pub IsResidentRing : ResidentSeat → Type 0
IsResidentRing seat = IsRing seat.part

-- the number for a kind of answer
abbrev pub code_of : AnswerKind → ℕ
code_of Hold = 0
code_of Decline = 1
code_of Release = 2

-- the kind of answer for a number
abbrev pub kind_of : ℕ → AnswerKind
kind_of code = if nat_eq code 0 then Hold else (if nat_eq code 1 then Decline else Release)

-- the note of an answer: four times the resident's number, plus the number of the kind
abbrev pub note_of : Answered → ℕ
note_of answer = answer.0 * 4 + code_of answer.1

-- the answer that a note stands for
abbrev pub answer_of : ℕ → Answered
answer_of note = (note / 4, kind_of (note % 4))

-- the state of a programme's desk that the programme's seat and the row of notes stand for
abbrev pub shown_programme : List ℕ → ProgrammeSeat → ProgrammeLeft
shown_programme notes seat = record {
  offered = seat.offers_made;
  out = seat.offers_out;
  waiting = map answer_of (waiting_in notes seat.part);
  room = seat.part.room;
  places = seat.places;
  listed = seat.list_length;
}

-- where the part of a programme's seat starts, and for how many notes the part has room
abbrev pub programme_span : ProgrammeSeat → ℕ × ℕ
programme_span seat = span seat.part

-- the programme's part of the row of notes is a ring: its front lies within the part or at its end, and the
-- part has room for the notes that wait
abbrev pub IsProgrammeRing : ProgrammeSeat → Type 0
IsProgrammeRing seat = IsRing seat.part
