-- The notes of all mailboxes of one side, in one row. A note is a number that stands for a message. Each desk has a
-- part of this row.
use Rattle.std.specs.Prelude.{ℕ, ◌+◌, ◌-◌, ◌≤◌, ◌<◌, nat_lt, nat_eq, if◌then◌else◌, List, length, map, slice_index_or}
use Rattle.std.specs.List.{range_with_len}
use Rattle.exchange_core.specs.declared.part.Part.{Part}

-- position k of a part, counted round: after the part's last position comes its first one again
abbrev pub wrapped : ℕ → ℕ → ℕ
wrapped room k = if nat_lt k room then k else k - room

-- where the part's k-th note stands in the row; the notes are counted from the front of the part
abbrev pub place_in : Part → ℕ → ℕ
place_in part k = part.start + wrapped part.room (part.front + k)

-- the notes that wait in the part, oldest first
abbrev pub waiting_in : List ℕ → Part → List ℕ
waiting_in notes part = map (λ k. slice_index_or notes (place_in part k) 0) (range_with_len 0 part.len)

-- the front lies within the part or at its end, and the part has room for each note that waits
pub record IsRing (part : Part) : Type 0 where
  pub front_within : part.front ≤ part.room
  pub len_within : part.len ≤ part.room

-- a part without notes, which starts here and has this room
abbrev pub opened : ℕ → ℕ → Part
opened start room = record { start = start; room = room; front = 0; len = 0 }

-- the part after one more note was added
abbrev pub pushed : Part → Part
pushed part = record part { len = part.len + 1 }

-- the part after the front note was taken; unchanged if no note waits
abbrev pub popped : Part → Part
popped part = if nat_eq part.len 0 then part else record part { front = wrapped part.room (part.front + 1); len = part.len - 1 }

-- where a part starts, and for how many notes the part has room
abbrev pub span : Part → ℕ × ℕ
span part = (part.start, part.room)

-- each part ends within the row, and ends before any later part starts
pub record AreLaid (spans : List (ℕ × ℕ)) (total : ℕ) : Type 0 where
  pub within : (k : ℕ) → k < length spans → (slice_index_or spans k (0, 0)).0 + (slice_index_or spans k (0, 0)).1 ≤ total
  pub apart : (i k : ℕ) → i < k → k < length spans → (slice_index_or spans i (0, 0)).0 + (slice_index_or spans i (0, 0)).1 ≤ (slice_index_or spans k (0, 0)).0
