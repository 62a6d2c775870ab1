-- Rows of CSV, which go to a writer through a buffer.
use Rattle.std.specs.Prelude.{◌≡◌, ℕ, true, List, [], ◌∷◌, ◌++◌, Option, if◌then◌else◌}
use Rattle.std.specs.Io.KnownBytes.{Appends, append_known}
use Rattle.csv.specs.declared.writer.WriterBuilder.{WriterBuilder}
use Rattle.csv.specs.Writing.{row_text, default_writer, with_flexible, is_blank, quote_mark}
use Rattle.csv.specs.Machine.{line_feed}
use Rattle.std.specs.Borrow.{MutBor}
use Rattle.records.specs.declared.writer.RowWriter.{RowWriter}

-- how rows are written: as `csv` does by default, but with any number of fields in a row
abbrev pub row_setup : WriterBuilder
row_setup = with_flexible default_writer true

-- the text of a row with these fields, including its line feed
unfoldable pub row : List (List ℕ) → List ℕ
row fields = row_text row_setup fields

-- how the row with these fields ends: with a line feed, and with two quotes before it if the row would otherwise be
-- empty
abbrev pub row_end : List (List ℕ) → List ℕ
row_end fields = (if is_blank row_setup fields then quote_mark ∷ quote_mark ∷ [] else []) ++ line_feed ∷ []

-- all bytes of the rows: the bytes that the writer holds, if they are known, and then the bytes in the
-- buffer
abbrev pub held : {W : Type 0} → (W → Option (List ℕ)) → RowWriter W → Option (List ℕ)
held contents rows = append_known (contents rows.writer.now) rows.buffer.now.items

-- the rows go to the borrowed writer, and the buffer has exactly these bytes
abbrev pub IsOver : {W : Type 0} → RowWriter W → MutBor W → List ℕ → Type 0
IsOver rows lent bytes =
    (rows.writer.ghost_name ≡ lent.ghost_name) × (rows.writer.now ≡ lent.now) × (rows.buffer.now.items ≡ bytes)

-- The rows still go to the same writer. The writer's bytes, followed by the buffer's bytes, grew by exactly this text.
abbrev pub Adds : {W : Type 0} → (W → Option (List ℕ)) → RowWriter W → RowWriter W → List ℕ → Type 0
Adds contents old new text = (new.writer.ghost_name ≡ old.writer.ghost_name) × Appends (held contents old) (held contents new) text

-- the rows still go to the same writer, and the writer's bytes are unchanged
abbrev pub Keeps : {W : Type 0} → RowWriter W → RowWriter W → Type 0
Keeps old new = (new.writer.ghost_name ≡ old.writer.ghost_name) × (new.writer.now ≡ old.writer.now)

-- if the bytes that the writer holds are known, they grew by exactly this text
abbrev pub Writes : {W : Type 0} → (W → Option (List ℕ)) → W → W → List ℕ → Type 0
Writes contents old new text = Appends (contents old) (contents new) text
