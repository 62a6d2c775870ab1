-- How records are written, one line for each.
use Rattle.std.specs.Prelude.{◌≡◌, ℕ, List, [], ◌∷◌, ◌++◌}
use Rattle.std.specs.Global.{Vec}
use Rattle.csv.specs.Writing.{row_body, default_writer}
use Rattle.records.specs.Reading.{Fields}

-- the new text is the old one with exactly these bytes added at the end
abbrev pub Grows : Vec ℕ → Vec ℕ → List ℕ → Type 0
Grows old new bytes = new.items ≡ old.items ++ bytes

-- a record as `csv` writes it, with a line feed at the end
unfoldable pub line : Fields → List ℕ
line row = row_body default_writer row ++ 10 ∷ []

-- the records, one line each
unfoldable pub lines : List Fields → List ℕ
lines [] = []
lines (row ∷ rest) = line row ++ lines rest
