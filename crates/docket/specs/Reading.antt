-- What the first pass keeps of the records that it has read.
use Rattle.std.specs.Prelude.{◌≡◌, ◌++◌, ◌∷◌, List, [], length}
use Rattle.records.specs.Reading.{Fields}
use Rattle.docket.specs.Declarations.{IsDeclared, AreFew}
use Rattle.docket.specs.Lists.{AreLists}
use Rattle.docket.specs.SheetRows.{AreSheetRows}
use Rattle.docket.specs.Events.{AreEvents}
use Rattle.docket.specs.declared.reading.Reading.{Reading}

-- the reading is what the first pass keeps of these records: their count, what they declare, and
-- what later passes need
pub record IsReading (reading : Reading) (rows : List Fields) : Type 0 where
  pub records : reading.records ≡ length rows
  pub declared : IsDeclared reading.declared reading.name_texts rows
  pub lists : AreLists reading.name_texts reading.lists rows
  pub sheet : AreSheetRows reading.name_texts reading.sheet rows
  pub events : AreEvents reading.name_texts reading.events rows

-- the reading keeps what these records declare and what later passes need, but may count another
-- number of records
pub record AreStored (reading : Reading) (rows : List Fields) : Type 0 where
  pub declared : IsDeclared reading.declared reading.name_texts rows
  pub lists : AreLists reading.name_texts reading.lists rows
  pub sheet : AreSheetRows reading.name_texts reading.sheet rows
  pub events : AreEvents reading.name_texts reading.events rows

-- what the next record declares and what later passes need of it is kept; the record is not counted
-- yet
pub record Stores (old new : Reading) (row : Fields) : Type 0 where
  pub records : new.records ≡ old.records
  pub limits : new.declared.builder.limits ≡ old.declared.builder.limits
  pub workers : AreFew new.declared.workers
  pub stored : (rows : List Fields) → IsReading old rows → AreStored new (rows ++ row ∷ [])
