-- What the first pass hands on to the later ones.
use Rattle.std.specs.Prelude.{◌≡◌, ◌≤◌, List, [], length, Option, None}
use Rattle.records.specs.Reading.{Fields, AreAll}
use Rattle.docket.specs.Limits.{most_records}
use Rattle.docket.specs.Passes.{first_from, first_pass_fault}
use Rattle.docket.specs.Reading.{IsReading}
use Rattle.docket.specs.declared.reading.Reading.{Reading}

-- the reading is what the first pass keeps of these records, in which it finds no fault
pub record IsPassed (reading : Reading) (rows : List Fields) : Type 0 where
  pub reading_is : IsReading reading rows
  pub sound : first_from (first_pass_fault reading.declared.builder.limits) [] rows ≡ None
  pub few : length rows ≤ most_records reading.declared.builder.limits

-- the reading is what the first pass keeps of some records in which it finds no fault; if all
-- records are known, these are all records
pub record HasPassed (all : Option (List Fields)) (reading : Reading) : Type 0 where
  pub rows : List Fields
  pub all_are : AreAll all rows
  pub passed : IsPassed reading rows
