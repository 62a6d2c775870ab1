-- What is true after each record of one more file that the first pass has read.
use Rattle.std.proofs.Common.{◌≡◌, ◌≤◌, ◌+◌, ◌++◌, ℕ, List, Option, None}
use Rattle.std.specs.Prelude.{IfSome}
use Rattle.csv.specs.declared.reader.Reader.{Reader as Source}
use Rattle.records.specs.Reading.{Fields, IsSource, IsSplit}
use Rattle.docket.specs.Reading.{IsReading}
use Rattle.docket.specs.Parts.{part_fault}
use Rattle.docket.specs.Passed.{IsPassed}
use Rattle.docket.specs.Limits.{most_records}
use Rattle.docket.specs.Passes.{first_from}
use Rattle.docket.specs.declared.part.Part.{Part}
use Rattle.docket.specs.declared.reading.Reading.{Reading}
use Rattle.match_model.specs.declared.limits.Limits.{Limits}

-- after the records of earlier files, some records of this file were read without a fault, and the
-- others are left
pub record Goes (part : Option Part) (lim : Limits) (all left : Option (List Fields)) (kept : List Fields) (reading : Reading) : Type 0 where
  pub rows : List Fields
  pub reading_is : IsReading reading (kept ++ rows)
  pub clean : first_from (part_fault part lim) kept rows ≡ None
  pub split : IsSplit all rows left

pub record HasRead {R : Type 0} (part : Option Part) (lim : Limits) (old : Reading) (all left : Option (List Fields)) (source : Source R) (reading : Reading) (readings n : ℕ) : Type 0 where
  pub source_is : IsSource source
  pub counted : readings + old.records ≡ n
  pub few : n ≤ most_records lim
  pub limits : reading.declared.builder.limits ≡ lim
  pub workers : IfSome reading.declared.workers (λ w. w ≤ 8)
  pub records : reading.records ≡ n
  pub goes : (kept : List Fields) → IsPassed old kept → Goes part lim all left kept reading
