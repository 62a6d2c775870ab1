-- What every later pass relies on after the first pass.
use Rattle.std.specs.Prelude.{◌≡◌, ◌≤◌, ℕ, List, [], length, None, bytes_eq}
use Rattle.std.specs.List.{IsDistinct}
use Rattle.records.specs.Reading.{Fields}
use Rattle.docket.specs.Contents.{programmes_of, residents_of}
use Rattle.docket.specs.Limits.{widest}
use Rattle.docket_names.specs.Texts.{AreNames}
use Rattle.docket.specs.Passes.{first_from, reading_fault}
use Rattle.docket.specs.declared.vocabulary.TheConstants.{MAX_RECORDS}

-- No text has two numbers. The members are the members that the records declare, each by the number of its name's
-- text. The first pass finds no fault in the records within the widest limits.
pub record AreKnown (texts : Fields) (programmes residents : List ℕ) (rows : List Fields) : Type 0 where
  pub distinct : IsDistinct bytes_eq texts
  pub programmes_are : AreNames texts programmes (programmes_of rows)
  pub residents_are : AreNames texts residents (residents_of rows)
  pub sound : first_from (reading_fault widest) [] rows ≡ None
  pub few : length rows ≤ MAX_RECORDS
