-- What is true after each row of a key has been added.
use Rattle.std.proofs.Common.{Bor, ◌≡◌, ℕ, List, length, Option, Some, None}
use Rattle.csv.specs.Reading.{Reached, reader_config, reader_state, source_of, strip_bom}
use Rattle.csv.specs.declared.reader.Reader.{Reader}
use Rattle.csv.specs.declared.parser.State.TheVariants as st
use Rattle.docket.specs.Contents.{Contents}
use Rattle.records.specs.Reading.{Fields, IsSource}
use Rattle.reasons_text.specs.Keys.{all_added, fault_from, key_config}
use Rattle.reasons_text.specs.Naming.{KeyNames}

-- the bytes that a slice still has to give: all its bytes
abbrev pub bytes_left : Bor (List ℕ) → Option (List ℕ)
bytes_left slice = Some slice.now

-- the reader has read these rows of the key, and the rest of the key's bytes are left
pub record HasRows (bytes : List ℕ) (reader : Reader (Bor (List ℕ))) (rows : List Fields) : Type 0 where
  pub config : reader_config reader ≡ key_config bytes
  pub source_is : IsSource reader
  pub left : List ℕ
  pub source : source_of bytes_left reader ≡ Some left
  pub reached : Reached (key_config bytes) st.StartRecord (strip_bom bytes) rows (reader_state reader) left

pub record HasAdded (d : Contents) (bytes : List ℕ) (old now : KeyNames) (reader : Reader (Bor (List ℕ))) (count : ℕ) : Type 0 where
  pub done : List Fields
  pub read : HasRows bytes reader done
  pub counted : length done ≡ count
  pub good : fault_from d old 0 done ≡ None
  pub added : now ≡ all_added d old done
