-- The key's names after one more row, and after the last row.
use Rattle.std.proofs.Common.{Bor, ◌≡◌, ◌+◌, ◌∙◌, ℕ, List, [], ◌∷◌, ◌++◌, Some, None, true, false, inl, inr, refl, ap}
use Rattle.std.specs.Prelude.{◌⊎◌}
use Rattle.std.proofs.lemmas.List.{length-append}
use Rattle.csv.specs.Reading.{ReadRecord, Reached, reader_config, reader_state, source_of, strip_bom}
use Rattle.csv.specs.declared.reader.Reader.{Reader}
use Rattle.csv.specs.declared.parser.State.TheVariants as st
use Rattle.csv.proofs.ReadFacts.{rows-end, rows-more}
use Rattle.docket.specs.Contents.{Contents}
use Rattle.records.specs.Reading.{Fields, IsSource}
use Rattle.reasons_text.specs.Keys.{AddsAll, AreKeyRows, HasBadRow, added, key_config, row_fault}
use Rattle.reasons_text.specs.Naming.{KeyNames}
use Rattle.reasons_text.specs.Faults.{IsFaultOrMemory}
use Rattle.reasons_text.specs.declared.fault.WhyFault.{WhyFault}
use Rattle.reasons_text.specs.declared.fault.WhyFault.TheVariants.{Docket}
use Rattle.docket.specs.declared.fault.DocketFault.TheVariants as docket
use Rattle.reasons_text.proofs.KeyFacts.{next_fault, none_added, none_bad, one_added}
use Rattle.reasons_text.proofs.KeyInvariant.{HasAdded, HasRows, bytes_left}

-- before the first row the reader has read no rows of the key
pub none_read : (bytes : List ℕ) (reader : Reader (Bor (List ℕ))) → reader_config reader ≡ key_config bytes → IsSource reader → reader_state reader ≡ st.StartRecord
    → source_of bytes_left reader ≡ Some (strip_bom bytes) → HasRows bytes reader []
unfolding Reached
none_read bytes reader config is start source = record { config = config; source_is = is; left = strip_bom bytes; source = source; reached = (rw start refl, refl) }

module _ (bytes : List ℕ) (reader after : Reader (Bor (List ℕ))) (rows : List Fields) (was : HasRows bytes reader rows) (row : Fields) where
  -- if the reader gave a row, it has read the rows before and this one
  pub reached_next : ReadRecord bytes_left reader after true row
      → (left : List ℕ) × (source_of bytes_left after ≡ Some left) × Reached (key_config bytes) st.StartRecord (strip_bom bytes) (rows ++ row ∷ []) (reader_state after) left
  reached_next read = rows-more bytes_left reader after row (key_config bytes) st.StartRecord (strip_bom bytes) was.left rows was.config was.source was.reached read

  pub one_read : ReadRecord bytes_left reader after true row → IsSource after → HasRows bytes after (rows ++ row ∷ [])
  one_read read ready = let next = reached_next read in record { config = read.2 ∙ was.config; source_is = ready; left = next.0; source = next.1; reached = next.2 }

  -- if the reader gave no further row, the rows that it has read are all rows of the key
  pub all_read : ReadRecord bytes_left reader after false row → AreKeyRows bytes rows
  all_read read = (reader_state reader, was.left, was.reached, rows-end bytes_left reader after row (key_config bytes) was.left was.config was.source read)

module _ (d : Contents) (bytes : List ℕ) (old : KeyNames) where
  -- before the first row of a key no name was added and no row has a fault
  pub rows_start : (reader : Reader (Bor (List ℕ))) → reader_config reader ≡ key_config bytes → IsSource reader
      → reader_state reader ≡ st.StartRecord → source_of bytes_left reader ≡ Some (strip_bom bytes) → HasAdded d bytes old old reader 0
  rows_start reader config is start source = record { done = []; read = none_read bytes reader config is start source; counted = refl; good = none_bad d old; added = none_added d old }

  module _ (now : KeyNames) (reader after : Reader (Bor (List ℕ))) (count : ℕ) (was : HasAdded d bytes old now reader count) (row : Fields) where
    pub row_more : (new : KeyNames) → ReadRecord bytes_left reader after true row → IsSource after → row_fault d now (count + 1) row ≡ None
        → new ≡ added d now row → HasAdded d bytes old new after (count + 1)
    row_more new read ready good is = record {
      done = was.done ++ row ∷ [];
      read = one_read bytes reader after was.done was.read row read ready;
      counted = length-append was.done (row ∷ []) ∙ ap (λ n. n + 1) was.counted;
      good = next_fault d old now was.done row count None was.added was.counted was.good good;
      added = one_added d old now new was.done row was.added is;
    }

    row_bad : (fault : WhyFault) → ReadRecord bytes_left reader after true row → row_fault d now (count + 1) row ≡ Some fault → HasBadRow d old bytes fault
    row_bad fault read bad =
        let next = reached_next bytes reader after was.done was.read row read in record {
          rows = was.done ++ row ∷ [];
          are_first = (reader_state after, (next.0, next.2));
          is_first = next_fault d old now was.done row count (Some fault) was.added was.counted was.good bad;
        }

    pub bad_or_memory : (fault : WhyFault) → ReadRecord bytes_left reader after true row → IsFaultOrMemory (row_fault d now (count + 1) row) fault
        → (fault ≡ Docket docket.Memory) ⊎ HasBadRow d old bytes fault
    bad_or_memory fault read (inl memory) = inl memory
    bad_or_memory fault read (inr bad) = inr (row_bad fault read bad)

    pub rows_over : ReadRecord bytes_left reader after false row → AddsAll d bytes old now
    rows_over read = record { rows = was.done; are_all = all_read bytes reader after was.done was.read row read; faultless = was.good; added = was.added }
