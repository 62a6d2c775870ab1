-- What the store keeps of the record that the second pass tests next.
use Rattle.std.specs.Prelude.{◌≡◌, ◌<◌, ◌+◌, ℕ, Bool, true, List, [], length, take, drop, is_some, nat_eq, position, slice_index_or, unwrap_or}
use Rattle.std.specs.List.{list_all}
use Rattle.match_model.specs.Draft.{Draft}
use Rattle.docket.specs.Contents.{programmes_of, residents_of}
use Rattle.docket.specs.Fields.{kind_of, withdrawal_kind}
use Rattle.records.specs.Reading.{Fields, field}
use Rattle.docket.specs.Known.{AreKnown}
use Rattle.docket.specs.Lists.{KeptEntry, IsWithin}
use Rattle.docket.specs.Ranking.{IsRanked}
use Rattle.docket.specs.Rows.{row_at, side_text}
use Rattle.docket_names.specs.Texts.{is_declared, texts_at}
use Rattle.docket.specs.declared.store.lists.ListKind.{ListKind}
use Rattle.docket.specs.declared.store.lists.ListKind.TheVariants.{Ranking, Withdrawal}
use Rattle.docket.specs.declared.vocabulary.Side.TheVariants.{Programmes, Residents}
use Rattle.docket.specs.declared.vocabulary.TheConstants.{PROGRAMME_LIST, RESIDENT_LIST}

-- whether the text with this number is the name of a member of the side; `member_at` is this member
abbrev pub is_member : List ℕ → ℕ → Bool
is_member members text = is_some (position (nat_eq text) members)

abbrev pub member_at : List ℕ → ℕ → ℕ
member_at members text = unwrap_or (position (nat_eq text) members) 0

-- The kept names can stand for the record's list: some kept name is unknown exactly if some listed name is.
-- If none is unknown, the kept names are the whole list.
pub record ShowList (others : List (List ℕ)) (row : Fields) (listed : List (List ℕ)) : Type 0 where
  pub same : list_all (is_declared others) listed ≡ list_all (is_declared others) (drop 2 row)
  pub whole : list_all (is_declared others) listed ≡ true → listed ≡ drop 2 row

-- the entry has this record's kind and owner, and the second pass can test the entry's names in place
-- of the record's list
abbrev pub ShowsRow : List Fields → Fields → ListKind → List ℕ → List (List ℕ) → Type 0
ShowsRow rows row (Ranking Programmes) owner listed =
    (kind_of row ≡ PROGRAMME_LIST) × (owner ≡ field row 1) × (is_declared (programmes_of rows) owner ≡ true → ShowList (residents_of rows) row listed)
ShowsRow rows row (Ranking Residents) owner listed =
    (kind_of row ≡ RESIDENT_LIST) × (owner ≡ field row 1) × ShowList (programmes_of rows) row listed
ShowsRow rows row (Withdrawal side) owner listed =
    (kind_of row ≡ withdrawal_kind) × (field row 1 ≡ side_text side) × (owner ≡ field row 2) × (listed ≡ [])

-- The entry is that of record k + 1, and the second pass can test the entry in place of the record. The
-- builder has the lists and withdrawals of the first k records.
pub record IsNext (texts : Fields) (programmes residents : List ℕ) (builder : Draft) (rows : List Fields) (k : ℕ) (entry : KeptEntry) : Type 0 where
  pub known : AreKnown texts programmes residents rows
  pub within : IsWithin texts entry
  pub there : k < length rows
  pub record_no : entry.record_no ≡ k + 1
  pub ranked : IsRanked builder rows (take k rows)
  pub shown : ShowsRow rows (row_at rows k) entry.kind (slice_index_or texts entry.owner []) (texts_at texts entry.listed)
