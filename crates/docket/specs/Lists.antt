-- What is kept of the rank lists and the withdrawals for the second pass.
use Rattle.std.specs.Prelude.{◌≡◌, ◌≤◌, ◌<◌, ◌-◌, ◌+◌, ◌||◌, ℕ, Bool, if◌then◌else◌, List, [], ◌∷◌, ◌++◌, length, take, drop, map, count_by, slice_index_or, unwrap_or, bytes_eq, true, ⊤, Option, option_map}
use Rattle.std.specs.Global.{Vec}
use Rattle.std.specs.List.{All, flat_map, list_all, list_any}
use Rattle.docket.specs.Fields.{is_kind, withdrawal_kind}
use Rattle.records.specs.Reading.{Fields, field}
use Rattle.docket.specs.Words.{side_of}
use Rattle.docket_names.specs.Texts.{AreNumbersOf, texts_at}
use Rattle.docket.specs.declared.store.lists.ListKind.{ListKind}
use Rattle.docket.specs.declared.store.lists.ListKind.TheVariants.{Ranking, Withdrawal}
use Rattle.docket.specs.declared.store.lists.KeptRow.{KeptRow}
use Rattle.docket.specs.declared.vocabulary.Side.{Side}
use Rattle.docket.specs.declared.vocabulary.Side.TheVariants.{Programmes, Residents}
use Rattle.docket.specs.declared.vocabulary.TheConstants.{PROGRAMME_LIST, RESIDENT_LIST, MOST_NAMES}

-- the letter with which a rank list of this side begins
abbrev pub list_letter : Side → ℕ
list_letter Programmes = PROGRAMME_LIST
list_letter Residents = RESIDENT_LIST

-- whether the record is a rank list or a withdrawal
abbrev pub is_ranking_row : Fields → Bool
is_ranking_row row = is_kind PROGRAMME_LIST row || is_kind RESIDENT_LIST row || is_kind withdrawal_kind row

-- A rank list or a withdrawal: the number of its record, its kind, the name of the list's owner or of the member
-- withdrawn, and the names on the list.
pub record ListEntry : Type 0 where
  pub record_no : ℕ
  pub kind : ListKind
  pub owner : List ℕ
  pub listed : List (List ℕ)

-- the entry of a rank list of this side in record n; `gone_entry` is that of a withdrawal
abbrev pub list_entry : ℕ → Side → Fields → ListEntry
list_entry n side row = record { record_no = n; kind = Ranking side; owner = field row 1; listed = drop 2 row }

abbrev pub gone_entry : ℕ → Side → Fields → ListEntry
gone_entry n side row = record { record_no = n; kind = Withdrawal side; owner = field row 2; listed = [] }

-- a list of the entry of record n alone; an empty list if the record is neither a rank list nor a withdrawal
unfoldable pub entry_in : ℕ → Fields → List ListEntry
entry_in n row =
    if is_kind PROGRAMME_LIST row then list_entry n Programmes row ∷ []
    else if is_kind RESIDENT_LIST row then list_entry n Residents row ∷ []
    else if is_kind withdrawal_kind row then gone_entry n (unwrap_or (side_of (field row 1)) Programmes) row ∷ []
    else []

-- the entries of records that follow n other records; `entries_of` has the entries of all records
unfoldable pub entries_from : ℕ → List Fields → List ListEntry
entries_from n [] = []
entries_from n (row ∷ rows) = entry_in (n + 1) row ++ entries_from (n + 1) rows

abbrev pub entries_of : List Fields → List ListEntry
entries_of rows = entries_from 0 rows

-- an entry whose names are kept as numbers of texts
pub record KeptEntry : Type 0 where
  pub record_no : ℕ
  pub kind : ListKind
  pub owner : ℕ
  pub listed : List ℕ

-- the entry with the texts themselves in place of their numbers
abbrev pub named : Fields → KeptEntry → ListEntry
named texts e = record { record_no = e.record_no; kind = e.kind; owner = slice_index_or texts e.owner []; listed = texts_at texts e.listed }

-- the kept entries, and how many of their names were new texts, which no earlier record had
pub record KeptLists : Type 0 where
  pub entries : List KeptEntry
  pub brought : ℕ

-- the entry of a stored row, whose names are a part of one long sequence; `ArePartsOf` says that each row's part lies
-- within the sequence
abbrev pub entry_at : List ℕ → KeptRow → KeptEntry
entry_at names row = record { record_no = row.record_no; kind = row.kind; owner = row.owner; listed = take (row.end - row.start) (drop row.start names) }

abbrev pub ArePartsOf : List ℕ → List KeptRow → Type 0
ArePartsOf names rows = All (λ row. (row.start ≤ row.end) × (row.end ≤ length names)) rows

-- each number in the entry is the number of one of these texts
abbrev pub IsWithin : Fields → KeptEntry → Type 0
IsWithin texts e = (e.owner < length texts) × AreNumbersOf texts e.listed

-- the short entry is the whole entry, or lacks some of the last names of the whole entry's list
pub record IsCutFrom (whole short : ListEntry) : Type 0 where
  pub record_no : short.record_no ≡ whole.record_no
  pub kind : short.kind ≡ whole.kind
  pub owner : short.owner ≡ whole.owner
  pub rest : List (List ℕ)
  pub listed : whole.listed ≡ short.listed ++ rest

-- the first list has the first entries of the second list; its last entry may lack some of the last names of
-- that entry's list
unfoldable pub AreFront : List ListEntry → List ListEntry → Type 0
AreFront [] all = ⊤
AreFront (e ∷ kept) [] = ⊥
AreFront (e ∷ []) (a ∷ all) = IsCutFrom a e
AreFront (e ∷ f ∷ kept) (a ∷ all) = (e ≡ a) × AreFront (f ∷ kept) all

-- whether the text is one of these texts
abbrev pub is_among : List (List ℕ) → List ℕ → Bool
is_among texts text = list_any (bytes_eq text) texts

-- all names in an entry; `names_in` has the names of all these entries together
abbrev pub entry_names : ListEntry → List (List ℕ)
entry_names e = e.owner ∷ e.listed

abbrev pub names_in : List ListEntry → List (List ℕ)
names_in entries = flat_map entry_names entries

-- The store has the entries of the lists and withdrawals in these records. It may have only the first entries
-- if these have more different names than there can be members.
pub record AreLists (texts : Fields) (lists : KeptLists) (rows : List Fields) : Type 0 where
  pub within : All (IsWithin texts) lists.entries
  pub whole : lists.brought ≤ MOST_NAMES → map (named texts) lists.entries ≡ entries_of rows
  pub front : AreFront (map (named texts) lists.entries) (entries_of rows)
  pub counted : lists.brought ≤ count_by (is_among (names_in (map (named texts) lists.entries))) texts

-- texts were added at the end of the list of texts, and each added text is one of the names in
-- `added`
pub record HaveJoined (texts more added : List (List ℕ)) : Type 0 where
  pub extra : List (List ℕ)
  pub more_are : more ≡ texts ++ extra
  pub among : list_all (is_among added) extra ≡ true

-- After a walk over these names, the numbers of their texts stand at the end of the sequence. Once there are more
-- new texts than there can be members, no further number is added.
pub record AreWalked (texts : Fields) (numbers : List ℕ) (brought : ℕ) (more : Fields) (all : List ℕ) (now : ℕ) (names : List (List ℕ)) : Type 0 where
  pub added : List ℕ
  pub rest : List (List ℕ)
  pub all_are : all ≡ numbers ++ added
  pub within : AreNumbersOf more added
  pub names_are : names ≡ texts_at more added ++ rest
  pub joined : HaveJoined texts more (texts_at more added)
  pub count : now + length texts ≡ brought + length more
  pub whole : now ≤ MOST_NAMES → rest ≡ []
  pub cut : MOST_NAMES < brought → added ≡ []

-- one more entry is kept, after all others: this entry, or this entry without some of the last names of
-- its list
pub record HasEntry (texts more : Fields) (old new : KeptLists) (entry : ListEntry) : Type 0 where
  pub kept : KeptEntry
  pub entries : new.entries ≡ old.entries ++ kept ∷ []
  pub within : IsWithin more kept
  pub short : IsCutFrom entry (named more kept)
  pub whole : new.brought ≤ MOST_NAMES → named more kept ≡ entry
  pub joined : HaveJoined texts more (entry_names (named more kept))
  pub count : new.brought + length texts ≡ old.brought + length more

-- one more entry is kept, after all others; but if the earlier records brought too many new texts, the
-- store is unchanged
pub record AddsEntry (texts more : Fields) (old new : KeptLists) (entry : ListEntry) : Type 0 where
  pub kept : old.brought ≤ MOST_NAMES → HasEntry texts more old new entry
  pub cut : MOST_NAMES < old.brought → new ≡ old

-- the items of a list, if there is one
abbrev pub items_of : Option (Vec ℕ) → Option (List ℕ)
items_of list = option_map (λ (v : Vec ℕ). v.items) list
