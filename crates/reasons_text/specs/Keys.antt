-- Which names the bytes of a key give, and to which members.
use Rattle.std.specs.Prelude.{◌≡◌, ◌≢◌, ℕ, zero, suc, ◌+◌, ◌==◌, ◌&&◌, ◌||◌, not, is_none, Bool, true, false, if◌then◌else◌, Option, Some, None, unwrap_or, List, [], ◌∷◌, ◌++◌, bytes_eq, codes, length, slice_get, slice_set, replicate}
use Rattle.std.specs.Option.{option_or}
use Rattle.std.specs.Str.{is_utf8}
use Rattle.csv.specs.Reading.{AreRecords, Reached, default_config, strip_bom}
use Rattle.csv.specs.declared.parser.Config.{Config}
use Rattle.csv.specs.declared.parser.State.{State}
use Rattle.csv.specs.declared.parser.State.TheVariants as st
use Rattle.docket.specs.Contents.{Contents}
use Rattle.records.specs.Reading.{Fields, field}
use Rattle.reasons_text.specs.Delimiter.{delimiter_of}
use Rattle.reasons_text.specs.Naming.{IsKeyless, KeyNames, Naming, SideNames, docket_name, is_meant, label_of, member_count, text_at}
use Rattle.reasons_text.specs.Shown.{shown_text}
use Rattle.reasons_text.specs.declared.fault.WhyFault.{WhyFault}
use Rattle.reasons_text.specs.declared.fault.WhyFault.TheVariants.{BadKey, DoubledKey}
use Rattle.reasons_text.specs.declared.side.Side.{Side}
use Rattle.reasons_text.specs.declared.side.Side.TheVariants.{Programmes, Residents}

-- how a key's rows are read: as `csv` does by default, but with the key's own mark between fields; `AreKeyRows`
-- says that these are all rows of these bytes
abbrev pub key_config : List ℕ → Config
key_config bytes = record default_config { delimiter = delimiter_of bytes }

abbrev pub AreKeyRows : List ℕ → List Fields → Type 0
AreKeyRows bytes rows = AreRecords (key_config bytes) st.StartRecord (strip_bom bytes) rows

-- these rows are the first ones of a key with these bytes
abbrev pub AreFirstRows : List ℕ → List Fields → Type 0
AreFirstRows bytes rows = (s : State) × ((rest : List ℕ) × Reached (key_config bytes) st.StartRecord (strip_bom bytes) rows s rest)

-- the side of a row, from its first field
abbrev pub row_side : Fields → Option Side
row_side row = if bytes_eq (field row 0) (codes "P") then Some Programmes else if bytes_eq (field row 0) (codes "R") then Some Residents else None

-- whether the first n fields of a row are all empty
unfoldable pub is_blank_below : Fields → ℕ → Bool
is_blank_below row zero = true
is_blank_below row (suc n) = is_blank_below row n && length (field row n) == 0

-- whether all fields of a row are empty
abbrev pub is_blank : Fields → Bool
is_blank row = is_blank_below row (length row)

-- the sign that tells a row's member from others of the same name: the ID, or without an ID the
-- docket's name
abbrev pub sign_in : Fields → List ℕ
sign_in row = if length (field row 3) == 0 then field row 1 else field row 3

-- among the first n members of a side, the first who has this name in the docket
unfoldable pub first_named : Contents → Side → List ℕ → ℕ → Option ℕ
first_named d side name zero = None
first_named d side name (suc n) = option_or (first_named d side name n) (if bytes_eq name (docket_name d side n) then Some n else None)

-- the member of a row, if the docket has this member
abbrev pub member_of : Contents → Side → Fields → Option ℕ
member_of d side row = first_named d side (field row 1) (member_count d side)

-- The names of a side after this name and this sign were added: at the member's place, or after all members if the
-- docket does not have the member.
abbrev pub noted : SideNames → Option ℕ → List ℕ → List ℕ → SideNames
noted side None name sign = record side { names = side.names ++ name ∷ []; signs = side.signs ++ sign ∷ [] }
noted side (Some n) name sign = record side { names = slice_set side.names n name; signs = slice_set side.signs n sign }

-- whether no earlier row of the key has the member
abbrev pub is_free : SideNames → Option ℕ → Bool
is_free side None = true
is_free side (Some n) = is_none (text_at side.names n)

-- the names of a side, as they are shown, with the names of one more row
abbrev pub with_row : Contents → Side → Fields → SideNames → SideNames
with_row d side row names = noted names (member_of d side row) (shown_text (field row 2)) (shown_text (sign_in row))

-- why a row of a side at this place gives no name: a field is empty or no text, or its member already has a row
unfoldable pub side_fault : Contents → Side → SideNames → ℕ → Fields → Option WhyFault
side_fault d side names place row =
    if length (field row 1) == 0 || length (field row 2) == 0 then Some (BadKey place)
    else if not (is_free names (member_of d side row)) then Some (DoubledKey place)
    else if not (is_utf8 (field row 2) && is_utf8 (sign_in row)) then Some (BadKey place)
    else None

-- the fault of a key's next row after rows that gave these names; a row of no side has a fault
-- unless it is blank
abbrev pub fault_by_side : Contents → KeyNames → ℕ → Fields → Option Side → Option WhyFault
fault_by_side d key place row None = if is_blank row then None else Some (BadKey place)
fault_by_side d key place row (Some Programmes) = side_fault d Programmes key.programmes place row
fault_by_side d key place row (Some Residents) = side_fault d Residents key.residents place row

abbrev pub row_fault : Contents → KeyNames → ℕ → Fields → Option WhyFault
row_fault d key place row = fault_by_side d key place row (row_side row)

-- the names after those of one more row were added; a row of no side adds no name
abbrev pub added_by_side : Contents → KeyNames → Fields → Option Side → KeyNames
added_by_side d key row None = key
added_by_side d key row (Some Programmes) = record key { programmes = with_row d Programmes row key.programmes }
added_by_side d key row (Some Residents) = record key { residents = with_row d Residents row key.residents }

abbrev pub added : Contents → KeyNames → Fields → KeyNames
added d key row = added_by_side d key row (row_side row)

-- the names after those of all these rows were added, one row after another
unfoldable pub all_added : Contents → KeyNames → List Fields → KeyNames
all_added d key [] = key
all_added d key (row ∷ rest) = all_added d (added d key row) rest

-- the first fault of these rows, if the key has `before` rows before them
unfoldable pub fault_from : Contents → KeyNames → ℕ → List Fields → Option WhyFault
fault_from d key before [] = None
fault_from d key before (row ∷ rest) = option_or (row_fault d key (before + 1) row) (fault_from d (added d key row) (before + 1) rest)

-- the names of a side before any row of a key: no member has a name yet
abbrev pub unnamed_side : ℕ → SideNames
unnamed_side count = record { names = replicate count []; signs = replicate count []; labels = [] }

abbrev pub unnamed : Contents → KeyNames
unnamed d = record { residents = unnamed_side (member_count d Residents); programmes = unnamed_side (member_count d Programmes) }

-- the text also means another member of the side; members whom only the key has count too
abbrev pub IsShared : Contents → Side → SideNames → List ℕ → ℕ → Type 0
IsShared d side read text n = (k : ℕ) × ((k ≢ n) × (is_meant d side read text k ≡ true))

-- The label of a member: the real name with the sign if the real name alone means another member too, else nothing. A
-- member without a name in the key has no label.
pub record IsLabel (d : Contents) (side : Side) (read : SideNames) (n : ℕ) (label : List ℕ) : Type 0 where
  pub shared : (name : List ℕ) → text_at read.names n ≡ Some name → IsShared d side read name n → label ≡ label_of name (unwrap_or (text_at read.signs n) [])
  pub alone : (name : List ℕ) → text_at read.names n ≡ Some name → (IsShared d side read name n → ⊥) → label ≡ []
  pub nameless : text_at read.names n ≡ None → label ≡ []

-- each of the first `count` members of a side has its label
pub record AreLabelsBelow (d : Contents) (side : Side) (read : SideNames) (count : ℕ) (labels : List (List ℕ)) : Type 0 where
  pub each : length labels ≡ count
  pub label : (n : ℕ) (label : List ℕ) → slice_get labels n ≡ Some label → IsLabel d side read n label

-- all members have their labels, in the docket's order
abbrev pub AreLabels : Contents → Side → SideNames → List (List ℕ) → Type 0
AreLabels d side read labels = AreLabelsBelow d side read (member_count d side) labels

-- the names and the signs that were read, together with their labels
pub record IsLabelled (d : Contents) (side : Side) (read final : SideNames) : Type 0 where
  pub names : final.names ≡ read.names
  pub signs : final.signs ≡ read.signs
  pub labels : AreLabels d side read final.labels

-- all rows of a key's bytes were added to these names, and no row has a fault
pub record AddsAll (d : Contents) (bytes : List ℕ) (old new : KeyNames) : Type 0 where
  pub rows : List Fields
  pub are_all : AreKeyRows bytes rows
  pub faultless : fault_from d old 0 rows ≡ None
  pub added : new ≡ all_added d old rows

-- the fault is that of the key's first bad row
pub record HasBadRow (d : Contents) (old : KeyNames) (bytes : List ℕ) (fault : WhyFault) : Type 0 where
  pub rows : List Fields
  pub are_first : AreFirstRows bytes rows
  pub is_first : fault_from d old 0 rows ≡ Some fault

-- the names that a key's bytes give: the names of all rows, and the labels
pub record IsKeyOf (d : Contents) (bytes : List ℕ) (key : KeyNames) : Type 0 where
  pub read : KeyNames
  pub all : AddsAll d bytes (unnamed d) read
  pub residents : IsLabelled d Residents read.residents key.residents
  pub programmes : IsLabelled d Programmes read.programmes key.programmes

-- the names are those of this docket and this key; without a key they are the docket's own
pub record AreNames (d : Contents) (key : Option (List ℕ)) (names : Naming) : Type 0 where
  pub docket : names.docket ≡ d
  pub keyless : key ≡ None → IsKeyless names
  pub keyed : (bytes : List ℕ) → key ≡ Some bytes → IsKeyOf d bytes (record { residents = names.residents; programmes = names.programmes })
