-- The members' real names and IDs, as a key gives them to be sealed.
use Rattle.std.specs.Prelude.{◌≡◌, ◌⊎◌, ℕ, ◌<◌, ◌+◌, ◌==◌, ◌||◌, ◌&&◌, nat_le, nat_lt, not, is_none, Bool, false, true, if◌then◌else◌, Option, Some, None, option_map, List, [], ◌∷◌, chars, codes, find, length, map, slice_index_or, slice_set}
use Rattle.std.specs.List.{list_any}
use Rattle.std.specs.Option.{option_or}
use Rattle.std.specs.Str.{is_utf8}
use Rattle.std.specs.Global.{Vec}
use Rattle.csv.specs.Records.{Row, fields_of}
use Rattle.docket.specs.Contents.{Contents}
use Rattle.docket.specs.declared.fault.DocketFault.TheVariants as docket
use Rattle.records.specs.Reading.{Fields, field}
use Rattle.reasons_text.specs.Keys.{AreKeyRows, added, member_of, row_fault, row_side, unnamed}
use Rattle.reasons_text.specs.Naming.{KeyNames, member_count}
use Rattle.reasons_text.specs.Shown.{is_control}
use Rattle.reasons_text.specs.declared.fault.WhyFault.TheVariants.{Docket}
use Rattle.reasons_text.specs.declared.real_names.NamesFault.{NamesFault}
use Rattle.reasons_text.specs.declared.real_names.NamesFault.TheVariants.{Key, Hidden, Long}
use Rattle.reasons_text.specs.declared.side.Side.{Side}
use Rattle.reasons_text.specs.declared.side.Side.TheVariants.{Programmes, Residents}

-- whether the character's number is from `first` to `last`
abbrev pub is_from_to : ℕ → ℕ → ℕ → Bool
is_from_to first last c = nat_le first c && nat_le c last

-- whether the character is invisible or changes the direction of text: a control character, U+061C, U+200E, U+200F,
-- U+2028 to U+202E, or U+2066 to U+2069
abbrev pub is_hidden : ℕ → Bool
is_hidden c = is_control c || c == 1564 || is_from_to 8206 8207 c || is_from_to 8232 8238 c || is_from_to 8294 8297 c

-- whether the bytes are not UTF-8, or have a hidden character
unfoldable pub is_unclear : List ℕ → Bool
is_unclear text = if is_utf8 text then list_any is_hidden (chars text) else true

-- whether a name or an ID has more than 10000 bytes
abbrev pub is_long : List ℕ → Bool
is_long text = nat_lt 10000 (length text)

-- what a row of a key says of its member: the real name, and the ID if there is one
abbrev pub real_fields : Fields → Fields
real_fields row = field row 2 ∷ (if length (field row 3) == 0 then [] else field row 3 ∷ [])

-- whether the option is member n
abbrev pub is_member : ℕ → Option ℕ → Bool
is_member n None = false
is_member n (Some m) = m == n

-- the member whom a row names, if the row is of this side and the docket has the member
abbrev pub named_of : Contents → Side → Fields → Option Side → Option ℕ
named_of d side row None = None
named_of d Programmes row (Some Programmes) = member_of d Programmes row
named_of d Programmes row (Some Residents) = None
named_of d Residents row (Some Programmes) = None
named_of d Residents row (Some Residents) = member_of d Residents row

abbrev pub named_by : Contents → Side → Fields → Option ℕ
named_by d side row = named_of d side row (row_side row)

-- whether a row of a key names member n of a side
abbrev pub names_member : Contents → Side → ℕ → Fields → Bool
names_member d side n row = is_member n (named_by d side row)

-- the real name and the ID of member n of a side, if a row of the key names the member
abbrev pub real_name : Contents → Side → List Fields → ℕ → Option Fields
real_name d side rows n = option_map real_fields (find (names_member d side n) rows)

-- for each member of both sides its real name and its ID, if it is named
pub record Real : Type 0 where
  pub programmes : List (Option Fields)
  pub residents : List (Option Fields)

-- for each member of a side the real name and the ID in the first row that names the member
pub record AreNamed (d : Contents) (side : Side) (rows : List Fields) (names : List (Option Fields)) : Type 0 where
  pub each : length names ≡ member_count d side
  pub are : (n : ℕ) → n < member_count d side → slice_index_or names n None ≡ real_name d side rows n

-- the real names that the rows give
pub record AreRealIn (d : Contents) (rows : List Fields) (real : Real) : Type 0 where
  pub programmes : AreNamed d Programmes rows real.programmes
  pub residents : AreNamed d Residents rows real.residents

-- why the name or the ID in a row can't be sealed: one of them is unclear, or too long
abbrev pub text_fault : ℕ → Fields → Option NamesFault
text_fault place row =
    if is_unclear (field row 2) || is_unclear (field row 3) then Some (Hidden place)
    else if is_long (field row 2) || is_long (field row 3) then Some (Long place)
    else None

-- the fault of a row of a key whose names are to be sealed: it is bad, or its name or its ID can't be sealed
abbrev pub real_fault : Contents → KeyNames → ℕ → Fields → Option NamesFault
real_fault d key place row = option_or (option_map Key (row_fault d key place row)) (text_fault place row)

-- the first such fault of these rows, if the key has `before` rows before them
unfoldable pub real_fault_from : Contents → KeyNames → ℕ → List Fields → Option NamesFault
real_fault_from d key before [] = None
real_fault_from d key before (row ∷ rest) = option_or (real_fault d key (before + 1) row) (real_fault_from d (added d key row) (before + 1) rest)

-- the rows of the key have no fault, and these are the real names that they give
pub record IsRealOf (d : Contents) (bytes : List ℕ) (real : Real) : Type 0 where
  pub rows : List Fields
  pub are_rows : AreKeyRows bytes rows
  pub faultless : real_fault_from d (unnamed d) 0 rows ≡ None
  pub are_real : AreRealIn d rows real

-- memory ran out
abbrev pub IsOutOfMemory : NamesFault → Type 0
IsOutOfMemory fault = fault ≡ Key (Docket docket.Memory)

-- the fault is the first one in the rows of the key
pub record IsFirstOf (d : Contents) (bytes : List ℕ) (fault : NamesFault) : Type 0 where
  pub rows : List Fields
  pub are_rows : AreKeyRows bytes rows
  pub is_first : real_fault_from d (unnamed d) 0 rows ≡ Some fault

-- why a key gives no names to seal: memory ran out, the machine had no random bytes, or the first fault of its rows
abbrev pub IsNamesFault : Contents → List ℕ → NamesFault → Type 0
IsNamesFault d bytes fault = IsOutOfMemory fault ⊎ ((fault ≡ Key (Docket (docket.Read 1))) ⊎ IsFirstOf d bytes fault)

-- no member has a real name
abbrev pub nobody_named : Real
nobody_named = record { programmes = []; residents = [] }

-- the real names that the key gives; without a key there are none
abbrev pub AreReal : Contents → Option (List ℕ) → Real → Type 0
AreReal d None real = real ≡ nobody_named
AreReal d (Some bytes) real = IsRealOf d bytes real

-- the fields of a kept name, if there is one
abbrev pub real_in : Option Row → Option Fields
real_in kept = option_map fields_of kept

-- the real names, with those of a row with these fields if the member had none before
abbrev pub with_first : List (Option Fields) → Option ℕ → Fields → List (Option Fields)
with_first names None fields = names
with_first names (Some m) fields = if is_none (slice_index_or names m None) then slice_set names m (Some fields) else names

-- the real names of both sides after one more row: its name is added only if its member had none
-- before
abbrev pub with_row : Contents → Real → Fields → Real
with_row d real row = record {
  programmes = with_first real.programmes (named_by d Programmes row) (real_fields row);
  residents = with_first real.residents (named_by d Residents row) (real_fields row);
}
