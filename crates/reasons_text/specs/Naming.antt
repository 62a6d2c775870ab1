-- The names that are shown for members, and the names that a question may use.
use Rattle.std.specs.Prelude.{◌≡◌, ℕ, ◌<◌, ◌==◌, nat_lt, ◌&&◌, ◌||◌, Bool, true, false, if◌then◌else◌, Option, Some, None, List, [], ◌++◌, codes, length, map, slice_get, unwrap_or, string_bytes}
use Rattle.std.specs.Str.{bytes_eq}
use Rattle.docket.specs.Contents.{Contents}
use Rattle.docket.specs.Texts as texts
use Rattle.reasons_text.specs.declared.key.Key.{Key}
use Rattle.reasons_text.specs.declared.key.SideKey.{SideKey}
use Rattle.reasons_text.specs.declared.names.Names.{Names}
use Rattle.reasons_text.specs.declared.names.Meant.{Meant}
use Rattle.reasons_text.specs.declared.names.Meant.TheVariants.{Nobody, One, Several}
use Rattle.reasons_text.specs.declared.side.Side.{Side}
use Rattle.reasons_text.specs.declared.side.Side.TheVariants.{Programmes, Residents}

-- The names of one side in a key, for each member: the real name, the sign, and the label. The sign separates members
-- with the same name. The label is shown if the name also means another member. A missing name, sign or label is an
-- empty text.
pub record SideNames : Type 0 where
  pub names : List (List ℕ)
  pub signs : List (List ℕ)
  pub labels : List (List ℕ)

abbrev pub side_of : SideKey → SideNames
side_of key = record {
  names = map string_bytes key.names.items;
  signs = map string_bytes key.signs.items;
  labels = map string_bytes key.labels.items;
}

-- the names of both sides in a key
pub record KeyNames : Type 0 where
  pub residents : SideNames
  pub programmes : SideNames

abbrev pub both_of : Key → KeyNames
both_of key = record { residents = side_of key.residents; programmes = side_of key.programmes }

-- a docket, and the names of both sides in a key
pub record Naming : Type 0 where
  pub docket : Contents
  pub residents : SideNames
  pub programmes : SideNames

-- the names, in the form that the program keeps
abbrev pub naming_of : Names → Naming
naming_of names = record {
  docket = names.docket.now;
  residents = side_of names.key.now.residents;
  programmes = side_of names.key.now.programmes;
}

-- no real name for anyone
abbrev pub no_names : SideNames
no_names = record { names = []; signs = []; labels = [] }

-- only the docket's own names
abbrev pub own_names : Contents → Naming
own_names d = record { docket = d; residents = no_names; programmes = no_names }

abbrev pub HasNoNames : SideKey → Type 0
HasNoNames key = side_of key ≡ no_names

abbrev pub IsKeyless : Naming → Type 0
IsKeyless names = (names.residents ≡ no_names) × (names.programmes ≡ no_names)

-- the names of a side in the key; `docket_names` has those in the docket
abbrev pub names_in : Naming → Side → SideNames
names_in names Programmes = names.programmes
names_in names Residents = names.residents

abbrev pub docket_names : Contents → Side → List (List ℕ)
docket_names d Programmes = d.programmes
docket_names d Residents = d.residents

-- how many members a side has in the docket
abbrev pub member_count : Contents → Side → ℕ
member_count d Programmes = length d.instance.quotas
member_count d Residents = length d.instance.resident_lists

-- the docket's name of a member
abbrev pub docket_name : Contents → Side → ℕ → List ℕ
docket_name d Programmes n = texts.programme_name d n
docket_name d Residents n = texts.resident_name d n

-- the text, or nothing if it is empty
abbrev pub unless_empty : Option (List ℕ) → Option (List ℕ)
unless_empty None = None
unless_empty (Some text) = if length text == 0 then None else Some text

-- the text at this position; none if it is empty, or if there is no such position
unfoldable pub text_at : List (List ℕ) → ℕ → Option (List ℕ)
text_at texts place = unless_empty (slice_get texts place)

-- a name and its sign, as the office writes a label: NAME (ID)
unfoldable pub label_of : List ℕ → List ℕ → List ℕ
label_of name sign = name ++ (codes " (" ++ (sign ++ codes ")"))

-- the name that is shown for a member: the label if the name also means another member, else the real name, else the
-- docket's name
unfoldable pub shown : Naming → Side → ℕ → List ℕ
shown names side n =
    unwrap_or (text_at (names_in names side).labels n) (unwrap_or (text_at (names_in names side).names n) (docket_name names.docket side n))

abbrev pub shown_resident : Naming → ℕ → List ℕ
shown_resident names r = shown names Residents r

abbrev pub shown_programme : Naming → ℕ → List ℕ
shown_programme names p = shown names Programmes p

-- whether the text is the member's name in the key, its sign, or its label
unfoldable pub is_by_key : Option (List ℕ) → Option (List ℕ) → List ℕ → Bool
is_by_key None sign text = false
is_by_key (Some name) sign text = bytes_eq name text || (bytes_eq (unwrap_or sign []) text || bytes_eq (label_of name (unwrap_or sign [])) text)

-- whether the text is the docket's name of this member of the side
abbrev pub is_own : Contents → Side → ℕ → List ℕ → Bool
is_own d side n text = nat_lt n (member_count d side) && bytes_eq (docket_name d side n) text

-- whether the text means this member of the side, by the docket and a key's names: it is the docket's name, the real
-- name, the ID, or the real name with the ID
unfoldable pub is_meant : Contents → Side → SideNames → List ℕ → ℕ → Bool
is_meant d side key text n = is_own d side n text || is_by_key (text_at key.names n) (text_at key.signs n) text

abbrev pub means : Naming → Side → List ℕ → ℕ → Bool
means names side text n = is_meant names.docket side (names_in names side) text n

-- for which numbers below n the test is true: for none, for one number alone, or for several
abbrev pub IsMeantBelow : (ℕ → Bool) → ℕ → Meant → Type 0
IsMeantBelow test n Nobody = (k : ℕ) → k < n → test k ≡ false
IsMeantBelow test n (One r) = (r < n) × ((test r ≡ true) × ((k : ℕ) → k < n → test k ≡ true → k ≡ r))
IsMeantBelow test n Several = (a : ℕ) × ((b : ℕ) × ((a < b) × ((b < n) × ((test a ≡ true) × (test b ≡ true)))))

-- whom a text means, if it also means this member
abbrev pub also_of : Meant → ℕ → Meant
also_of Nobody n = One n
also_of (One r) n = Several
also_of Several n = Several

-- whom the text means among the docket's members and the key's other members
pub record IsMeant (names : Naming) (side : Side) (text : List ℕ) (meant : Meant) : Type 0 where
  pub named : ℕ
  pub all : (k : ℕ) → means names side text k ≡ true → k < named
  pub is : IsMeantBelow (means names side text) named meant

-- the text means a member of the docket, and nobody else
pub record MeansAlone (names : Naming) (side : Side) (text : List ℕ) (n : ℕ) : Type 0 where
  pub member : n < member_count names.docket side
  pub is_meant : means names side text n ≡ true
  pub alone : (k : ℕ) → means names side text k ≡ true → k ≡ n

-- the text means two members
pub record MeansTwo (names : Naming) (side : Side) (text : List ℕ) : Type 0 where
  pub one : ℕ
  pub other : ℕ
  pub apart : one < other
  pub first : means names side text one ≡ true
  pub second : means names side text other ≡ true

-- the text means no member of the docket
abbrev pub MeansNoMember : Naming → Side → List ℕ → Type 0
MeansNoMember names side text = (k : ℕ) → k < member_count names.docket side → means names side text k ≡ false
