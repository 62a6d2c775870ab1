-- What the code keeps while it reads a key: the number of each name's member, and whom each text
-- means.
use Rattle.std.specs.Prelude.{◌≡◌, ℕ, ◌<◌, ◌≤◌, ◌==◌, Bool, true, if◌then◌else◌, unwrap_or, Option, Some, None, List, [], bytes_eq, length, option_map, slice_index_or}
use Rattle.std.specs.Borrow.{Bor}
use Rattle.std.specs.HashMap.{HashMap, get_by}
use Rattle.docket.specs.Contents.{Contents}
use Rattle.reasons_text.specs.Keys.{first_named}
use Rattle.reasons_text.specs.Naming.{IsMeantBelow, SideNames, is_meant, label_of, member_count, text_at}
use Rattle.reasons_text.specs.declared.names.Meant.{Meant}
use Rattle.reasons_text.specs.declared.names.Meant.TheVariants.{Nobody, One, Several}
use Rattle.reasons_text.specs.declared.naming.MemberNumbers.{MemberNumbers}
use Rattle.reasons_text.specs.declared.side.Side.{Side}
use Rattle.reasons_text.specs.declared.side.Side.TheVariants.{Programmes, Residents}

-- the number that is kept for a name
abbrev pub number_in : {S : Type 0} → HashMap (Bor (List ℕ)) ℕ S → List ℕ → Option ℕ
number_in numbers name = get_by (λ own. bytes_eq name own.now) numbers

-- for each name, the first member of a side that has the name
abbrev pub AreNumbersOf : {S : Type 0} → Contents → Side → HashMap (Bor (List ℕ)) ℕ S → Type 0
AreNumbersOf d side numbers = (name : List ℕ) → number_in numbers name ≡ first_named d side name (member_count d side)

abbrev pub AreNumbers : MemberNumbers → Type 0
AreNumbers numbers = AreNumbersOf numbers.docket.now Residents numbers.residents × AreNumbersOf numbers.docket.now Programmes numbers.programmes

-- whom a text means after one more member was found that it means
abbrev pub owner_with : Meant → ℕ → Meant
owner_with Nobody n = One n
owner_with (One r) n = if r == n then One r else Several
owner_with Several n = Several

-- whom the text means, among members and rows of the side: nobody, one alone, or more than one
pub record IsOwner (d : Contents) (side : Side) (read : SideNames) (text : List ℕ) (owner : Meant) : Type 0 where
  pub named : ℕ
  pub all : (k : ℕ) → is_meant d side read text k ≡ true → k < named
  pub is : IsMeantBelow (is_meant d side read text) named owner

-- whom a text means by the code's map; a text that isn't in the map means nobody
abbrev pub owner_in : {S : Type 0} → HashMap (Bor (List ℕ)) Meant S → List ℕ → Meant
owner_in owners name = unwrap_or (get_by (λ own. bytes_eq name own.now) owners) Nobody

abbrev pub AreOwners : {S : Type 0} → Contents → Side → SideNames → HashMap (Bor (List ℕ)) Meant S → Type 0
AreOwners d side read owners = (text : List ℕ) → IsOwner d side read text (owner_in owners text)

-- the map notes this member for each text that passes a test
abbrev pub Notes : {S : Type 0} → HashMap (Bor (List ℕ)) Meant S → HashMap (Bor (List ℕ)) Meant S → (List ℕ → Bool) → ℕ → Type 0
Notes old new test n = (text : List ℕ) → owner_in new text ≡ (if test text then owner_with (owner_in old text) n else owner_in old text)

-- the member's real name with its sign, or nothing if the key has no name for the member
abbrev pub full_label : SideNames → ℕ → List ℕ
full_label read n = unwrap_or (option_map (λ name. label_of name (unwrap_or (text_at read.signs n) [])) (text_at read.names n)) []

-- the labels of all who may have names: the docket's members, and the members whom only the key has
pub record AreFull (d : Contents) (side : Side) (read : SideNames) (labels : List (List ℕ)) : Type 0 where
  pub members : member_count d side ≤ length labels
  pub rows : length read.names ≤ length labels
  pub are : (n : ℕ) → n < length labels → slice_index_or labels n [] ≡ full_label read n

-- the label of a member: the name with the sign if the name means several members, else nothing
abbrev pub label_where : Meant → List ℕ → List ℕ → List ℕ
label_where Several name sign = label_of name sign
label_where Nobody name sign = []
label_where (One r) name sign = []

-- the label of a member, from the map of whom each text means
abbrev pub label_if : (List ℕ → Meant) → Option (List ℕ) → List ℕ → List ℕ
label_if owner None sign = []
label_if owner (Some name) sign = label_where (owner name) name sign

abbrev pub label_by : {S : Type 0} → HashMap (Bor (List ℕ)) Meant S → SideNames → ℕ → List ℕ
label_by owners read n = label_if (owner_in owners) (text_at read.names n) (unwrap_or (text_at read.signs n) [])
