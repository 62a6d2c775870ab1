-- The tests of a receipt's content, in the order in which they are made. Each has the row that is named if the test
-- fails.
use Rattle.std.specs.Prelude.{ℕ, zero, suc, ◌+◌, ◌==◌, ◌&&◌, ◌||◌, nat_lt, nat_le, not, Bool, true, false, if◌then◌else◌, Option, Some, None, is_some, List, [], ◌∷◌, option_map, bytes_eq, codes, decimal, length, take, Result, Ok, Err}
use Rattle.std.specs.List.{list_all}
use Rattle.hex.specs.Hex.{decode_sized}
use Rattle.hex.specs.declared.error.FromHexError.{FromHexError}
use Rattle.seal.specs.Hashes.{leaf_hash}
use Rattle.seal.specs.Tree.{opened}
use Rattle.docket_names.specs.Words.{is_name, number_of}
use Rattle.docket_names.specs.Texts.{is_declared, number_in}
use Rattle.receipt_check.specs.Rows.{Cells, text_at, plain_text, split_rows}
use Rattle.receipt_check.specs.Receipt.{Receipt, answer, end_of, has_real_name, is_programme, list_place, lists_text, members, named_place, read, result_text}
use Rattle.receipt_check.specs.Named.{is_real}
use Rattle.receipt_check.specs.Shape.{at, shape_fault}
use Rattle.receipt_check.specs.declared.kind.Kind.{Kind}
use Rattle.receipt_check.specs.declared.kind.Kind.TheVariants.{Programme, Resident}
use Rattle.receipt_check.specs.declared.reasons.ChoicePlace.{ChoicePlace}
use Rattle.receipt_check.specs.declared.reasons.ChoicePlace.TheVariants.{BeforeOwn, Own, AfterOwn}
use Rattle.receipt_check.specs.declared.wrong.Wrong.{Wrong}
use Rattle.receipt_check.specs.declared.wrong.Wrong.TheVariants as wrong
use Rattle.receipt_check.specs.declared.wrong.Fault.{Fault}

-- the first fault, or else the second; none if both are none
abbrev pub first_of : {X : Type 0} → Option X → Option X → Option X
first_of (Some fault) other = Some fault
first_of None other = other

-- the first value of f that isn't none, at the numbers below this one
abbrev pub first_in : {X : Type 0} → (ℕ → Option X) → ℕ → Option X
first_in fault zero = None
first_in fault (suc n) = first_of (first_in fault n) (fault n)

-- Numbers and digests.

-- the number if the digits are its decimal digits, without a needless zero in front; else none
abbrev pub if_written : List ℕ → Option ℕ → Option ℕ
if_written digits None = None
if_written digits (Some n) = if bytes_eq digits (decimal n) then Some n else None

-- the number that these 1 to 9 digits write; none for any other text, and for one with a needless zero in front
unfoldable pub plain_number : List ℕ → Option ℕ
plain_number digits = if_written digits (number_of digits)

-- whether the byte comes before the capital letters in ASCII, or after all of them
abbrev pub is_small : ℕ → Bool
is_small c = nat_le c 57 || nat_le 97 c

abbrev pub if_ok : Result (List ℕ) FromHexError → Option (List ℕ)
if_ok (Ok digest) = Some digest
if_ok (Err fault) = None

-- the 32 bytes that 64 hexadecimal digits without capital letters write; none for any other text
unfoldable pub digest_of : List ℕ → Option (List ℕ)
digest_of digits = if list_all is_small digits then if_ok (decode_sized digits 32) else None

abbrev pub cons_if : Option (List ℕ) → Option (List (List ℕ)) → Option (List (List ℕ))
cons_if None digests = None
cons_if (Some digest) digests = option_map (λ rest. digest ∷ rest) digests

-- the digests that these fields write; none if one of the fields is no digest
abbrev pub digests_of : Cells → Option (List (List ℕ))
digests_of [] = Some []
digests_of (field ∷ rest) = cons_if (digest_of field) (digests_of rest)

-- Openings.

-- whether the climb reached this root
abbrev pub is_root : List ℕ → Option (List ℕ) → Bool
is_root root None = false
is_root root (Some reached) = bytes_eq reached root

-- What is wrong with an opening: it has no salt, a field is no digest, or the leaf with this text doesn't open the
-- root by the salt and the path.
abbrev pub digests_wrong : List ℕ → ℕ → ℕ → List ℕ → Option (List (List ℕ)) → Option Wrong
digests_wrong root count index text None = Some wrong.OpeningRow
digests_wrong root count index text (Some []) = Some wrong.OpeningRow
digests_wrong root count index text (Some (salt ∷ path)) =
    if is_root root (opened index count (leaf_hash (record { salt = salt; text = text })) path) then None else Some wrong.Opening

-- why the leaf with this text does not open this root with the salt and the path in these fields
unfoldable pub opening_wrong : List ℕ → ℕ → ℕ → Cells → List ℕ → Option Wrong
opening_wrong root count index fields text = digests_wrong root count index text (digests_of fields)

abbrev pub fault_at : ℕ → Option Wrong → Option Fault
fault_at k w = option_map (at k) w

-- the fault of the opening under the result's root, if such a root was published
abbrev pub second_fault : Option (List ℕ) → ℕ → ℕ → Receipt → Option Fault
second_fault None count index r = None
second_fault (Some root) count index r =
    fault_at (end_of r + 1) (opening_wrong root count index r.second (result_text r))

abbrev pub openings_at : List ℕ → Option (List ℕ) → Receipt → Option ℕ → Option ℕ → Option Fault
openings_at lists_root result_root r None index = Some (at 1 wrong.RootRow)
openings_at lists_root result_root r (Some count) None = Some (at 2 wrong.OpeningRow)
openings_at lists_root result_root r (Some count) (Some index) =
    first_of (fault_at 2 (opening_wrong lists_root count index r.opening (lists_text r))) (second_fault result_root count index r)

-- The first fault of the openings. Both have the same member's number and number of members, and each has to lead to
-- its published root.
unfoldable pub openings_fault : List ℕ → Option (List ℕ) → Receipt → Option Fault
openings_fault lists_root result_root r = openings_at lists_root result_root r (plain_number r.count) (plain_number r.index)

-- Names.

-- whether the name stands on the list; true without a list
abbrev pub is_on : Option Cells → List ℕ → Bool
is_on None name = true
is_on (Some list) name = is_declared list name

-- what is wrong with a name: it is no name, it isn't on the list, or it is among the names `before` it
abbrev pub name_wrong : Option Cells → Cells → List ℕ → Option Wrong
name_wrong on before name =
    if not (is_name name) then Some wrong.Name
    else if not (is_on on name) then Some wrong.NotListed
    else if is_declared before name then Some wrong.Twice
    else None

-- what is wrong at this place, with the place; none if nothing is wrong
abbrev pub found_at : ℕ → Option Wrong → Option (ℕ × Wrong)
found_at k w = option_map (λ w. (k, w)) w

abbrev pub name_at : Option Cells → Cells → ℕ → Option (ℕ × Wrong)
name_at on names k = found_at k (name_wrong on (take k names) (text_at names k))

-- the first wrong name, by its place from 0, and what is wrong with it
unfoldable pub wrong_name : Option Cells → Cells → Option (ℕ × Wrong)
wrong_name on names = first_in (name_at on names) (length names)

-- what was found at a place, as a fault of the row that belongs to this place
abbrev pub placed : (ℕ → ℕ) → Option (ℕ × Wrong) → Option Fault
placed place found = option_map (λ f. at (place f.0) f.1) found

-- A resident's reasons.

-- whether the answer has this word, and its other three fields are empty
abbrev pub is_bare : List ℕ → Cells → Bool
is_bare word fields =
    (length fields == 4) && bytes_eq (text_at fields 0) word && (length (text_at fields 1) == 0)
    && (length (text_at fields 2) == 0) && (length (text_at fields 3) == 0)

-- Whether the places of the programme can have gone to residents whom it ranks before this one. If it has places, the
-- last of these residents ranks before this one, at a rank that is at least the number of places. If it has no places,
-- there is no last rank.
abbrev pub is_before : Option ℕ → List ℕ → Option ℕ → Option ℕ → Bool
is_before (Some rank) digits (Some last) (Some quota) = nat_le 1 quota && nat_le quota last && nat_lt last rank
is_before (Some rank) digits None (Some quota) = (length digits == 0) && (quota == 0) && nat_le 1 rank
is_before (Some rank) digits last None = false
is_before None digits last quota = false

-- whether the answer is `full`, with numbers by which the places can have gone to others
abbrev pub is_full : Cells → Bool
is_full fields =
    (length fields == 4) && bytes_eq (text_at fields 0) (codes "full")
    && is_before (plain_number (text_at fields 1)) (text_at fields 2) (plain_number (text_at fields 2))
    (plain_number (text_at fields 3))

-- whether a programme before the resident's own can have this answer: `withdrawn`, `unranked` or `full`
abbrev pub is_passed : Cells → Bool
is_passed fields = is_bare (codes "withdrawn") fields || is_bare (codes "unranked") fields || is_full fields

-- whether a programme after the resident's own can have this answer: `better`, `unranked` or `withdrawn`
abbrev pub is_later : Cells → Bool
is_later fields = is_bare (codes "better") fields || is_bare (codes "unranked") fields || is_bare (codes "withdrawn") fields

-- where choice k stands: before, at or after the resident's own programme; before, if the resident has none
abbrev pub stand_of : Option ℕ → ℕ → ChoicePlace
stand_of None k = BeforeOwn
stand_of (Some own) k = if nat_lt k own then BeforeOwn else if k == own then Own else AfterOwn

-- whether a choice that stands so can have this answer; all answers to a withdrawn resident are
-- `withdrawn`
abbrev pub can_stand : Bool → ChoicePlace → Cells → Bool
can_stand true stand fields = is_bare (codes "withdrawn") fields
can_stand false BeforeOwn fields = is_passed fields
can_stand false Own fields = is_bare (codes "matched") fields
can_stand false AfterOwn fields = is_later fields

-- what is wrong with an answer that its choice can't have
abbrev pub answer_wrong : Cells → Wrong
answer_wrong fields = if bytes_eq (text_at fields 0) (codes "full") then wrong.Full else wrong.Reason

abbrev pub reason_wrong : Bool → ChoicePlace → Cells → Option Wrong
reason_wrong gone stand fields = if can_stand gone stand fields then None else Some (answer_wrong fields)

-- The whole.

-- the place in the receipt of row k of the result's text, counted from 0; row 0 says where the resident is placed, or
-- how many places are filled
abbrev pub result_place : Receipt → ℕ → ℕ
result_place r k = end_of r + 2 + k

abbrev pub reason_at : Receipt → Option ℕ → ℕ → Option (ℕ × Wrong)
reason_at r own k = found_at k (reason_wrong r.gone (stand_of own k) (answer r k))

-- the first choice of a resident whose answer is wrong, by its number from 0, and what is wrong; `own` is the choice
-- that is the resident's own programme
unfoldable pub wrong_reason : Receipt → Option ℕ → Option (ℕ × Wrong)
wrong_reason r own = first_in (reason_at r own) (length r.list)

abbrev pub reasons_fault : Receipt → Option ℕ → Option Fault
reasons_fault r own = placed (λ k. result_place r (k + 1)) (wrong_reason r own)

-- the first fault of the result of a resident with a programme, whose place on the resident's list is this one
abbrev pub own_fault : Receipt → Option ℕ → Option Fault
own_fault r place =
    if r.gone then Some (at (result_place r 0) wrong.Gone)
    else if not (is_some place) then Some (at (result_place r 0) wrong.NotListed)
    else reasons_fault r place

abbrev pub resident_fault : Receipt → Option (List ℕ) → Option Fault
resident_fault r None = reasons_fault r None
resident_fault r (Some own) = own_fault r (number_in r.list own)

-- the first fault among the residents of a programme: one doesn't stand on its list, or stands there twice
abbrev pub members_fault : Receipt → Option Fault
members_fault r = placed (λ k. result_place r (k + 1)) (wrong_name (Some r.list) (members r))

-- the first fault of the result of a programme with this quota
abbrev pub programme_fault : Receipt → Option ℕ → Option Fault
programme_fault r None = Some (at 3 wrong.Numbers)
programme_fault r (Some quota) =
    if nat_lt quota (length r.after) then Some (at (result_place r 0) wrong.Numbers)
    else if r.gone && nat_lt 0 (length r.after) then Some (at (result_place r 0) wrong.Gone)
    else members_fault r

-- the first fault of a member's result
abbrev pub result_fault_of : Kind → Receipt → Option Fault
result_fault_of Programme r = programme_fault r (plain_number r.quota)
result_fault_of Resident r = resident_fault r r.own

abbrev pub result_fault : Option (List ℕ) → Receipt → Option Fault
result_fault None r = None
result_fault (Some root) r = result_fault_of r.kind r

-- what is wrong with the row of the real name, if there is one
abbrev pub real_fault : Receipt → Option Fault
real_fault r = if has_real_name r.named && not (is_real r.named) then Some (at (named_place r.has_list r.gone) wrong.RealName) else None

-- the first fault of a member's name, quota, list and real name
abbrev pub lists_fault : Receipt → Option Fault
lists_fault r =
    if not (is_name r.name) then Some (at 0 wrong.Name)
    else if is_programme r.kind && not (is_some (plain_number r.quota)) then Some (at 3 wrong.Numbers)
    else first_of (placed (λ k. list_place r.has_list) (wrong_name None r.list)) (real_fault r)

-- the first fault of a receipt's content: of the openings, then of the lists, then of the result
unfoldable pub value_fault : List ℕ → Option (List ℕ) → Receipt → Option Fault
value_fault lists_root result_root r =
    first_of (openings_fault lists_root result_root r) (first_of (lists_fault r) (result_fault result_root r))

-- the fault of a receipt with this text: that of the first row that differs from a receipt with its content, or else
-- that of its content
unfoldable pub text_fault : List ℕ → Option (List ℕ) → List ℕ → Option Fault
text_fault lists_root result_root text =
    first_of (shape_fault lists_root result_root (read (split_rows text)) (split_rows text) text)
    (value_fault lists_root result_root (read (split_rows text)))

-- how many bytes a receipt has at most; the longest that a docket can have is shorter
abbrev pub longest : ℕ
longest = 8000000

-- the first thing that is wrong with a receipt
abbrev pub receipt_fault : List ℕ → Option (List ℕ) → List ℕ → Option Fault
receipt_fault lists_root result_root bytes =
    if nat_lt longest (length bytes) then Some (at 0 wrong.Long)
    else text_fault lists_root result_root (plain_text bytes)
