-- When a resident's and a programme's receipts agree, and what the program writes about the two.
use Rattle.std.specs.Prelude.{ℕ, zero, suc, ◌+◌, ◌==◌, ◌&&◌, ◌||◌, nat_lt, not, Bool, true, false, if◌then◌else◌, Option, Some, None, is_some, option_map, List, [], ◌∷◌, ◌++◌, bytes_eq, codes, decimal, length}
use Rattle.std.specs.List.{flat_map}
use Rattle.docket_names.specs.Texts.{is_declared, number_in}
use Rattle.receipt_check.specs.Rows.{Cells, text_at, plain_text, split_rows}
use Rattle.receipt_check.specs.Receipt.{Receipt, answer, end_of, members, read}
use Rattle.receipt_check.specs.Faults.{first_of, longest, plain_number, receipt_fault}
use Rattle.receipt_check.specs.Shape.{at}
use Rattle.receipt_check.specs.Told.{rank_text, stop}
use Rattle.receipt_check.specs.declared.difference.Difference.{Difference}
use Rattle.receipt_check.specs.declared.difference.Difference.TheVariants as differs
use Rattle.receipt_check.specs.declared.kind.Kind.{Kind}
use Rattle.receipt_check.specs.declared.kind.Kind.TheVariants.{Programme, Resident}
use Rattle.receipt_check.specs.declared.wrong.Fault.{Fault}
use Rattle.receipt_check.specs.declared.wrong.Wrong.TheVariants as wrong

-- Which receipts are compared.

-- the content of the receipt with these bytes
abbrev pub content_of : List ℕ → Receipt
content_of bytes = read (split_rows (plain_text bytes))

-- the text of a receipt's file as it was printed; an empty text if the file is longer than any
-- receipt
abbrev pub short_text : List ℕ → List ℕ
short_text bytes = if nat_lt longest (length bytes) then [] else plain_text bytes

-- whether the option is this number
abbrev pub is_number : Option ℕ → ℕ → Bool
is_number None n = false
is_number (Some m) n = m == n

-- the fault of a receipt whose member has to be of the first side and is of the second
abbrev pub kind_fault : Kind → Kind → Option Fault
kind_fault Programme Programme = None
kind_fault Programme Resident = Some (at 0 wrong.NotProgramme)
kind_fault Resident Resident = None
kind_fault Resident Programme = Some (at 0 wrong.NotResident)

-- the fault of a receipt whose number of members isn't the number published with the root of the lists, or of the
-- result
abbrev pub members_fault : ℕ → ℕ → Receipt → Option Fault
members_fault lists_count result_count r =
    if not (is_number (plain_number r.count) lists_count) then Some (at 1 wrong.Members)
    else if not (is_number (plain_number r.count) result_count) then Some (at (end_of r) wrong.Members)
    else None

-- the fault of a receipt that is to be compared: it isn't good under the published roots, or its number of members
-- isn't the published number
unfoldable pub compared_fault : ℕ → List ℕ → ℕ → List ℕ → List ℕ → Option Fault
compared_fault lists_count lists_root result_count result_root bytes =
    first_of (receipt_fault lists_root (Some result_root) bytes) (members_fault lists_count result_count (content_of bytes))

-- the fault of a receipt that is to be compared and whose member has to be of this side
abbrev pub side_fault : Kind → ℕ → List ℕ → ℕ → List ℕ → List ℕ → Option Fault
side_fault kind lists_count lists_root result_count result_root bytes =
    first_of (compared_fault lists_count lists_root result_count result_root bytes) (kind_fault kind (content_of bytes).kind)

-- the fault of the file with this number
abbrev pub in_file : ℕ → Option Fault → Option (ℕ × Fault)
in_file k fault = option_map (λ fault. (k, fault)) fault

-- What a programme's receipt tells of its residents.

-- the later of two places on a list, or the only place if one of the two is none
abbrev pub later : Option ℕ → Option ℕ → Option ℕ
later None q = q
later (Some p) None = Some p
later (Some p) (Some q) = if nat_lt p q then Some q else Some p

-- the last place on the list that one of the first n names has
unfoldable pub last_within : Cells → Cells → ℕ → Option ℕ
last_within list names zero = None
last_within list names (suc n) = later (last_within list names n) (number_in list (text_at names n))

-- the last place on a programme's list that one of its residents has
abbrev pub last_place : Receipt → Option ℕ
last_place p = last_within p.list (members p) (length (members p))

-- Where the two differ.

-- whether the answer is this word
abbrev pub says : Cells → List ℕ → Bool
says fields word = bytes_eq (text_at fields 0) word

-- whether exactly one of the two is true
abbrev pub is_other : Bool → Bool → Bool
is_other true b = not b
is_other false b = b

-- whether the digits write this place, counted from 1; without a place there may be no digits
abbrev pub is_place : List ℕ → Option ℕ → Bool
is_place digits None = length digits == 0
is_place digits (Some k) = is_number (plain_number digits) (k + 1)

-- whether the resident or the programme is withdrawn
abbrev pub is_gone : Receipt → Receipt → Bool
is_gone r p = r.gone || p.gone

-- whether the programme has the resident
abbrev pub has : Receipt → Receipt → Bool
has p r = is_declared (members p) r.name

-- the first difference between the answer `full` and the programme's receipt: in the resident's rank, the quota, the
-- filled places, or the last resident's rank
abbrev pub full_difference : Cells → Option ℕ → Receipt → Option Difference
full_difference fields rank p =
    if not (is_place (text_at fields 1) rank) then Some differs.Rank
    else if not (bytes_eq (text_at fields 3) p.quota) then Some differs.Quota
    else if not (is_number (plain_number p.quota) (length p.after)) then Some differs.Filled
    else if not (is_place (text_at fields 2) (last_place p)) then Some differs.Last
    else None

-- the first difference between a resident's answer and the receipt of the programme, which lists the resident at this
-- place
abbrev pub answer_difference : Cells → Option ℕ → Receipt → Receipt → Option Difference
answer_difference fields rank r p =
    if is_other (says fields (codes "withdrawn")) (is_gone r p) then Some differs.Withdrawn
    else if not (is_gone r p) && is_other (says fields (codes "unranked")) (not (is_some rank)) then Some differs.Unranked
    else if is_other (says fields (codes "matched")) (has p r) then Some differs.Matched
    else if says fields (codes "full") then full_difference fields rank p
    else None

-- the first difference between the receipts of a resident and a programme that stands at this place
-- of the resident's list
abbrev pub difference_at : Receipt → Receipt → Option ℕ → Option Difference
difference_at r p None = if has p r then Some differs.Unlisted else None
difference_at r p (Some k) = answer_difference (answer r k) (number_in p.list r.name) r p

-- the first thing in which the receipts of a resident and a programme differ; they agree if there is none
unfoldable pub difference : Receipt → Receipt → Option Difference
difference r p = difference_at r p (number_in r.list p.name)

-- What is said of the two.

-- pieces of a text, one after another
abbrev pub joined : Cells → List ℕ
joined pieces = flat_map (λ piece. piece) pieces

-- a place on a list as a rank, from 1
abbrev pub place_text : Option ℕ → List ℕ
place_text None = []
place_text (Some k) = rank_text (decimal (k + 1))

-- the words on who is withdrawn: the resident, or else the programme
abbrev pub gone_text : Receipt → Receipt → List ℕ
gone_text r p = if r.gone then joined (r.name ∷ codes " is withdrawn" ∷ []) else joined (p.name ∷ codes " is withdrawn" ∷ [])

-- the words on the places of a full programme, all of which went to residents before this one
abbrev pub full_text : Cells → List ℕ
full_text fields =
    if bytes_eq (text_at fields 3) (codes "0") then codes ", and it has no places"
    else if bytes_eq (text_at fields 3) (codes "1")
    then codes ", and its place went to the resident whom it lists " ++ rank_text (text_at fields 2)
    else codes ", and all its " ++ (text_at fields 3 ++ (codes " places went to residents whom it lists before, the last of them " ++ rank_text (text_at fields 2)))

-- what both receipts say, in words, from the resident's answer about the programme
abbrev pub answer_agreed : Cells → Receipt → Receipt → List ℕ
answer_agreed fields r p =
    if says fields (codes "withdrawn") then gone_text r p
    else if says fields (codes "unranked") then joined (p.name ∷ codes " does not list " ∷ r.name ∷ [])
    else if says fields (codes "matched") then joined (r.name ∷ codes " is matched with " ∷ p.name ∷ [])
    else if says fields (codes "better") then joined (r.name ∷ codes " is matched with a programme that it lists before " ∷ p.name ∷ [])
    else joined (p.name ∷ codes " lists " ∷ r.name ∷ codes " " ∷ []) ++ (rank_text (text_at fields 1) ++ full_text fields)

abbrev pub agreed_at : Receipt → Receipt → Option ℕ → List ℕ
agreed_at r p None = joined (r.name ∷ codes " does not list " ∷ p.name ∷ [])
agreed_at r p (Some k) = answer_agreed (answer r k) r p

-- the beginning of a sentence on a difference: what the resident's receipt says
abbrev pub word_pieces : Cells → Receipt → Cells
word_pieces fields r = r.name ∷ codes "'s receipt says " ∷ text_at fields 0 ∷ codes ", and " ∷ []

-- the words on two receipts that disagree about a withdrawal: the resident's answer, and who is withdrawn, or that
-- neither is
abbrev pub withdrawn_differing : Cells → Receipt → Receipt → List ℕ
withdrawn_differing fields r p =
    joined (word_pieces fields r) ++ (if is_gone r p then gone_text r p else codes "neither is withdrawn")

abbrev pub listed_text : Receipt → Receipt → List ℕ
listed_text r p = joined (p.name ∷ codes " lists " ∷ r.name ∷ codes " " ∷ []) ++ place_text (number_in p.list r.name)

abbrev pub unranked_differing : Cells → Receipt → Receipt → List ℕ
unranked_differing fields r p =
    joined (word_pieces fields r)
    ++ (if says fields (codes "unranked") then listed_text r p else joined (p.name ∷ codes " does not list " ∷ r.name ∷ []))

abbrev pub matched_differing : Cells → Receipt → Receipt → List ℕ
matched_differing fields r p =
    joined (word_pieces fields r)
    ++ (if says fields (codes "matched") then joined (p.name ∷ codes " does not have " ∷ r.name ∷ []) else joined (p.name ∷ codes " has " ∷ r.name ∷ []))

abbrev pub rank_differing : Cells → Receipt → Receipt → List ℕ
rank_differing fields r p =
    joined (r.name ∷ codes "'s receipt says that " ∷ p.name ∷ codes " lists it " ∷ [])
    ++ (rank_text (text_at fields 1) ++ (joined (codes ", and " ∷ p.name ∷ codes " lists it " ∷ []) ++ place_text (number_in p.list r.name)))

abbrev pub quota_differing : Cells → Receipt → Receipt → List ℕ
quota_differing fields r p =
    joined (r.name ∷ codes "'s receipt says that " ∷ p.name ∷ codes " has " ∷ text_at fields 3 ∷ codes " places, and " ∷ p.name ∷ codes " has " ∷ p.quota ∷ [])

abbrev pub filled_differing : Receipt → Receipt → List ℕ
filled_differing r p =
    joined (r.name ∷ codes "'s receipt says that all places of " ∷ p.name ∷ codes " went to others, and " ∷ [])
    ++ (decimal (length p.after) ++ joined (codes " of " ∷ p.quota ∷ codes " are filled" ∷ []))

abbrev pub last_differing : Cells → Receipt → Receipt → List ℕ
last_differing fields r p =
    joined (r.name ∷ codes "'s receipt says that the last of them is " ∷ [])
    ++ (rank_text (text_at fields 2) ++ (joined (codes " with " ∷ p.name ∷ codes ", and it is " ∷ []) ++ place_text (last_place p)))

abbrev pub differing : Difference → Cells → Receipt → Receipt → List ℕ
differing differs.Unlisted fields r p = joined (p.name ∷ codes " has " ∷ r.name ∷ codes ", and " ∷ r.name ∷ codes " does not list " ∷ p.name ∷ [])
differing differs.Withdrawn fields r p = withdrawn_differing fields r p
differing differs.Unranked fields r p = unranked_differing fields r p
differing differs.Matched fields r p = matched_differing fields r p
differing differs.Rank fields r p = rank_differing fields r p
differing differs.Quota fields r p = quota_differing fields r p
differing differs.Filled fields r p = filled_differing r p
differing differs.Last fields r p = last_differing fields r p

-- the resident's answer at this choice; empty without a choice
abbrev pub answer_at : Receipt → Option ℕ → Cells
answer_at r None = []
answer_at r (Some k) = answer r k

-- whether two receipts agree, and what they say
abbrev pub compared_words : Receipt → Receipt → Option ℕ → Option Difference → List ℕ
compared_words r p k None = codes " agree: " ++ agreed_at r p k
compared_words r p k (Some d) = codes " differ: " ++ differing d (answer_at r k) r p

-- the sentence on the receipts of a resident and a programme
unfoldable pub pair_words : Receipt → Receipt → List ℕ
pair_words r p = joined (r.name ∷ codes " and " ∷ p.name ∷ []) ++ (compared_words r p (number_in r.list p.name) (difference r p) ++ stop)
