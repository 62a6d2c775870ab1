-- What the program writes about the receipts of a folder.
use Rattle.std.specs.Prelude.{ℕ, ◌+◌, ◌==◌, ◌&&◌, ◌||◌, not, Bool, if◌then◌else◌, Option, Some, None, is_some, List, [], ◌∷◌, ◌++◌, codes, decimal, filter, length, map, slice_get, slice_index_or, take}
use Rattle.std.specs.List.{flat_map, list_all, list_any, range_with_len}
use Rattle.docket_names.specs.Texts.{is_declared, number_in}
use Rattle.receipt_check.specs.Rows.{Cells, text_at}
use Rattle.receipt_check.specs.Receipt.{Receipt, is_programme, members}
use Rattle.receipt_check.specs.Faults.{first_in, first_of, plain_number}
use Rattle.receipt_check.specs.Shape.{at}
use Rattle.receipt_check.specs.Pair.{compared_fault, content_of, difference, in_file, is_number, pair_words}
use Rattle.receipt_check.specs.declared.kind.Kind.{Kind}
use Rattle.receipt_check.specs.declared.kind.Kind.TheVariants.{Programme, Resident}
use Rattle.receipt_check.specs.declared.published.Published.{Published}
use Rattle.receipt_check.specs.declared.wrong.Fault.{Fault}
use Rattle.receipt_check.specs.declared.wrong.Wrong.TheVariants as wrong

-- the contents of the receipts in these files
abbrev pub contents_of : List (List ℕ) → List Receipt
contents_of files = map content_of files

-- the content of the receipt with this number, from 0
abbrev pub receipt_at : List Receipt → ℕ → Receipt
receipt_at rs k = slice_index_or rs k (content_of [])

-- Whose receipts are there.

-- whether the member is of this side
abbrev pub is_of : Kind → Receipt → Bool
is_of Programme r = is_programme r.kind
is_of Resident r = not (is_programme r.kind)

-- whether one of these receipts is of the member with this number
abbrev pub has_number : List Receipt → ℕ → Bool
has_number rs n = list_any (λ r. is_number (plain_number r.index) n) rs

abbrev pub has_number_if : List Receipt → Option ℕ → Bool
has_number_if rs None = Bool.false
has_number_if rs (Some n) = has_number rs n

-- the names of the members of a side
abbrev pub names_of : Kind → List Receipt → Cells
names_of kind rs = map (λ r. r.name) (filter (is_of kind) rs)

-- the numbers of the receipts of this side; the first of all these receipts has number k
unfoldable pub files_from : Kind → ℕ → List Receipt → List ℕ
files_from kind k [] = []
files_from kind k (r ∷ rs) = (if is_of kind r then k ∷ [] else []) ++ files_from kind (k + 1) rs

-- whether one of these receipts is of a member of this side with this name
abbrev pub has_name : List Receipt → Kind → List ℕ → Bool
has_name rs kind name = is_declared (names_of kind rs) name

-- whether one of these receipts has the same member's number, or the same side and name, as this
-- receipt
abbrev pub is_again : List Receipt → Receipt → Bool
is_again rs r = has_number_if rs (plain_number r.index) || has_name rs r.kind r.name

-- the fault of the receipt in the file with this number: its own fault, or that an earlier file has a
-- receipt of the same member
abbrev pub file_fault : Published → Published → List (List ℕ) → ℕ → Option Fault
file_fault lists outcome files k =
    first_of (compared_fault lists.members lists.root outcome.members outcome.root (slice_index_or files k []))
    (if is_again (take k (contents_of files)) (receipt_at (contents_of files) k) then Some (at 2 wrong.Again) else None)

-- the first file at fault, and the fault of its receipt
unfoldable pub folder_fault : Published → Published → List (List ℕ) → Option (ℕ × Fault)
folder_fault lists outcome files = first_in (λ k. in_file k (file_fault lists outcome files k)) (length files)

-- Which pairs are compared.

-- pairs of receipts: the number of a resident's receipt, and the number of a programme's receipt
abbrev pub Pairs : Type 0
Pairs = List (ℕ × ℕ)

abbrev pub file_in : List ℕ → Option ℕ → Option ℕ
file_in files None = None
file_in files (Some n) = slice_get files n

-- the number of the receipt of the member of this side with this name, or none
abbrev pub file_named : Kind → List Receipt → List ℕ → Option ℕ
file_named kind rs name = file_in (files_from kind 0 rs) (number_in (names_of kind rs) name)

abbrev pub with_programme : ℕ → Option ℕ → Pairs
with_programme r None = []
with_programme r (Some p) = (r, p) ∷ []

-- the pair of resident r's receipt and the receipt of r's choice k; no pair if the folder lacks the
-- programme's receipt
abbrev pub choice_pair : List Receipt → ℕ → ℕ → Pairs
choice_pair rs r k = with_programme r (file_named Programme rs (text_at (receipt_at rs r).list k))

-- the pairs of a resident's receipt with the receipts of the programmes on the resident's list
abbrev pub choice_pairs : List Receipt → ℕ → Pairs
choice_pairs rs r = flat_map (choice_pair rs r) (range_with_len 0 (length (receipt_at rs r).list))

abbrev pub with_resident : List Receipt → ℕ → Option ℕ → Pairs
with_resident rs p None = []
with_resident rs p (Some r) = if is_declared (receipt_at rs r).list (receipt_at rs p).name then [] else (r, p) ∷ []

-- the pair of programme p's receipt and the receipt of its k-th resident; no pair if the folder lacks that
-- receipt, or if it lists the programme
abbrev pub member_pair : List Receipt → ℕ → ℕ → Pairs
member_pair rs p k = with_resident rs p (file_named Resident rs (text_at (members (receipt_at rs p)) k))

-- the pairs of a programme's receipt with the receipts of its residents who don't list it
abbrev pub member_pairs : List Receipt → ℕ → Pairs
member_pairs rs p = flat_map (member_pair rs p) (range_with_len 0 (length (receipt_at rs p).after))

abbrev pub resident_pairs : List Receipt → ℕ → Pairs
resident_pairs rs k = if is_of Resident (receipt_at rs k) then choice_pairs rs k else []

abbrev pub programme_pairs : List Receipt → ℕ → Pairs
programme_pairs rs k = if is_of Programme (receipt_at rs k) then member_pairs rs k else []

-- all pairs: each resident with the programmes on its list, then each programme with those of its
-- residents who don't list it
unfoldable pub pairs_of : List Receipt → Pairs
pairs_of rs = flat_map (resident_pairs rs) (range_with_len 0 (length rs)) ++ flat_map (programme_pairs rs) (range_with_len 0 (length rs))

-- What is written.

-- whether the two receipts of the pair differ
abbrev pub differs : List Receipt → ℕ × ℕ → Bool
differs rs pair = is_some (difference (receipt_at rs pair.0) (receipt_at rs pair.1))

-- the pairs that differ
abbrev pub differing_pairs : List Receipt → Pairs
differing_pairs rs = filter (differs rs) (pairs_of rs)

-- the sentence on the two receipts of the pair
abbrev pub words_at : List Receipt → ℕ × ℕ → List ℕ
words_at rs pair = pair_words (receipt_at rs pair.0) (receipt_at rs pair.1)

-- whether the folder has a receipt of each of the `count` members
abbrev pub is_whole : ℕ → List Receipt → Bool
is_whole count rs = list_all (has_number rs) (range_with_len 0 count)

-- whether the folder has a receipt of each member, and no pair differs
abbrev pub is_stable : ℕ → List Receipt → Bool
is_stable count rs = is_whole count rs && (length (differing_pairs rs) == 0)

-- two numbers, with words between them and after them
abbrev pub two_numbers : ℕ → List ℕ → ℕ → List ℕ → List ℕ
two_numbers n words m end = decimal n ++ (words ++ (decimal m ++ end))

-- how many of all members have a receipt in the folder, how many pairs were compared, and how many
-- differ
abbrev pub counts_text : ℕ → ℕ → ℕ → ℕ → List ℕ
counts_text there count compared differing =
    two_numbers there (codes " of ") count (codes " members are there, and ")
    ++ two_numbers compared (codes " pairs were compared: ") differing (codes " differ.\n")

abbrev pub stable_text : Bool → List ℕ
stable_text stable = if stable then codes "The placement is stable.\n" else []

-- what the program writes about these receipts
abbrev pub folder_text : ℕ → List Receipt → List ℕ
folder_text count rs =
    flat_map (words_at rs) (differing_pairs rs)
    ++ (counts_text (length rs) count (length (pairs_of rs)) (length (differing_pairs rs)) ++ stable_text (is_stable count rs))
