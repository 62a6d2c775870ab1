-- What a good receipt shows, in words.
use Rattle.std.specs.Prelude.{ℕ, ◌%◌, ◌==◌, ◌&&◌, nat_le, Bool, if◌then◌else◌, Option, Some, None, List, [], ◌∷◌, ◌++◌, bytes_eq, codes, decimal, length}
use Rattle.std.specs.List.{flat_map, range_with_len}
use Rattle.docket_names.specs.Words.{number_of}
use Rattle.receipt_check.specs.Rows.{Cells, text_at, plain_text, split_rows}
use Rattle.records.specs.Reading.{Fields, field}
use Rattle.receipt_check.specs.Receipt.{Receipt, answer, has_real_name, members, read}
use Rattle.receipt_check.specs.Named.{real_fields}
use Rattle.receipt_check.specs.declared.kind.Kind.{Kind}
use Rattle.receipt_check.specs.declared.kind.Kind.TheVariants.{Programme, Resident}

-- the end of a sentence
abbrev pub stop : List ℕ
stop = 46 ∷ 10 ∷ []

-- names after the first, each after a comma
abbrev pub more_names : Cells → List ℕ
more_names names = flat_map (λ name. codes ", " ++ name) names

-- the names on a list, with commas between them; `nobody` if there are none
abbrev pub names_text : Cells → List ℕ
names_text [] = codes "nobody"
names_text (first ∷ rest) = first ++ more_names rest

-- the ending of a rank, as in 1st, 2nd, 3rd and 4th
abbrev pub ending_of : ℕ → List ℕ
ending_of rank =
    if nat_le 11 (rank % 100) && nat_le (rank % 100) 13 then codes "th"
    else if rank % 10 == 1 then codes "st"
    else if rank % 10 == 2 then codes "nd"
    else if rank % 10 == 3 then codes "rd" else codes "th"

abbrev pub ending_if : Option ℕ → List ℕ
ending_if None = []
ending_if (Some rank) = ending_of rank

-- a rank with its ending
abbrev pub rank_text : List ℕ → List ℕ
rank_text digits = digits ++ ending_if (number_of digits)

-- the places of a full programme, and the last rank among those who have them
abbrev pub places_text : Cells → List ℕ
places_text fields =
    if bytes_eq (text_at fields 3) (codes "0") then codes ", and it has no places"
    else if bytes_eq (text_at fields 3) (codes "1")
    then codes ". Its place went to a resident it ranked higher, " ++ rank_text (text_at fields 2)
    else codes ". Its " ++ (text_at fields 3 ++ (codes " places went to residents it ranked higher, the last of them " ++ rank_text (text_at fields 2)))

-- the sentence of an answer
abbrev pub answer_text : Cells → List ℕ
answer_text fields =
    if bytes_eq (text_at fields 0) (codes "matched") then codes "you are matched there"
    else if bytes_eq (text_at fields 0) (codes "withdrawn") then codes "you or the programme is withdrawn"
    else if bytes_eq (text_at fields 0) (codes "unranked") then codes "it did not rank you"
    else if bytes_eq (text_at fields 0) (codes "better") then codes "you have a programme that you ranked higher"
    else codes "it ranked you " ++ (rank_text (text_at fields 1) ++ places_text fields)

-- the sentence of a resident's choice, from 0
abbrev pub reason_text : Receipt → ℕ → List ℕ
reason_text r k = text_at r.list k ++ (codes ": " ++ (answer_text (answer r k) ++ stop))

-- the words before a member's list
abbrev pub lists_words : Kind → List ℕ → List ℕ
lists_words Programme quota = codes ": the sealed lists have your quota of " ++ (quota ++ codes ", and your list: ")
lists_words Resident quota = codes ": the sealed lists have your list: "

-- the words of a withdrawal
abbrev pub gone_words : Bool → List ℕ
gone_words gone = if gone then codes "You are withdrawn" ++ stop else []

-- the sentences on the member and the member's sealed list
unfoldable pub told_lists : Receipt → List ℕ
told_lists r = r.name ++ (lists_words r.kind r.quota ++ (names_text r.list ++ (stop ++ gone_words r.gone)))

-- where a resident is placed
abbrev pub own_words : Option (List ℕ) → List ℕ
own_words None = codes "The sealed result has you unmatched" ++ stop
own_words (Some own) = codes "The sealed result has you matched with " ++ (own ++ stop)

-- the result of a member, by the member's side
abbrev pub told_result_of : Kind → Receipt → List ℕ
told_result_of Programme r =
    codes "The sealed result has " ++ (decimal (length r.after) ++ (codes " of your places filled: " ++ (names_text (members r) ++ stop)))
told_result_of Resident r = own_words r.own ++ flat_map (reason_text r) (range_with_len 0 (length r.list))

unfoldable pub told_result : Receipt → List ℕ
told_result r = told_result_of r.kind r

-- the result, if a root of one was published
abbrev pub told_result_if : Option (List ℕ) → Receipt → List ℕ
told_result_if None r = []
told_result_if (Some root) r = told_result r

-- the ID in brackets, or nothing if there is none
abbrev pub id_words : List ℕ → List ℕ
id_words [] = []
id_words (c ∷ rest) = codes " (" ++ ((c ∷ rest) ++ codes ")")

-- who the member with this name in the docket is, by the fields of the real name's row
abbrev pub real_words : List ℕ → Fields → List ℕ
real_words name fields = field fields 1 ++ (id_words (field fields 2) ++ (codes " is " ++ (name ++ codes " in the lists.\n")))

-- the real name, if it was sealed
unfoldable pub told_name : Receipt → List ℕ
told_name r = if has_real_name r.named then real_words r.name (real_fields r.named) else []

-- what a receipt with this content shows, in words
abbrev pub told : Option (List ℕ) → Receipt → List ℕ
told result_root r = told_name r ++ (told_lists r ++ told_result_if result_root r)

-- what the receipt with these bytes shows, in words
abbrev pub told_of : Option (List ℕ) → List ℕ → List ℕ
told_of result_root bytes = told result_root (read (split_rows (plain_text bytes)))
