-- The lines about a resident: a first line, and one line for each programme of the R record.
use Rattle.std.specs.Prelude.{ℕ, ◌+◌, ◌-◌, ◌^◌, ◌%◌, ◌==◌, ◌&&◌, min, nat_lt, Bool, true, false, if◌then◌else◌, Option, Some, None, List, ◌++◌, length, codes, count_by, decimal, slice_get}
use Rattle.std.specs.List.{flat_map, position_from, zip}
use Rattle.match_model.specs.Instance.{is_withdrawn}
use Rattle.match_reasons.specs.declared.reason.Why.{Why}
use Rattle.match_reasons.specs.declared.reason.Why.TheVariants.{Withdrawn, NotListed, NotRanked, Matched, PrefersOwn, Full, Blocking}
use Rattle.reasons_text.specs.Answers.{ranked_back, withdrew}
use Rattle.reasons_text.specs.Naming.{Naming, shown_programme}

-- a rank as it is shown: one more than the rank counted from 0, up to the greatest number of 64 bits
abbrev pub from_one : ℕ → ℕ
from_one rank = min (rank + 1) (2 ^ 64 - 1)

-- the letters after the number of a rank, such as `st` in 1st
unfoldable pub ending : ℕ → List ℕ
ending rank =
    if nat_lt 9 (rank % 100) && nat_lt (rank % 100) 13 then codes "th"
    else if rank % 10 == 0 then codes "st"
    else if rank % 10 == 1 then codes "nd"
    else if rank % 10 == 2 then codes "rd"
    else codes "th"

-- a rank in words: 1st, 2nd, 3rd
unfoldable pub place_text : ℕ → List ℕ
place_text rank = decimal (from_one rank) ++ ending rank

-- a count as a text; `none` for zero
unfoldable pub count_text : ℕ → List ℕ
count_text n = if n == 0 then codes "none" else decimal n

-- whether the resident withdrew
abbrev pub has_withdrawn : Naming → ℕ → Bool
has_withdrawn names r = is_withdrawn names.docket.instance.residents_withdrawn r

-- the sentence for a resident when all places went to residents ranked higher
unfoldable pub full_sentence : Bool → ℕ → Option ℕ → ℕ → List ℕ
full_sentence without_ranks rank None quota = codes "it had no places."
full_sentence true rank (Some last) quota = codes "its places went to residents it ranks above you."
full_sentence false rank (Some last) quota =
    if quota == 1
    then codes "it ranked you " ++ (place_text rank ++ (codes ". Its one place went to the resident it ranked " ++ (place_text last ++ codes ".")))
    else codes "it ranked you " ++ (place_text rank ++ (codes ". Its " ++ (decimal quota
    ++ (codes " places went to residents it ranked higher, the last of them " ++ (place_text last ++ codes ".")))))

-- the sentence when the programme or the resident withdrew
unfoldable pub withdrawn_sentence : Bool → List ℕ
withdrawn_sentence true = codes "you withdrew from the match."
withdrawn_sentence false = codes "it withdrew from the match."

-- the sentence about a programme for resident r, from this answer
unfoldable pub sentence : Naming → Bool → ℕ → Why → List ℕ
sentence names without_ranks r Withdrawn = withdrawn_sentence (has_withdrawn names r)
sentence names without_ranks r NotListed = codes "it is not on your list."
sentence names without_ranks r NotRanked = codes "it did not rank you."
sentence names without_ranks r Matched = codes "you are matched here."
sentence names without_ranks r (PrefersOwn own own_rank rank) =
    codes "this was your " ++ (place_text rank ++ (codes " choice, and you have your " ++ (place_text own_rank
    ++ (codes ", " ++ (shown_programme names own ++ codes ".")))))
sentence names without_ranks r (Full rank last_rank quota) = full_sentence without_ranks rank last_rank quota
sentence names without_ranks r Blocking =
    codes "you would rather be here, and it would rather have you. This sheet is not right: please tell the office."

-- the line for resident r about programme p: the programme's name, the sentence about it, and a
-- line feed
unfoldable pub line : Naming → Bool → ℕ → ℕ → Why → List ℕ
line names without_ranks r p reason = shown_programme names p ++ codes ": " ++ sentence names without_ranks r reason ++ codes "\n"

-- one line for each of these programmes, in order, each from the answer about its programme
abbrev pub lines : Naming → Bool → ℕ → List ℕ → List Why → List ℕ
lines names without_ranks r programmes reasons =
    flat_map (λ (told : ℕ × Why). line names without_ranks r told.0 told.1) (zip programmes reasons)

-- the sentence for a matched resident: the name of the programme, and which of the resident's
-- choices it is
unfoldable pub as_choice : List ℕ → ℕ → ℕ → List ℕ
as_choice name choice listed =
    codes "You are matched with " ++ (name ++ (codes ", your " ++ (place_text choice ++ (codes " choice of " ++ (decimal listed ++ codes ".")))))

-- How the match ended for a resident with a programme, from the answer about this programme. The sheet is wrong if the
-- programme withdrew or didn't rank the resident.
unfoldable pub given : List ℕ → ℕ → ℕ → Option Why → List ℕ
given name choice listed None = as_choice name choice listed
given name choice listed (Some Withdrawn) =
    codes "This sheet is not right: it gives you " ++ (name ++ codes ", which withdrew from the match. Please tell the office.")
given name choice listed (Some NotListed) = as_choice name choice listed
given name choice listed (Some NotRanked) =
    codes "This sheet is not right: it gives you " ++ (name ++ codes ", which did not rank you. Please tell the office.")
given name choice listed (Some Matched) = as_choice name choice listed
given name choice listed (Some (PrefersOwn own own_rank rank)) = as_choice name choice listed
given name choice listed (Some (Full rank last_rank quota)) = as_choice name choice listed
given name choice listed (Some Blocking) = as_choice name choice listed

-- How the match ended for a resident with this programme, from the answers for all choices. The programme's choice
-- number is given if the resident ranked the programme.
unfoldable pub matched : List ℕ → Option ℕ → List Why → List ℕ
matched name None reasons = codes "You are matched with " ++ (name ++ codes ", which is not on your list.")
matched name (Some choice) reasons = given name choice (length reasons) (slice_get reasons choice)

-- how the match ended for a resident that didn't withdraw
unfoldable pub outcome : Naming → Option ℕ → List ℕ → List Why → List ℕ
outcome names None programmes reasons = codes "You are not matched."
outcome names (Some own) programmes reasons = matched (shown_programme names own) (position_from (λ p. p == own) 0 programmes) reasons

-- how the match ended for resident r
unfoldable pub ended : Naming → ℕ → Option ℕ → List ℕ → List Why → List ℕ
ended names r own programmes reasons =
    if has_withdrawn names r then codes "You withdrew from the match." else outcome names own programmes reasons

-- the word for this number of programmes
unfoldable pub programmes_word : ℕ → List ℕ
programmes_word listed = if listed == 1 then codes "programme" else codes "programmes"

-- how many programmes the resident ranked, and how many of them ranked the resident or withdrew
unfoldable pub ranked : Bool → ℕ → ℕ → ℕ → List ℕ
ranked withdrawn listed back gone =
    if listed == 0 then codes " You ranked no programme.\n"
    else if withdrawn then codes " You had ranked " ++ (decimal listed ++ (codes " " ++ (programmes_word listed ++ codes ".\n")))
    else codes " You ranked " ++ (decimal listed ++ (codes " " ++ (programmes_word listed ++ (codes ": " ++ (count_text back
    ++ (codes " ranked you too, " ++ (count_text gone ++ codes " withdrew.\n")))))))

-- the first line about resident r, with r's own programme if there is one
abbrev pub first_line : Naming → ℕ → Option ℕ → List ℕ → List Why → List ℕ
first_line names r own programmes reasons =
    ended names r own programmes reasons
    ++ ranked (has_withdrawn names r) (length reasons) (count_by ranked_back reasons) (count_by withdrew reasons)

-- the first line about resident r, and a line for each of these programmes
abbrev pub text_on : Naming → Bool → ℕ → Option ℕ → List ℕ → List Why → List ℕ
text_on names without_ranks r own programmes reasons = first_line names r own programmes reasons ++ lines names without_ranks r programmes reasons
