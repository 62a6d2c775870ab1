-- The rows of the table that `why --all` writes about all residents.
use Rattle.std.specs.Prelude.{ℕ, Bool, if◌then◌else◌, Option, Some, None, List, [], ◌∷◌, codes, decimal}
use Rattle.std.specs.List.{enumerate_from, flat_map, zip}
use Rattle.match_reasons.specs.declared.reason.Why.{Why}
use Rattle.match_reasons.specs.declared.reason.Why.TheVariants.{Withdrawn, NotListed, NotRanked, Matched, PrefersOwn, Full, Blocking}
use Rattle.records.specs.RowText.{row}
use Rattle.reasons_text.specs.Lines.{from_one}
use Rattle.reasons_text.specs.Naming.{Naming, shown_programme, shown_resident}

-- the names of the columns
abbrev pub columns : List (List ℕ)
columns = codes "resident" ∷ codes "programme" ∷ codes "choice" ∷ codes "answer" ∷ codes "rank" ∷ codes "last_rank" ∷ codes "quota" ∷ []

-- the word for an answer
unfoldable pub word : Why → List ℕ
word Withdrawn = codes "withdrawn"
word NotListed = codes "unlisted"
word NotRanked = codes "unranked"
word Matched = codes "matched"
word (PrefersOwn own own_rank rank) = codes "better"
word (Full rank last_rank quota) = codes "full"
word Blocking = codes "blocking"

-- the field for the resident's rank, if the answer is that the places were taken
unfoldable pub rank_field : Bool → Why → List ℕ
rank_field without_ranks Withdrawn = []
rank_field without_ranks NotListed = []
rank_field without_ranks NotRanked = []
rank_field without_ranks Matched = []
rank_field without_ranks (PrefersOwn own own_rank rank) = []
rank_field without_ranks (Full rank last_rank quota) = if without_ranks then [] else decimal (from_one rank)
rank_field without_ranks Blocking = []

-- a rank as a text; an empty text without a rank
abbrev pub rank_text : Option ℕ → List ℕ
rank_text None = []
rank_text (Some rank) = decimal (from_one rank)

-- the field for the last rank that got a place, if the answer is that the places were taken
unfoldable pub last_field : Bool → Why → List ℕ
last_field without_ranks Withdrawn = []
last_field without_ranks NotListed = []
last_field without_ranks NotRanked = []
last_field without_ranks Matched = []
last_field without_ranks (PrefersOwn own own_rank rank) = []
last_field without_ranks (Full rank last_rank quota) = if without_ranks then [] else rank_text last_rank
last_field without_ranks Blocking = []

-- the field for the quota, if the answer is that the places were taken
unfoldable pub quota_field : Why → List ℕ
quota_field Withdrawn = []
quota_field NotListed = []
quota_field NotRanked = []
quota_field Matched = []
quota_field (PrefersOwn own own_rank rank) = []
quota_field (Full rank last_rank quota) = decimal quota
quota_field Blocking = []

-- the row about programme p, with its choice number for resident r, from 1
unfoldable pub answer_row : Naming → Bool → ℕ → ℕ → ℕ → Why → List ℕ
answer_row names without_ranks r choice p reason =
    row (shown_resident names r ∷ shown_programme names p ∷ decimal choice ∷ word reason
    ∷ rank_field without_ranks reason ∷ last_field without_ranks reason ∷ quota_field reason ∷ [])

-- one row for each of these programmes, in order, each from the answer about its programme
abbrev pub rows_on : Naming → Bool → ℕ → List ℕ → List Why → List ℕ
rows_on names without_ranks r programmes reasons =
    flat_map (λ (told : ℕ × (ℕ × Why)). answer_row names without_ranks r told.0 told.1.0 told.1.1) (enumerate_from 1 (zip programmes reasons))
