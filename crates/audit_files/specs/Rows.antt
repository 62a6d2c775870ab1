-- The rows that an audit over files adds to those of an audit and a replay.
use Rattle.std.specs.Prelude.{ℕ, zero, suc, Bool, true, false, if◌then◌else◌, Option, Some, None, List, [], ◌∷◌, ◌++◌, length, codes, decimal}
use Rattle.sha2.specs.Sha256.{sha256}
use Rattle.hex.specs.Hex.{encode_lower}
use Rattle.match_model.specs.Instance.{is_withdrawn}
use Rattle.docket.specs.Contents.{Contents}
use Rattle.docket.specs.Texts.{programme_name, resident_name}

-- a row of a letter and one field
abbrev pub short_row : List ℕ → List ℕ → List ℕ
short_row letter field = letter ++ (codes "," ++ (field ++ codes "\n"))

-- a row of a letter and two fields
abbrev pub long_row : List ℕ → List ℕ → List ℕ → List ℕ
long_row letter first second = letter ++ (codes "," ++ (first ++ (codes "," ++ (second ++ codes "\n"))))

-- `Y,result` if the sheet is the match's result, else `D,resident` with the first resident for whom it differs
abbrev pub result_row : Contents → Option ℕ → List ℕ
result_row d None = short_row (codes "Y") (codes "result")
result_row d (Some r) = short_row (codes "D") (resident_name d r)

-- `H,part,digest`: the SHA-256 of a file, in hexadecimal digits
abbrev pub digest_row : List ℕ → List ℕ → List ℕ
digest_row part bytes = long_row (codes "H") part (encode_lower (sha256 bytes))

-- the row with the digest of the journal's file, if there is such a file
abbrev pub journal_digest_row : Option (List ℕ) → List ℕ
journal_digest_row None = []
journal_digest_row (Some bytes) = digest_row (codes "journal") bytes

-- `T,programmes,residents`: the numbers of members
abbrev pub members_row : Contents → List ℕ
members_row d = long_row (codes "T") (decimal (length d.instance.quotas)) (decimal (length d.instance.resident_lists))

-- `W,side,name`, if this member of the side is withdrawn
abbrev pub withdrawn_row : List ℕ → (ℕ → List ℕ) → List Bool → ℕ → List ℕ
withdrawn_row side name flags n = if is_withdrawn flags n then long_row (codes "W") side (name n) else []

-- the rows of withdrawn members among the first n members of a side
unfoldable pub withdrawn_rows : List ℕ → (ℕ → List ℕ) → List Bool → ℕ → List ℕ
withdrawn_rows side name flags zero = []
withdrawn_rows side name flags (suc n) = withdrawn_rows side name flags n ++ withdrawn_row side name flags n

-- the rows of all withdrawn members: programmes, then residents, each in the docket's order
abbrev pub all_withdrawn_rows : Contents → List ℕ
all_withdrawn_rows d =
    withdrawn_rows (codes "P") (programme_name d) d.instance.programmes_withdrawn (length d.instance.quotas)
    ++ withdrawn_rows (codes "R") (resident_name d) d.instance.residents_withdrawn (length d.instance.resident_lists)

-- the facts: the digest of each file, the numbers of members, and the withdrawn members
abbrev pub facts_text : Contents → List ℕ → List ℕ → Option (List ℕ) → List ℕ
facts_text d docket sheet journal =
    digest_row (codes "docket") docket
    ++ (digest_row (codes "sheet") sheet ++ (journal_digest_row journal ++ (members_row d ++ all_withdrawn_rows d)))

-- the facts if they are wanted, else an empty text
abbrev pub facts_if : Bool → Contents → List ℕ → List ℕ → Option (List ℕ) → List ℕ
facts_if true d docket sheet journal = facts_text d docket sheet journal
facts_if false d docket sheet journal = []
