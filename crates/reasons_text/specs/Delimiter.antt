-- Which mark separates the fields of a key.
use Rattle.std.specs.Prelude.{ℕ, ◌+◌, ◌-◌, ◌^◌, ◌==◌, ◌&&◌, ◌||◌, min, nat_lt, not, Bool, false, if◌then◌else◌, List, [], ◌∷◌}
use Rattle.reasons_text.specs.declared.delimiter.Marks.{Marks}

-- no mark counted yet
abbrev pub no_marks : Marks
no_marks = record { commas = 0; semicolons = 0; tabs = 0; is_quoted = false }

-- the number plus one, up to the greatest number of 64 bits
abbrev pub one_more : ℕ → ℕ
one_more n = min (n + 1) (2 ^ 64 - 1)

-- the counts after one more byte; a quote opens or closes, and nothing inside quotes is counted
unfoldable pub counted : Marks → ℕ → Marks
counted marks c =
    if c == 34 then record marks { is_quoted = not marks.is_quoted }
    else if marks.is_quoted then marks
    else if c == 44 then record marks { commas = one_more marks.commas }
    else if c == 59 then record marks { semicolons = one_more marks.semicolons }
    else if c == 9 then record marks { tabs = one_more marks.tabs }
    else marks

-- whether the byte ends a line in which a mark was counted
abbrev pub ends_line : Marks → ℕ → Bool
ends_line marks c = c == 10 && (not marks.is_quoted && (nat_lt 0 marks.commas || (nat_lt 0 marks.semicolons || nat_lt 0 marks.tabs)))

-- the counts of the first line that has a mark outside quotes
unfoldable pub marks_of : Marks → List ℕ → Marks
marks_of marks [] = marks
marks_of marks (c ∷ rest) = if ends_line marks c then marks else marks_of (counted marks c) rest

-- a semicolon if it is more frequent than each other mark, else a tab if it is more frequent than a comma, else a
-- comma
abbrev pub chosen : Marks → ℕ
chosen marks =
    if nat_lt marks.commas marks.semicolons && nat_lt marks.tabs marks.semicolons then 59
    else if nat_lt marks.commas marks.tabs then 9
    else 44

-- The mark that separates the fields: comma, semicolon or tab. It is the most frequent mark in the first line
-- that has a mark outside quotes.
abbrev pub delimiter_of : List ℕ → ℕ
delimiter_of bytes = chosen (marks_of no_marks bytes)
