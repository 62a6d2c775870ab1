-- Texts as a terminal may show them, without control characters.
use Rattle.std.specs.Prelude.{ℕ, ◌||◌, ◌&&◌, nat_lt, Bool, if◌then◌else◌, List, map, chars, encode_utf8_all}

-- whether the character is a control character: below 32, or 127, or from 128 to 159
abbrev pub is_control : ℕ → Bool
is_control c = nat_lt c 32 || (nat_lt 126 c && nat_lt c 160)

-- the character, or a question mark for a control character
abbrev pub shown_char : ℕ → ℕ
shown_char c = if is_control c then 63 else c

-- the text, with a question mark for each control character
unfoldable pub shown_text : List ℕ → List ℕ
shown_text text = encode_utf8_all (map shown_char (chars text))
