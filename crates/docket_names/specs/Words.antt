-- Names and numbers, as they are written in a docket.
use Rattle.std.specs.Prelude.{ℕ, ◌+◌, ◌-◌, ◌*◌, nat_le, ◌&&◌, ◌||◌, ◌==◌, Bool, if◌then◌else◌, Option, Some, None, List, length, fold}
use Rattle.std.specs.List.{list_all}

-- whether the code c is from low to high
abbrev pub is_between : ℕ → ℕ → ℕ → Bool
is_between low high c = nat_le low c && nat_le c high

-- whether the byte is an ASCII digit
abbrev pub is_digit : ℕ → Bool
is_digit c = is_between 48 57 c

-- whether the byte is an ASCII letter, an ASCII digit, `-`, `_` or `.`
abbrev pub is_name_byte : ℕ → Bool
is_name_byte c = is_between 97 122 c || is_between 65 90 c || is_digit c || (c == 45) || (c == 95) || (c == 46)

-- whether the text is a name: 1 to 32 bytes, each of which a name may have
unfoldable pub is_name : List ℕ → Bool
is_name text = nat_le 1 (length text) && nat_le (length text) 32 && list_all is_name_byte text

-- the number that these digits stand for in base ten
abbrev pub digits_worth : List ℕ → ℕ
digits_worth digits = fold (λ worth c. worth * 10 + (c - 48)) 0 digits

-- whether the text is 1 to 9 ASCII digits
unfoldable pub is_number : List ℕ → Bool
is_number text = nat_le 1 (length text) && nat_le (length text) 9 && list_all is_digit text

-- the number that a text of 1 to 9 ASCII digits stands for; none for any other text
unfoldable pub number_of : List ℕ → Option ℕ
number_of text = if is_number text then Some (digits_worth text) else None
