-- The secret of an office.
use Rattle.std.specs.Prelude.{ℕ, ◌-◌, ◌==◌, ◌&&◌, nat_lt, Bool, if◌then◌else◌, Result, Ok, Err, List, length, take, slice_index}
use Rattle.std.specs.List.{list_all}
use Rattle.hex.specs.Hex.{decode_sized}
use Rattle.hex.specs.declared.error.FromHexError.{FromHexError}
use Rattle.seal_text.specs.declared.fault.SecretFault.{SecretFault}
use Rattle.seal_text.specs.declared.fault.SecretFault.TheVariants.{NotDigits, Zeros}

-- whether the text ends with a line feed
abbrev pub ends_line : List ℕ → Bool
ends_line text = nat_lt 0 (length text) && (slice_index text (length text - 1) == 10)

-- the text without one line feed at its end
abbrev pub digits_of : List ℕ → List ℕ
digits_of text = if ends_line text then take (length text - 1) text else text

-- whether each byte is 0
abbrev pub is_zero : List ℕ → Bool
is_zero bytes = list_all (λ b. b == 0) bytes

-- the decoded bytes as a secret, unless all are 0 or there was a fault
abbrev pub unless_zero : Result (List ℕ) FromHexError → Result (List ℕ) SecretFault
unless_zero (Ok bytes) = if is_zero bytes then Err Zeros else Ok bytes
unless_zero (Err fault) = Err NotDigits

-- the secret that a file has: 64 hexadecimal digits, and maybe a line feed
unfoldable pub secret_of : List ℕ → Result (List ℕ) SecretFault
secret_of text = unless_zero (decode_sized (digits_of text) 32)
