-- No field of a receipt in which nothing is wrong has a comma or a line feed.
use Rattle.std.proofs.Common.{◌≡◌, ℕ, zero, suc, ◌+◌, ◌<◌, ◌==◌, ◌/◌, ◌%◌, Bool, true, false, List, [], ◌∷◌, length, get_or, Option, Some, None, Result, Ok, Err, refl, sym, ap, ◌∙◌, arith, inl, inr, ◌&&◌, nat_le}
use Rattle.std.specs.Prelude.{decimal, slice_index}
use Rattle.std.specs.List.{list_all}
use Rattle.std.specs.Fmt.{digits, digits_onto, digit_glyph}
use Rattle.std.proofs.lemmas.Bool.{and_parts, cases_Bool, cases_lt, eqb-true, lt-ltb, ne_eqb}
use Rattle.std.specs.Str.{IsUtf8, NonePass, chars, is_utf8}
use Rattle.std.proofs.lemmas.Str.{IsUtf8-from_is_utf8, NoCharPasses-byte, encodes-chars}
use Rattle.std.proofs.lemmas.List.Elements.{All-cons, All-from_get_or, All-head, All-nil, All-tail, All-weaker}
use Rattle.std.proofs.lemmas.List.Sums.{AllPass-from_list_all}
use Rattle.hex.specs.Hex.{decode_sized, encode_lower, encode_with, is_hex_digit, lower_digits}
use Rattle.hex.specs.declared.error.FromHexError.{FromHexError}
use Rattle.hex.proofs.HexLemmas.{decode_of-ok, decode_sized-ok, decode_sized-twice}
use Rattle.docket_names.specs.Words.{is_digit, is_name, is_name_byte, is_number, number_of}
use Rattle.receipt_check.specs.Rows.{Cells}
use Rattle.receipt_check.specs.Faults.{cons_if, digest_of, digests_of, if_ok, if_written, is_small, plain_number}
use Rattle.receipt_check.specs.Named.{has_parts, is_part, is_piece, is_printed, is_real, real_fields}
use Rattle.receipt_check.proofs.RowFacts.{AreFields, IsField, PartsNothing}

no_truth : {A : Type 0} → true ≡ false → A
no_truth e = cc e

other : (p : ℕ → Bool) (c b : ℕ) → p c ≡ false → p b ≡ true → (b == c) ≡ false
other p c b fails is_so = ne_eqb b c (λ same. no_truth (sym is_so ∙ ap p same ∙ fails))

-- a byte that passes a test is no comma and no line feed, if neither of these passes the test
safe : (p : ℕ → Bool) → p 44 ≡ false → p 10 ≡ false → (b : ℕ) → p b ≡ true → PartsNothing b
safe p comma feed b is_so = (other p 44 b comma is_so, other p 10 b feed is_so)

pub passes : (p : ℕ → Bool) → p 44 ≡ false → p 10 ≡ false → (text : List ℕ) → list_all p text ≡ true → IsField text
passes p comma feed text h = All-weaker (λ b. p b ≡ true) PartsNothing (safe p comma feed) text (AllPass-from_list_all p text h)

-- a text of bytes that a name can have has neither commas nor line feeds
pub word : (text : List ℕ) → list_all is_name_byte text ≡ true → IsField text
word text h = passes is_name_byte refl refl text h

pub no_text : (text : List ℕ) → (length text == 0) ≡ true → IsField text
no_text [] h = All-nil PartsNothing
no_text (b ∷ text) h = absurd (omega (arith, eqb-true (length (b ∷ text)) 0 h))

pub name_field : (text : List ℕ) → is_name text ≡ true → IsField text
unfolding is_name
name_field text h = word text (and_parts (nat_le 1 (length text) && nat_le (length text) 32) (list_all is_name_byte text) h).1

number_field : (text : List ℕ) (n : ℕ) → number_of text ≡ Some n → IsField text
unfolding number_of is_number
number_field text n h = elim (cases_Bool (is_number text)) [
  | inl is_so ↦ passes is_digit refl refl text (and_parts (nat_le 1 (length text) && nat_le (length text) 9) (list_all is_digit text) is_so).1
  | inr is_not ↦ (let none = rw is_not at h in cc none)
]

plain_field_of : (text : List ℕ) (o : Option ℕ) (n : ℕ) → number_of text ≡ o → if_written text o ≡ Some n → IsField text
plain_field_of text None n o h = cc h
plain_field_of text (Some m) n o h = number_field text m o

pub plain_field : (text : List ℕ) (n : ℕ) → plain_number text ≡ Some n → IsField text
unfolding plain_number
plain_field text n h = plain_field_of text (number_of text) n refl h

-- the character of a decimal digit is no comma and no line feed
glyph : (n : ℕ) → PartsNothing (digit_glyph false (n % 10))
glyph n = let small : n % 10 < 10 = omega arith in by_digit (n % 10) small
  where
    by_digit : (d : ℕ) → d < 10 → PartsNothing (digit_glyph false d)
    by_digit d l = elim (cases_lt d 10) [
      | inl below ↦ rw (lt-ltb d 10 below) (ne_eqb (48 + d) 44 (λ e. absurd (omega (arith, e))), ne_eqb (48 + d) 10 (λ e. absurd (omega (arith, e))))
      | inr past ↦ absurd (omega (arith, past, l))
    ]

decimal_onto : (k n : ℕ) (acc : List ℕ) → IsField acc → IsField (digits_onto k 10 false n acc)
decimal_onto zero n acc h = h
decimal_onto (suc k) n acc h =
    let more : IsField (digit_glyph false (n % 10) ∷ acc) = All-cons PartsNothing (digit_glyph false (n % 10)) acc (glyph n) h in
    elim (cases_Bool (n / 10 == 0)) [
      | inl last ↦ rw last more
      | inr others ↦ rw others (decimal_onto k (n / 10) (digit_glyph false (n % 10) ∷ acc) more)
    ]

pub decimal_field : (n : ℕ) → IsField (decimal n)
unfolding digits
decimal_field n = decimal_onto 64 n [] (All-nil PartsNothing)

-- no byte of a text that can be a field is a comma or a line feed
index_parts : (t : List ℕ) → IsField t → (i : ℕ) → PartsNothing (slice_index t i)
index_parts [] h i = (refl, refl)
index_parts (b ∷ t) h zero = All-head PartsNothing b t h
index_parts (b ∷ t) h (suc i) = index_parts t (All-tail PartsNothing b t h) i

encoded : (t xs : List ℕ) → IsField t → IsField (encode_with t xs)
unfolding encode_with
encoded t [] h = All-nil PartsNothing
encoded t (x ∷ xs) h =
    All-cons PartsNothing (slice_index t (x / 16)) (slice_index t (x % 16) ∷ encode_with t xs) (index_parts t h (x / 16))
    (All-cons PartsNothing (slice_index t (x % 16)) (encode_with t xs) (index_parts t h (x % 16)) (encoded t xs h))

pub root_field : (root : List ℕ) → IsField (encode_lower root)
root_field root = encoded lower_digits root (word lower_digits refl)

hex_field : (text digest : List ℕ) → decode_sized text 32 ≡ Ok digest → IsField text
hex_field text digest h =
    let size = decode_sized-ok text 32 digest h in
    let whole = sym (decode_sized-twice text 32 size) ∙ h in
    All-weaker (λ b. is_hex_digit b ≡ true) PartsNothing (safe is_hex_digit refl refl) text (decode_of-ok text digest whole).1

digest_field : (text digest : List ℕ) → digest_of text ≡ Some digest → IsField text
unfolding digest_of
digest_field text digest h = elim (cases_Bool (list_all is_small text)) [
  | inl small ↦ by_bytes (decode_sized text 32) refl (rw small at h)
  | inr not ↦ (let none = rw not at h in cc none)
]
  where
    by_bytes : (decoded : Result (List ℕ) FromHexError) → decode_sized text 32 ≡ decoded → if_ok decoded ≡ Some digest → IsField text
    by_bytes (Ok bytes) e k = hex_field text bytes e
    by_bytes (Err fault) e k = cc k

digest_some : (o : Option (List ℕ)) (more : Option (List (List ℕ))) (found : List (List ℕ)) → cons_if o more ≡ Some found
    → (digest : List ℕ) × (rest : List (List ℕ)) × (o ≡ Some digest) × (more ≡ Some rest)
digest_some None more found h = cc h
digest_some (Some digest) None found h = cc h
digest_some (Some digest) (Some rest) found h = (digest, rest, refl, refl)

-- a mark that may not stand between the commas of a real name's row is no character of a text that
-- may
none : (mark : ℕ) → is_part mark ≡ false → (cs : List ℕ) → list_all is_part cs ≡ true → NonePass (λ c. c == mark) cs
none mark fails [] h = tt
none mark fails (c ∷ cs) h =
    let parts = and_parts (is_part c) (list_all is_part cs) h in
    (other is_part mark c fails parts.0, none mark fails cs parts.1)

no_byte : (mark : ℕ) → mark < 128 → is_part mark ≡ false → (piece : List ℕ) → IsUtf8 piece → list_all is_part (chars piece) ≡ true → (i : ℕ) → i < length piece → (get_or piece i 0 == mark) ≡ false
no_byte mark small fails piece u h i l = elim (cases_lt (get_or piece i 0) 128) [
  | inl ascii ↦ NoCharPasses-byte (λ c. c == mark) piece i (chars piece, encodes-chars piece u, none mark fails (chars piece) h) l ascii
  | inr high ↦ ne_eqb (get_or piece i 0) mark (λ e. absurd (omega (arith, e, high, small)))
]

piece_field : (piece : List ℕ) → is_piece piece ≡ true → IsField piece
piece_field piece h =
    let parts = and_parts (is_utf8 piece) (list_all is_part (chars piece)) h in
    let u = IsUtf8-from_is_utf8 piece parts.0 in
    All-from_get_or PartsNothing piece 0 (λ i l. (no_byte 44 (omega arith) refl piece u parts.1 i l, no_byte 10 (omega arith) refl piece u parts.1 i l))

piece_fields : (pieces : Cells) → list_all is_piece pieces ≡ true → AreFields pieces
piece_fields [] h = tt
piece_fields (piece ∷ rest) h = let parts = and_parts (is_piece piece) (list_all is_piece rest) h in (piece_field piece parts.0, piece_fields rest parts.1)

pub real_name_fields : (named : Cells) → is_real named ≡ true → AreFields named
unfolding is_real
real_name_fields named h =
    let parts = and_parts (list_all is_piece named && is_printed named (real_fields named)) (has_parts (real_fields named)) h in
    piece_fields named (and_parts (list_all is_piece named) (is_printed named (real_fields named)) parts.0).0

pub digest_fields : (fields : Cells) (found : List (List ℕ)) → digests_of fields ≡ Some found → AreFields fields
digest_fields [] found h = tt
digest_fields (field ∷ rest) found h =
    let parts = digest_some (digest_of field) (digests_of rest) found h in
    (digest_field field parts.0 parts.2, digest_fields rest parts.1 parts.3)
