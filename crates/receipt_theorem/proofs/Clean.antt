-- Texts without a carriage return, and how long they are at most.
use Rattle.std.proofs.Common.{◌≡◌, ℕ, zero, suc, ◌+◌, ◌*◌, ◌<◌, ◌≤◌, ◌^◌, true, List, [], ◌∷◌, ◌++◌, length, map, refl, sym, ap, ◌∙◌, arith, rules}
use Rattle.std.specs.Prelude.{⊤, codes, decimal}
use Rattle.std.specs.List.{All}
use Rattle.std.proofs.lemmas.Fmt.{length-decimal-le}
use Rattle.std.proofs.lemmas.List.{length-append}
use Rattle.std.proofs.lemmas.List.Elements.{All-append, All-cons, All-head, All-nil, All-tail}
use Rattle.hex.specs.Hex.{encode_lower, lower_digits}
use Rattle.hex.proofs.HexLemmas.{length-encode_with}
use Rattle.receipt_check.specs.Rows.{Cells, line, lines, plain_text, without_mark, without_returns}
use Rattle.receipt_theorem.proofs.Leaves.{digests_plain}
use Rattle.receipt_theorem.proofs.Openings.{IsDigest}
use Rattle.receipt_theorem.proofs.Rows.{ArePlain, IsNoReturn, IsPlain, IsShortName, line_kept, no_returns}
use Rattle.receipt_theorem.proofs.Sizes.{AreShort, line_short}
use Rattle.receipt_theorem.proofs.Texts.{number_plain}

pub record IsClean (most : ℕ) (text : List ℕ) : Type 0 where
  pub kept : All IsNoReturn text
  pub short : length text ≤ most

pub clean_both : (m n : ℕ) (a b : List ℕ) → IsClean m a → IsClean n b → IsClean (m + n) (a ++ b)
clean_both m n a b h k = record {
  kept = All-append IsNoReturn a b h.kept k.kept;
  short = (let size = length-append a b in let x = h.short in let y = k.short in omega (arith, size, x, y));
}

pub clean_none : IsClean 0 []
clean_none = record { kept = All-nil IsNoReturn; short = omega arith }

pub clean_more : (m n : ℕ) (text : List ℕ) → m ≤ n → IsClean m text → IsClean n text
clean_more m n text le h = record { kept = h.kept; short = (let x = h.short in omega (arith, le, x)) }

pub clean_line : (most : ℕ) (fields : Cells) → ArePlain fields → AreShort most fields → IsClean (length fields * (most + 1) + 1) (line fields)
clean_line most fields plain short = record { kept = line_kept fields plain; short = line_short most fields short }

-- each field of each row is plain and short
abbrev pub AreShortNames : Cells → Type 0
AreShortNames [] = ⊤
AreShortNames (field ∷ rest) = IsShortName field × AreShortNames rest

short_plain : (fields : Cells) → AreShortNames fields → ArePlain fields
short_plain [] h = tt
short_plain (field ∷ rest) h = (h.0.plain, short_plain rest h.1)

short_short : (fields : Cells) → AreShortNames fields → AreShort 32 fields
short_short [] h = All-nil (λ f. length f ≤ 32)
short_short (field ∷ rest) h = All-cons (λ f. length f ≤ 32) field rest h.0.short (short_short rest h.1)

pub clean_row : (fields : Cells) → AreShortNames fields → IsClean (length fields * 33 + 1) (line fields)
clean_row fields h = clean_line 32 fields (short_plain fields h) (short_short fields h)

pub clean_rows : (most : ℕ) (rows : List Cells) → All (λ row. IsClean most (line row)) rows → IsClean (length rows * most) (lines rows)
clean_rows most [] h = clean_more 0 (0 * most) [] (omega arith) clean_none
clean_rows most (row ∷ rows) h =
    let one = All-head (λ r. IsClean most (line r)) row rows h in
    let more = clean_rows most rows (All-tail (λ r. IsClean most (line r)) row rows h) in
    clean_more (most + length rows * most) (length (row ∷ rows) * most) (line row ++ lines rows) (search (rules)) (clean_both most (length rows * most) (line row) (lines rows) one more)

pub short_number : (n : ℕ) → n < 1000000000 → IsShortName (decimal n)
short_number n l = record { plain = number_plain n l; short = (let few = length-decimal-le 9 n (omega arith) (omega (arith, l)) (omega (arith, l)) in omega (arith, few)) }

pub short_names : (f : ℕ → List ℕ) → ((k : ℕ) → IsShortName (f k)) → (xs : List ℕ) → AreShortNames (map f xs)
short_names f h [] = tt
short_names f h (x ∷ xs) = (h x, short_names f h xs)

pub hex_short : (digests : List (List ℕ)) → All IsDigest digests → AreShort 64 (map encode_lower digests)
hex_short [] h = All-nil (λ f. length f ≤ 64)
hex_short (digest ∷ rest) h =
    All-cons (λ f. length f ≤ 64) (encode_lower digest) (map encode_lower rest)
    (let size = length-encode_with lower_digits digest in let whole = (All-head IsDigest digest rest h).size in omega (arith, size, whole))
    (hex_short rest (All-tail IsDigest digest rest h))

-- a text without a byte order mark and without carriage returns is read as it is
pub text_kept : (text : List ℕ) → without_mark text ≡ text → All IsNoReturn text → plain_text text ≡ text
unfolding plain_text
text_kept text unmarked h = ap without_returns unmarked ∙ no_returns text h
