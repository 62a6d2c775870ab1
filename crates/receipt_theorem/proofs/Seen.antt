-- Text of characters that a real name can have, as it is written, quoted and split at commas.
use Rattle.std.proofs.Common.{◌≡◌, ℕ, ◌+◌, ◌*◌, ◌<◌, ◌≤◌, ◌==◌, Bool, true, false, List, [], ◌∷◌, ◌++◌, length, slice_index, zero, suc, get_or, refl, sym, ap, ◌∙◌, arith, subst, append_assoc, append-nil, IsUtf8, chars, encode_utf8, encode_utf8_all}
use Rattle.std.specs.Prelude.{if◌then◌else◌}
use Rattle.std.specs.List.{All, list_all}
use Rattle.std.proofs.lemmas.Bool.{and_parts, eqb-true}
use Rattle.std.proofs.lemmas.List.{drop_at, get_or-append-add, length-append, take_at}
use Rattle.std.proofs.lemmas.List.Elements.{All-append, All-cons, All-head, All-nil, All-tail}
use Rattle.std.proofs.lemmas.List.Folds.{list_all-append}
use Rattle.std.proofs.lemmas.Str.{IsCharBoundary-before_ascii, IsUtf8-append, IsUtf8-drop, IsUtf8-from_ascii, IsUtf8-nil, IsUtf8-past_char, IsUtf8-take, chars-IsAscii, chars-append, chars-nil, chars_past_char, encode_ascii, encodes-chars, is_utf8-from_IsUtf8}
use Rattle.csv.specs.Writing.{default_writer, escaped, field_text, needs_quotes}
use Rattle.receipt_check.specs.Named.{is_part, is_piece, is_shown}
use Rattle.receipt_check.specs.Receipt.{has_real_name}
use Rattle.receipt_check.specs.Rows.{Cells, more_fields}

-- the bytes are UTF-8, and each character is one that a real name can have
pub record IsSeen (text : List ℕ) : Type 0 where
  pub utf8 : IsUtf8 text
  pub shown : list_all is_shown (chars text) ≡ true

pub seen_none : IsSeen []
seen_none = record { utf8 = IsUtf8-nil; shown = ap (list_all is_shown) chars-nil }

pub seen_both : (a b : List ℕ) → IsSeen a → IsSeen b → IsSeen (a ++ b)
seen_both a b h k = record {
  utf8 = IsUtf8-append a b h.utf8 k.utf8;
  shown = ap (list_all is_shown) (chars-append a b h.utf8) ∙ list_all-append is_shown (chars a) (chars b) ∙ rw (h.shown, k.shown) refl;
}

abbrev IsLow : List ℕ → Type 0
IsLow text = (i : ℕ) → slice_index text i < 128

low : (b : ℕ) → b < 128 → IsLow (b ∷ [])
low b small zero = small
low b small (suc i) = omega arith

-- one ASCII character that a real name can have is a text of such characters
pub seen_one : (b : ℕ) → b < 128 → is_shown b ≡ true → IsSeen (b ∷ [])
seen_one b small shown = record { utf8 = IsUtf8-from_ascii (b ∷ []) (low b small); shown = ap (list_all is_shown) (chars-IsAscii (b ∷ []) (low b small)) ∙ rw shown refl }

seen_quote : IsSeen (34 ∷ [])
seen_quote = seen_one 34 (omega arith) refl

-- if a text of such characters is cut at an ASCII character, both parts have only such characters,
-- and the character is one
seen_cut : (a : List ℕ) (c : ℕ) (b : List ℕ) → c < 128 → IsSeen (a ++ c ∷ b) → IsSeen a × (is_shown c ≡ true) × IsSeen b
seen_cut a c b small h =
    let here : get_or (a ++ c ∷ b) (length a) 0 ≡ c = (let zero : length a + 0 ≡ length a = omega arith in ap (λ k. get_or (a ++ c ∷ b) k 0) (sym zero) ∙ get_or-append-add a (c ∷ b) 0 0) in
    let size = length-append a (c ∷ b) in
    let edge = IsCharBoundary-before_ascii (a ++ c ∷ b) (length a) (omega (arith, size)) (omega (arith, here, small)) in
    let first : IsUtf8 a = subst IsUtf8 (take_at a (c ∷ b) (length a) refl) (IsUtf8-take (a ++ c ∷ b) (length a) h.utf8 edge) in
    let later : IsUtf8 (c ∷ b) = subst IsUtf8 (drop_at a (c ∷ b) (length a) refl) (IsUtf8-drop (a ++ c ∷ b) (length a) h.utf8 edge) in
    let one : c ∷ b ≡ encode_utf8 c ++ b = ap (λ (t : List ℕ). t ++ b) (sym (encode_ascii c small)) in
    let told : list_all is_shown (chars a ++ (c ∷ chars b)) ≡ true =
    ap (λ (t : List ℕ). list_all is_shown (chars a ++ t)) (sym (chars_past_char (c ∷ b) b c later one)) ∙ ap (list_all is_shown) (sym (chars-append a (c ∷ b) first)) ∙ h.shown in
    let parts = and_parts (list_all is_shown (chars a)) (list_all is_shown (c ∷ chars b)) (sym (list_all-append is_shown (chars a) (c ∷ chars b)) ∙ told) in
    let rest = and_parts (is_shown c) (list_all is_shown (chars b)) parts.1 in
    (record { utf8 = first; shown = parts.0 }, rest.0, record { utf8 = IsUtf8-past_char (c ∷ b) b c later one; shown = rest.1 })

-- Quotes.

seen_quotes : IsSeen (34 ∷ 34 ∷ [])
seen_quotes = seen_both (34 ∷ []) (34 ∷ []) seen_quote seen_quote

seen_escaped : (before text : List ℕ) → IsSeen (before ++ text) → IsSeen (before ++ escaped default_writer text)
unfolding escaped
seen_escaped before [] h = h
seen_escaped before (b ∷ rest) h = by (b == 34) refl (seen_escaped [] rest) (seen_escaped (before ++ b ∷ []) rest)
  where
    by : (q : Bool) → (b == 34) ≡ q → (IsSeen rest → IsSeen (escaped default_writer rest))
        → (IsSeen ((before ++ b ∷ []) ++ rest) → IsSeen ((before ++ b ∷ []) ++ escaped default_writer rest))
        → IsSeen (before ++ (if b == 34 then 34 ∷ b ∷ escaped default_writer rest else b ∷ escaped default_writer rest))
    by true e after more =
        let same : b ≡ 34 = eqb-true b 34 e in
        let parts = seen_cut before b rest (omega (arith, same)) h in
        rw (e, same) (seen_both before (34 ∷ 34 ∷ escaped default_writer rest) parts.0 (seen_both (34 ∷ 34 ∷ []) (escaped default_writer rest) seen_quotes (after parts.2)))
    by false e after more = rw e (subst IsSeen (append_assoc before (b ∷ []) (escaped default_writer rest)) (more (subst IsSeen (sym (append_assoc before (b ∷ []) rest)) h)))

-- a text of such characters still has only such characters when it is quoted as csv writes a field
pub seen_field : (text : List ℕ) → IsSeen text → IsSeen (field_text default_writer text)
seen_field text h = by (needs_quotes default_writer text)
  where
    by : (q : Bool) → IsSeen (if q then 34 ∷ (escaped default_writer text ++ 34 ∷ []) else text)
    by true = seen_both (34 ∷ []) (escaped default_writer text ++ 34 ∷ []) seen_quote (seen_both (escaped default_writer text) (34 ∷ []) (seen_escaped [] text h) seen_quote)
    by false = h

escaped_short : (text : List ℕ) → length (escaped default_writer text) ≤ 2 * length text
unfolding escaped
escaped_short [] = omega arith
escaped_short (b ∷ rest) = by (b == 34) (escaped_short rest)
  where
    by : (q : Bool) → length (escaped default_writer rest) ≤ 2 * length rest → length (if q then 34 ∷ b ∷ escaped default_writer rest else b ∷ escaped default_writer rest) ≤ 2 * length (b ∷ rest)
    by true h = omega (arith, h)
    by false h = omega (arith, h)

pub field_short : (text : List ℕ) → length (field_text default_writer text) ≤ 2 * length text + 2
field_short text = by (needs_quotes default_writer text)
  where
    by : (q : Bool) → length (if q then 34 ∷ (escaped default_writer text ++ 34 ∷ []) else text) ≤ 2 * length text + 2
    by true = let h = escaped_short text in let size = length-append (escaped default_writer text) (34 ∷ []) in omega (arith, h, size)
    by false = omega arith

-- Commas.

abbrev NoComma : ℕ → Type 0
NoComma b = (b == 44) ≡ false

-- the pieces between the commas of a text, of which the first piece begins with the given bytes
abbrev pub cut : List ℕ → List ℕ → Cells
cut piece [] = piece ∷ []
cut piece (b ∷ rest) = if b == 44 then piece ∷ cut [] rest else cut (piece ++ b ∷ []) rest

-- the pieces of a text are printed as the text, each after a comma
pub cut_joined : (piece text : List ℕ) → more_fields (cut piece text) ≡ 44 ∷ (piece ++ text)
cut_joined piece [] = refl
cut_joined piece (b ∷ rest) = by (b == 44) refl (cut_joined [] rest) (cut_joined (piece ++ b ∷ []) rest)
  where
    by : (q : Bool) → (b == 44) ≡ q → more_fields (cut [] rest) ≡ 44 ∷ rest → more_fields (cut (piece ++ b ∷ []) rest) ≡ 44 ∷ ((piece ++ b ∷ []) ++ rest)
        → more_fields (if q then piece ∷ cut [] rest else cut (piece ++ b ∷ []) rest) ≡ 44 ∷ (piece ++ b ∷ rest)
    by true e after more = let same : b ≡ 44 = eqb-true b 44 e in ap (λ (t : List ℕ). (44 ∷ piece) ++ t) after ∙ rw same refl
    by false e after more = more ∙ ap (λ (t : List ℕ). 44 ∷ t) (append_assoc piece (b ∷ []) rest)

pub cut_some : (piece text : List ℕ) → has_real_name (cut piece text) ≡ true
cut_some piece [] = refl
cut_some piece (b ∷ rest) = by (b == 44) (cut_some (piece ++ b ∷ []) rest)
  where
    by : (q : Bool) → has_real_name (cut (piece ++ b ∷ []) rest) ≡ true → has_real_name (if q then piece ∷ cut [] rest else cut (piece ++ b ∷ []) rest) ≡ true
    by true h = refl
    by false h = h

parts_of : (xs ys : List ℕ) → All NoComma (xs ++ ys) → All NoComma ys
parts_of [] ys h = h
parts_of (x ∷ xs) ys h = parts_of xs ys (All-tail NoComma x (xs ++ ys) h)

-- characters that have no comma in their bytes are those that a piece between commas can have
no_comma : (cs : List ℕ) → All NoComma (encode_utf8_all cs) → list_all is_shown cs ≡ true → list_all is_part cs ≡ true
no_comma [] h shown = refl
no_comma (c ∷ cs) h shown =
    let parts = and_parts (is_shown c) (list_all is_shown cs) shown in
    by (c == 44) refl parts.0 (no_comma cs (parts_of (encode_utf8 c) (encode_utf8_all cs) h) parts.1)
  where
    by : (q : Bool) → (c == 44) ≡ q → is_shown c ≡ true → list_all is_part cs ≡ true → list_all is_part (c ∷ cs) ≡ true
    by true e one more =
        let same : c ≡ 44 = eqb-true c 44 e in
        let first : encode_utf8_all (c ∷ cs) ≡ c ∷ encode_utf8_all cs = ap (λ (t : List ℕ). t ++ encode_utf8_all cs) (encode_ascii c (omega (arith, same))) in
        let never = All-head NoComma c (encode_utf8_all cs) (subst (All NoComma) first h) in
        absurd (cc (sym e ∙ never))
    by false e one more = rw (one, e, more) refl

whole_piece : (piece : List ℕ) → All NoComma piece → IsSeen piece → is_piece piece ≡ true
whole_piece piece free h =
    let same = encodes-chars piece h.utf8 in
    rw (is_utf8-from_IsUtf8 piece h.utf8) (no_comma (chars piece) (subst (All NoComma) (sym same) free) h.shown)

-- if `IsSeen` holds for a text, each of its pieces between commas can stand in a row of a receipt
pub cut_pieces : (piece text : List ℕ) → All NoComma piece → IsSeen (piece ++ text) → list_all is_piece (cut piece text) ≡ true
cut_pieces piece [] free h = rw (whole_piece piece free (subst IsSeen (append-nil piece) h)) refl
cut_pieces piece (b ∷ rest) free h = by (b == 44) refl (cut_pieces [] rest (All-nil NoComma)) (cut_pieces (piece ++ b ∷ []) rest)
  where
    by : (q : Bool) → (b == 44) ≡ q → (IsSeen rest → list_all is_piece (cut [] rest) ≡ true)
        → (All NoComma (piece ++ b ∷ []) → IsSeen ((piece ++ b ∷ []) ++ rest) → list_all is_piece (cut (piece ++ b ∷ []) rest) ≡ true)
        → list_all is_piece (if q then piece ∷ cut [] rest else cut (piece ++ b ∷ []) rest) ≡ true
    by true e after more =
        let same : b ≡ 44 = eqb-true b 44 e in
        let parts = seen_cut piece b rest (omega (arith, same)) h in
        rw (whole_piece piece free parts.0) (after parts.2)
    by false e after more = more (All-append NoComma piece (b ∷ []) free (All-cons NoComma b [] e (All-nil NoComma))) (subst IsSeen (sym (append_assoc piece (b ∷ []) rest)) h)

-- no byte in the second part of a text of such characters is a carriage return
pub seen_kept : (before text : List ℕ) → IsSeen (before ++ text) → All (λ b. (b == 13) ≡ false) text
seen_kept before [] h = All-nil (λ b. (b == 13) ≡ false)
seen_kept before (b ∷ rest) h = by (b == 13) refl (seen_kept (before ++ b ∷ []) rest (subst IsSeen (sym (append_assoc before (b ∷ []) rest)) h))
  where
    by : (q : Bool) → (b == 13) ≡ q → All (λ b. (b == 13) ≡ false) rest → All (λ b. (b == 13) ≡ false) (b ∷ rest)
    by true e more =
        let same : b ≡ 13 = eqb-true b 13 e in
        let parts = seen_cut before b rest (omega (arith, same)) h in
        let never : is_shown 13 ≡ true = subst (λ c. is_shown c ≡ true) same parts.1 in
        absurd (cc never)
    by false e more = All-cons (λ b. (b == 13) ≡ false) b rest e more
