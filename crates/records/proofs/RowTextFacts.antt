-- The text of a row, field by field.
use Rattle.std.proofs.Common.{◌≡◌, ◌≢◌, ◌==◌, ◌<◌, ◌+◌, ◌∷◌, [], ℕ, List, Bool, Option, None, Some, true, false, length, take, get_or, ◌++◌, refl, sym, ap, append-nil, ◌∙◌, subst, arith}
use Rattle.std.proofs.lemmas.Bool.{ne_eqb}
use Rattle.std.specs.Borrow.{MutBor}
use Rattle.std.specs.Io.KnownBytes.{Appends, append_known}
use Rattle.std.proofs.KnownBytes.{Appends-nil, Appends-trans}
use Rattle.csv.specs.Writing.{needs_quotes, escaped, field_text, next_sep, row_body, is_blank, quote_mark}
use Rattle.csv.proofs.WriteFacts.{quoted-step, row-step}
use Rattle.records.specs.RowText.{row_setup, row, row_end, Adds, IsOver, Writes}
use Rattle.records.specs.declared.writer.RowWriter.{RowWriter}

-- to an unchanged row writer the empty text was added
pub adds_none : {W : Type 0} (contents : W → Option (List ℕ)) (a : RowWriter W) → Adds contents a a []
adds_none contents a = (refl, Appends-nil _)

-- adding a first text to a row writer and then a second text adds both together
pub adds_both : {W : Type 0} (contents : W → Option (List ℕ)) (a b c : RowWriter W) (first second : List ℕ) → Adds contents a b first →
    Adds contents b c second → Adds contents a c (first ++ second)
adds_both contents a b c first second h k = (k.0 ∙ h.0, Appends-trans _ _ _ _ _ h.1 k.1)

long : (b : ℕ) (rest : List ℕ) → (length (b ∷ rest) == 0) ≡ false
long b rest = ne_eqb _ 0 (λ z. absurd (omega (arith, z)))

-- the text of an empty field is empty
shown : (field : List ℕ) → (length (field_text row_setup field) == 0) ≡ (length field == 0)
shown [] = refl
shown (b ∷ rest) = by_need (needs_quotes row_setup (b ∷ rest)) refl
  where
    by_need : (need : Bool) → needs_quotes row_setup (b ∷ rest) ≡ need → (length (field_text row_setup (b ∷ rest)) == 0) ≡ (length (b ∷ rest) == 0)
    by_need true e = rw e (long quote_mark _ ∙ sym (long b rest))
    by_need false e = rw e refl

pub blank_one : (fields : List (List ℕ)) (d : List ℕ) → length fields ≡ 1 → is_blank row_setup fields ≡ (length (get_or fields 0 d) == 0)
unfolding is_blank
blank_one [] d h = absurd (omega arith)
blank_one (field ∷ []) d h = shown field
blank_one (field ∷ next ∷ rest) d h = absurd (omega arith)

pub blank_other : (fields : List (List ℕ)) → length fields ≢ 1 → is_blank row_setup fields ≡ (length fields == 0)
unfolding is_blank
blank_other [] h = refl
blank_other (field ∷ []) h = absurd (h refl)
blank_other (field ∷ next ∷ rest) h = sym (ne_eqb _ 0 (λ z. absurd (omega (arith, z))))

pub escaped_quote : (b : ℕ) → b ≡ quote_mark → escaped row_setup (b ∷ []) ≡ quote_mark ∷ quote_mark ∷ []
unfolding escaped
escaped_quote b e = rw e refl

pub escaped_other : (b : ℕ) → b ≢ quote_mark → escaped row_setup (b ∷ []) ≡ b ∷ []
unfolding escaped
escaped_other b n = let e = ne_eqb b quote_mark n in rw e refl

-- adding the first bytes of a quoted field to a row writer, and then its next byte, adds one byte
-- more of this field
pub quoted_next : {W : Type 0} (contents : W → Option (List ℕ)) (a b c : RowWriter W) (field : List ℕ) (i : ℕ) → i < length field
    → Adds contents a b (quote_mark ∷ escaped row_setup (take i field)) → Adds contents b c (escaped row_setup (get_or field i 0 ∷ []))
    → Adds contents a c (quote_mark ∷ escaped row_setup (take (i + 1) field))
quoted_next contents a b c field i lt h k =
    subst (Adds contents a c) (quoted-step row_setup quote_mark field i lt) (adds_both contents a b c _ _ h k)

-- adding the first i fields of a row to a row writer, and then the next field, adds the first i + 1
-- fields
pub fields_next : {W : Type 0} (contents : W → Option (List ℕ)) (a b c d : RowWriter W) (fields : List (List ℕ)) (field : List ℕ) (i : ℕ) →
    i < length fields → Adds contents a b (row_body row_setup (take i fields)) → Adds contents b c (next_sep row_setup i)
    → Adds contents c d (field_text row_setup field) → field ≡ get_or fields i [] → Adds contents a d (row_body row_setup (take (i + 1) fields))
fields_next contents a b c d fields field i lt h k l e =
    subst (Adds contents a d) (sym (row-step row_setup fields i lt))
    (adds_both contents a b d _ _ h (adds_both contents b c d _ _ k (rw e at l)))

-- adding the fields of a row to a row writer, and then the row's end, adds the row
pub row_whole : {W : Type 0} (contents : W → Option (List ℕ)) (a b c : RowWriter W) (fields : List (List ℕ)) → Adds contents a b (row_body row_setup fields)
    → Adds contents b c (row_end fields) → Adds contents a c (row fields)
unfolding row
row_whole contents a b c fields h k = adds_both contents a b c _ _ h k

known_sent : (old mid new : Option (List ℕ)) (none rows text : List ℕ) → none ≡ [] → Appends (append_known old none) (append_known mid rows) text
    → Appends mid new rows → Appends old new text
known_sent None mid new none rows text e first second = tt
known_sent (Some o) None new none rows text e first second = absurd first
known_sent (Some o) (Some m) None none rows text e first second = absurd second
known_sent (Some o) (Some m) (Some n) none rows text e first second =
    second ∙ first ∙ ap (λ (start : List ℕ). (o ++ start) ++ text) e ∙ ap (λ (start : List ℕ). start ++ text) (append-nil o)

-- if a text was added to a row writer with an empty buffer, and the buffer was then sent, the
-- writer got this text
pub sent : {W : Type 0} (contents : W → Option (List ℕ)) (start last : RowWriter W) (lent : MutBor W) (new : W) (none text : List ℕ) → IsOver start lent none
    → none ≡ [] → Adds contents start last text → Writes contents last.writer.now new last.buffer.now.items → Writes contents lent.now new text
sent contents start last lent new none text over empty added handed =
    subst (λ w. Writes contents w new text) over.1
    (known_sent _ _ _ _ _ text (over.2 ∙ empty) added.1 handed)
