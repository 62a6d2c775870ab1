-- How a text grows by a record, field by field.
use Rattle.std.proofs.Common.{◌≡◌, ◌≢◌, ◌<◌, zero, suc, ◌+◌, ◌∷◌, [], ℕ, List, length, take, get_or, ◌++◌, refl, sym, ap, ◌∙◌, subst, append_assoc, append-nil}
use Rattle.std.proofs.lemmas.Bool.{ne_eqb}
use Rattle.std.specs.Global.{Vec}
use Rattle.csv.specs.Records.{field_at}
use Rattle.csv.specs.Writing.{escaped, field_text, next_sep, row_body, quote_mark, default_writer}
use Rattle.csv.proofs.WriteFacts.{quoted-step, row-step}
use Rattle.records.specs.Lines.{Grows}
use Rattle.records.specs.Reading.{field}

-- a text that stays as it is grew by the empty text
pub grows_none : (a : Vec ℕ) → Grows a a []
grows_none a = sym (append-nil a.items)

-- a text that grew by a first text and then by a second grew by both together
pub grows_both : (a b c : Vec ℕ) (first second : List ℕ) → Grows a b first → Grows b c second → Grows a c (first ++ second)
grows_both a b c first second h k = k ∙ ap (λ (t : List ℕ). t ++ second) h ∙ append_assoc a.items first second

pub escaped_quote : (b : ℕ) → b ≡ quote_mark → escaped default_writer (b ∷ []) ≡ quote_mark ∷ quote_mark ∷ []
unfolding escaped
escaped_quote b e = rw e refl

pub escaped_other : (b : ℕ) → b ≢ quote_mark → escaped default_writer (b ∷ []) ≡ b ∷ []
unfolding escaped
escaped_other b n = let e = ne_eqb b quote_mark n in rw e refl

-- a text that grew by the start of a quoted field and then by its next byte grew by one byte more
-- of this field
pub quoted_next : (a b c : Vec ℕ) (field : List ℕ) (i : ℕ) → i < length field
    → Grows a b (quote_mark ∷ escaped default_writer (take i field)) → Grows b c (escaped default_writer (get_or field i 0 ∷ []))
    → Grows a c (quote_mark ∷ escaped default_writer (take (i + 1) field))
quoted_next a b c field i lt h k =
    subst (Grows a c) (quoted-step default_writer quote_mark field i lt) (grows_both a b c _ _ h k)

-- a text that grew by the first i fields of a record and then by the next field grew by the first i
-- + 1 fields
pub fields_next : (a b c d : Vec ℕ) (fields : List (List ℕ)) (field : List ℕ) (i : ℕ) →
    i < length fields → Grows a b (row_body default_writer (take i fields)) → Grows b c (next_sep default_writer i)
    → Grows c d (field_text default_writer field) → field ≡ get_or fields i [] → Grows a d (row_body default_writer (take (i + 1) fields))
fields_next a b c d fields field i lt h k l e =
    subst (Grows a d) (sym (row-step default_writer fields i lt))
    (grows_both a b d _ _ h (grows_both b c d _ _ k (rw e at l)))

-- field i of a record is item i of its list of fields
pub field_is : (fields : List (List ℕ)) (i : ℕ) → field fields i ≡ get_or fields i []
unfolding field field_at
field_is [] i = refl
field_is (f ∷ fs) zero = refl
field_is (f ∷ fs) (suc i) = field_is fs i
