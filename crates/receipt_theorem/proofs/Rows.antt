-- A row whose fields need no quotes is written as a receipt prints it.
use Rattle.std.proofs.Common.{◌≡◌, ◌≤◌, ℕ, length, ◌==◌, ◌||◌, ◌&&◌, Bool, true, false, List, [], ◌∷◌, ◌++◌, refl, sym, ap, ◌∙◌, append_assoc}
use Rattle.std.specs.Prelude.{⊤}
use Rattle.std.specs.List.{All, list_all, list_any}
use Rattle.std.proofs.lemmas.Bool.{and_parts, eqb-true, ne_eqb}
use Rattle.std.proofs.lemmas.List.Elements.{All-append, All-cons, All-head, All-nil, All-tail}
use Rattle.csv.specs.Writing.{default_writer, field_text, fields_text, is_blank, needs_byte, needs_quotes}
use Rattle.records.specs.Lines as csv
use Rattle.records.specs.RowText.{row, row_setup}
use Rattle.docket_names.specs.Words.{is_name_byte}
use Rattle.receipt_check.specs.Rows.{Cells, line, more_fields, without_returns}

-- each byte of the text, if it has any, is a letter, a digit or one of the three marks that a name
-- can have
abbrev pub IsPlain : List ℕ → Type 0
IsPlain text = list_all is_name_byte text ≡ true

-- the text is plain and has at most 32 bytes
pub record IsShortName (text : List ℕ) : Type 0 where
  pub plain : IsPlain text
  pub short : length text ≤ 32

abbrev pub ArePlain : Cells → Type 0
ArePlain [] = ⊤
ArePlain (field ∷ rest) = IsPlain field × ArePlain rest

other : (b c : ℕ) → is_name_byte c ≡ false → is_name_byte b ≡ true → (b == c) ≡ false
other b c never is = ne_eqb b c (λ e. let same : is_name_byte b ≡ is_name_byte c = ap is_name_byte e in cc (sym is ∙ same ∙ never))

unquoted : (text : List ℕ) → IsPlain text → needs_quotes row_setup text ≡ false
unquoted [] h = refl
unquoted (b ∷ rest) h =
    let parts = and_parts (is_name_byte b) (list_all is_name_byte rest) h in
    rw (other b 44 refl parts.0, other b 34 refl parts.0, other b 13 refl parts.0, other b 10 refl parts.0) (unquoted rest parts.1)

as_it_is : (text : List ℕ) → IsPlain text → field_text row_setup text ≡ text
as_it_is text h = rw (unquoted text h) refl

more_as_they_are : (fields : Cells) → ArePlain fields → fields_text row_setup fields ≡ more_fields fields
unfolding fields_text
more_as_they_are [] h = refl
more_as_they_are (field ∷ rest) h = rw (unquoted field h.0, more_as_they_are rest h.1) refl

-- a plain row of two fields or more is written as a receipt prints it
pub plain_row : (a b : List ℕ) (rest : Cells) → ArePlain (a ∷ b ∷ rest) → row (a ∷ b ∷ rest) ≡ line (a ∷ b ∷ rest)
unfolding row is_blank
plain_row a b rest h =
    ap (λ (t : List ℕ). (t ++ fields_text row_setup (b ∷ rest)) ++ 10 ∷ []) (as_it_is a h.0)
    ∙ ap (λ (t : List ℕ). (a ++ t) ++ 10 ∷ []) (more_as_they_are (b ∷ rest) h.1)
    ∙ append_assoc a (more_fields (b ∷ rest)) (10 ∷ [])

-- Plain rows are printed without a carriage return.

abbrev pub IsNoReturn : ℕ → Type 0
IsNoReturn b = (b == 13) ≡ false

field_kept : (text : List ℕ) → IsPlain text → All IsNoReturn text
field_kept [] h = All-nil IsNoReturn
field_kept (b ∷ rest) h =
    let parts = and_parts (is_name_byte b) (list_all is_name_byte rest) h in
    All-cons IsNoReturn b rest (other b 13 refl parts.0) (field_kept rest parts.1)

more_kept : (fields : Cells) → ArePlain fields → All IsNoReturn (more_fields fields)
more_kept [] h = All-nil IsNoReturn
more_kept (field ∷ rest) h = All-cons IsNoReturn 44 (field ++ more_fields rest) refl (All-append IsNoReturn field (more_fields rest) (field_kept field h.0) (more_kept rest h.1))

pub line_kept : (fields : Cells) → ArePlain fields → All IsNoReturn (line fields)
line_kept [] h = All-cons IsNoReturn 10 [] refl (All-nil IsNoReturn)
line_kept (field ∷ rest) h =
    All-append IsNoReturn field (more_fields rest ++ 10 ∷ []) (field_kept field h.0)
    (All-append IsNoReturn (more_fields rest) (10 ∷ []) (more_kept rest h.1) (All-cons IsNoReturn 10 [] refl (All-nil IsNoReturn)))

pub no_returns : (text : List ℕ) → All IsNoReturn text → without_returns text ≡ text
no_returns [] h = refl
no_returns (b ∷ rest) h = rw (All-head IsNoReturn b rest h) (ap (λ (t : List ℕ). b ∷ t) (no_returns rest (All-tail IsNoReturn b rest h)))

-- a plain record is written by csv as a receipt prints it
pub plain_line : (a : List ℕ) (rest : Cells) → ArePlain (a ∷ rest) → csv.line (a ∷ rest) ≡ line (a ∷ rest)
unfolding csv.line fields_text
plain_line a rest h = ap (λ (t : List ℕ). (t ++ fields_text default_writer rest) ++ 10 ∷ []) (by_default a h.0) ∙ ap (λ (t : List ℕ). (a ++ t) ++ 10 ∷ []) (more_by_default rest h.1) ∙ append_assoc a (more_fields rest) (10 ∷ [])
  where
    by_default : (text : List ℕ) → IsPlain text → field_text default_writer text ≡ text
    by_default text h = rw (unquoted text h) refl

    more_by_default : (fields : Cells) → ArePlain fields → fields_text default_writer fields ≡ more_fields fields
    more_by_default [] h = refl
    more_by_default (field ∷ rest) h = rw (unquoted field h.0, more_by_default rest h.1) refl
