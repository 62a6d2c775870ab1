-- The row of a real name from a key is one that a receipt may have, and a key gives only one list of real names.
use Rattle.std.proofs.Common.{◌≡◌, ℕ, ◌+◌, ◌<◌, ◌≤◌, ◌==◌, ◌&&◌, ◌||◌, Bool, true, false, List, [], ◌∷◌, ◌++◌, length, nat_le, nat_lt, Option, Some, None, refl, sym, ap, ◌∙◌, arith, append-nil, subst, inl, inr}
use Rattle.std.specs.Prelude.{bytes_eq, chars, codes, find, if◌then◌else◌, not, option_map, slice_index_or}
use Rattle.std.specs.List.{All, list_all, list_any}
use Rattle.std.specs.Str.{is_utf8}
use Rattle.std.proofs.lemmas.Bool.{cases_Bool, or_parts}
use Rattle.std.proofs.lemmas.List.{ext_get_or, length-append}
use Rattle.std.proofs.lemmas.List.Elements.{All-append, All-cons, All-head, All-nil, All-tail}
use Rattle.std.proofs.lemmas.Slice.Eq.{bytes_eq-Decides}
use Rattle.std.proofs.lemmas.Str.{IsUtf8-from_is_utf8}
use Rattle.csv.specs.Machine.{Read, next_record}
use Rattle.csv.specs.Reading.{AreRecords, Reached, strip_bom}
use Rattle.csv.specs.Records.{field_at}
use Rattle.csv.specs.Writing.{default_writer, field_text, fields_text, row_body}
use Rattle.csv.specs.declared.parser.Config.{Config}
use Rattle.csv.specs.declared.parser.State.{State}
use Rattle.csv.specs.declared.parser.State.TheVariants as st
use Rattle.records.specs.Lines as csv
use Rattle.records.specs.Reading.{Fields, field, rows_of}
use Rattle.records.proofs.RoundFacts.{AreLettered, lines_round}
use Rattle.docket.specs.Contents.{Contents}
use Rattle.docket.proofs.SoundFacts.{both_none}
use Rattle.reasons_text.specs.Keys.{added, key_config, row_fault, side_fault, unnamed}
use Rattle.reasons_text.specs.Naming.{KeyNames}
use Rattle.reasons_text.specs.RealNames.{AreReal, AreRealIn, Real, is_from_to, is_hidden, is_long, is_unclear, real_fault, real_fault_from, text_fault}
use Rattle.reasons_text.specs.RealNames as key
use Rattle.reasons_text.specs.Shown.{is_control}
use Rattle.reasons_text.specs.declared.fault.WhyFault.{WhyFault}
use Rattle.reasons_text.specs.declared.fault.WhyFault.TheVariants.{BadKey}
use Rattle.reasons_text.specs.declared.real_names.NamesFault.TheVariants.{Hidden, Key, Long}
use Rattle.seal_text.specs.Texts.{line_if, name_record}
use Rattle.receipt_check.specs.Named.{first_fields, has_parts, is_real, is_shown, name_text, real_fields}
use Rattle.receipt_check.specs.Receipt.{has_real_name, name_rows}
use Rattle.receipt_check.specs.Rows.{Cells, line, lines}
use Rattle.receipt_theorem.proofs.Clean.{IsClean, clean_more, clean_none}
use Rattle.receipt_theorem.proofs.Rows.{IsNoReturn}
use Rattle.receipt_theorem.proofs.Seen.{IsSeen, cut, cut_joined, cut_pieces, cut_some, field_short, seen_both, seen_field, seen_kept, seen_none, seen_one}

seen_fields : (fields : Fields) → All IsSeen fields → IsSeen (fields_text default_writer fields)
unfolding fields_text
seen_fields [] h = seen_none
seen_fields (text ∷ rest) h =
    seen_both (44 ∷ []) (field_text default_writer text ++ fields_text default_writer rest) (seen_one 44 (omega arith) refl)
    (seen_both (field_text default_writer text) (fields_text default_writer rest) (seen_field text (All-head IsSeen text rest h)) (seen_fields rest (All-tail IsSeen text rest h)))

whole_seen : (fields : Fields) → All IsSeen fields → IsSeen (row_body default_writer fields)
whole_seen [] h = seen_none
whole_seen (text ∷ rest) h =
    seen_both (field_text default_writer text) (fields_text default_writer rest) (seen_field text (All-head IsSeen text rest h)) (seen_fields rest (All-tail IsSeen text rest h))

one_row : (named : Cells) → has_real_name named ≡ true → line (codes "N" ∷ named) ≡ lines (name_rows named)
one_row [] h = cc h
one_row (piece ∷ rest) h = sym (append-nil (line (codes "N" ∷ piece ∷ rest)))

-- a real name and an ID, of which each may be empty, as the fields that a key gives
abbrev real_of : List ℕ → List ℕ → Fields
real_of name id = name ∷ (if length id == 0 then [] else id ∷ [])

-- this real name and this ID may be sealed
pub record IsSealable (name id : List ℕ) : Type 0 where
  pub some : (length name == 0) ≡ false
  pub seen : IsSeen name
  pub seen_id : IsSeen id
  pub short : length name ≤ 10000
  pub short_id : length id ≤ 10000

module _ (name : List ℕ) (rest : Fields) where
  abbrev text : List ℕ
  text = row_body default_writer (name ∷ rest)

  printed : csv.line (codes "N" ∷ name ∷ rest) ≡ lines (name_rows (cut [] text))
  unfolding csv.line fields_text
  printed = ap (λ (t : List ℕ). 78 ∷ (t ++ 10 ∷ [])) (sym (cut_joined [] text)) ∙ one_row (cut [] text) (cut_some [] text)

  lettered : AreLettered ((codes "N" ∷ name ∷ rest) ∷ [])
  unfolding AreLettered
  lettered = (record { letter = 78; rest = name ∷ rest; is = refl; no_mark = refl }, tt)

  one_line : csv.line (codes "N" ∷ name ∷ rest) ≡ csv.lines ((codes "N" ∷ name ∷ rest) ∷ [])
  unfolding csv.lines
  one_line = sym (append-nil (csv.line (codes "N" ∷ name ∷ rest)))

  is_read : real_fields (cut [] text) ≡ codes "N" ∷ name ∷ rest
  unfolding real_fields
  is_read = ap (λ (t : List ℕ). first_fields (rows_of t)) (sym printed ∙ one_line) ∙ ap first_fields (lines_round ((codes "N" ∷ name ∷ rest) ∷ []) lettered)

  right : All IsSeen (name ∷ rest) → has_parts (codes "N" ∷ name ∷ rest) ≡ true → is_real (cut [] text) ≡ true
  unfolding is_real
  right seen parts =
      rw (cut_pieces [] text (All-nil (λ b. (b == 44) ≡ false)) (whole_seen (name ∷ rest) seen), is_read, (bytes_eq-Decides (csv.line (codes "N" ∷ name ∷ rest)) (name_text (cut [] text))).1 printed) parts

module _ (name id : List ℕ) (h : IsSealable name id) where
  has_both : has_parts (codes "N" ∷ real_of name id) ≡ true
  unfolding field field_at
  has_both = by (length id == 0) refl
    where
      by : (b : Bool) → (length id == 0) ≡ b → has_parts (codes "N" ∷ name ∷ (if b then [] else id ∷ [])) ≡ true
      by true e = rw h.some refl
      by false e = rw (h.some, e) refl

  all_seen : All IsSeen (real_of name id)
  all_seen = by (length id == 0)
    where
      by : (b : Bool) → All IsSeen (name ∷ (if b then [] else id ∷ []))
      by true = All-cons IsSeen name [] h.seen (All-nil IsSeen)
      by false = All-cons IsSeen name (id ∷ []) h.seen (All-cons IsSeen id [] h.seen_id (All-nil IsSeen))

  text_short : length (row_body default_writer (real_of name id)) ≤ 40005
  unfolding fields_text
  text_short = by (length id == 0)
    where
      by : (b : Bool) → length (row_body default_writer (name ∷ (if b then [] else id ∷ []))) ≤ 40005
      by true =
          let a = field_short name in
          let size = length-append (field_text default_writer name) [] in
          let l = h.short in
          omega (arith, a, size, l)
      by false =
          let a = field_short name in
          let b = field_short id in
          let size = length-append (field_text default_writer name) (44 ∷ (field_text default_writer id ++ [])) in
          let more = length-append (field_text default_writer id) [] in
          let l = h.short in
          let m = h.short_id in
          omega (arith, a, b, size, more, l, m)

-- the pieces between commas in the row of a real name, or none without a real name
abbrev pub named_cells : Option Fields → Cells
named_cells None = []
named_cells (Some real) = cut [] (row_body default_writer real)

-- the row of this real name is one that a receipt may have: right and clean
pub record IsNameRow (real : Option Fields) : Type 0 where
  pub text_is : line_if (name_record real) ≡ lines (name_rows (named_cells real))
  pub right : (has_real_name (named_cells real) && not (is_real (named_cells real))) ≡ false
  pub clean : IsClean 40010 (lines (name_rows (named_cells real)))

no_row : IsNameRow None
no_row = record { text_is = refl; right = refl; clean = clean_more 0 40010 [] (omega arith) clean_none }

line_clean : (text : List ℕ) → IsSeen text → length text ≤ 40005 → IsClean 40010 (78 ∷ (44 ∷ text ++ 10 ∷ []))
line_clean text seen short = record {
  kept = All-cons IsNoReturn 78 (44 ∷ text ++ 10 ∷ []) refl (All-cons IsNoReturn 44 (text ++ 10 ∷ []) refl
      (All-append IsNoReturn text (10 ∷ []) (seen_kept [] text seen) (All-cons IsNoReturn 10 [] refl (All-nil IsNoReturn))));
  short = (let size = length-append text (10 ∷ []) in omega (arith, size, short));
}

sealable_row : (name id : List ℕ) → IsSealable name id → IsNameRow (Some (real_of name id))
unfolding csv.line fields_text
sealable_row name id h =
    let row = printed name (if length id == 0 then [] else id ∷ []) in
    let real = right name (if length id == 0 then [] else id ∷ []) (all_seen name id h) (has_both name id h) in
    record {
      text_is = row;
      right = rw (cut_some [] (row_body default_writer (real_of name id)), real) refl;
      clean = subst (IsClean 40010) row (line_clean (row_body default_writer (real_of name id)) (whole_seen (real_of name id) (all_seen name id h)) (text_short name id h));
    }

-- Characters.

low : (c : ℕ) → nat_lt c 32 ≡ false → nat_le 32 c ≡ true
low c h = grind (arith, h)

mid : (c : ℕ) → (nat_lt 126 c && nat_lt c 160) ≡ false → (nat_le 127 c && nat_le c 159) ≡ false
mid c h = grind (arith, h)

visible : (c : ℕ) → is_hidden c ≡ false → is_shown c ≡ true
visible c h =
    let e = or_parts (is_control c || c == 1564 || is_from_to 8206 8207 c || is_from_to 8232 8238 c) (is_from_to 8294 8297 c) h in
    let d = or_parts (is_control c || c == 1564 || is_from_to 8206 8207 c) (is_from_to 8232 8238 c) e.0 in
    let b = or_parts (is_control c || c == 1564) (is_from_to 8206 8207 c) d.0 in
    let a = or_parts (is_control c) (c == 1564) b.0 in
    let z = or_parts (nat_lt c 32) (nat_lt 126 c && nat_lt c 160) a.0 in
    rw (low c z.0, mid c z.1, a.1, b.1, d.1, e.1) refl

pub all_visible : (cs : List ℕ) → list_any is_hidden cs ≡ false → list_all is_shown cs ≡ true
all_visible [] h = refl
all_visible (c ∷ cs) h = let parts = or_parts (is_hidden c) (list_any is_hidden cs) h in rw (visible c parts.0) (all_visible cs parts.1)

-- Rows of a key.

seen_text : (text : List ℕ) → is_unclear text ≡ false → IsSeen text
unfolding is_unclear
seen_text text h = by (is_utf8 text) refl h
  where
    by : (b : Bool) → is_utf8 text ≡ b → (if b then list_any is_hidden (chars text) else true) ≡ false → IsSeen text
    by true e k = record { utf8 = IsUtf8-from_is_utf8 text e; shown = all_visible (chars text) k }
    by false e k = cc k

-- a name or an ID that isn't too long has at most 10000 bytes
short_text : (text : List ℕ) → is_long text ≡ false → length text ≤ 10000
short_text text h = grind (arith, h)

pub unmapped : {X Y : Type 0} (f : X → Y) (o : Option X) → option_map f o ≡ None → o ≡ None
unmapped f None h = refl
unmapped f (Some x) h = cc h

neither : {X : Type 0} (a b : Bool) (x y : X) → (if a then Some x else if b then Some y else None) ≡ None → (a ≡ false) × (b ≡ false)
neither true b x y h = cc h
neither false true x y h = cc h
neither false false x y h = (refl, refl)

-- the row of a key belongs to a programme or to a resident
abbrev IsSided : Fields → Type 0
IsSided row = (bytes_eq (field row 0) (codes "P") || bytes_eq (field row 0) (codes "R")) ≡ true

-- a programme's or a resident's row without a fault has a name
some_name : (d : Contents) (names : KeyNames) (place : ℕ) (row : Fields) → IsSided row → row_fault d names place row ≡ None → (length (field row 2) == 0) ≡ false
unfolding side_fault
some_name d names place row sided none = elim (cases_Bool (bytes_eq (field row 0) (codes "P"))) [
  | inl p ↦ by _ (length (field row 1) == 0 || length (field row 2) == 0) refl (rw p at none)
  | inr other ↦
      let r : bytes_eq (field row 0) (codes "R") ≡ true = rw other at sided in
      by _ (length (field row 1) == 0 || length (field row 2) == 0) refl (rw (other, r) at none)
]
  where
    by : (X : Option WhyFault) (b : Bool) → (length (field row 1) == 0 || length (field row 2) == 0) ≡ b → (if b then Some (BadKey place) else X) ≡ None → (length (field row 2) == 0) ≡ false
    by X true e k = cc k
    by X false e k = (or_parts (length (field row 1) == 0) (length (field row 2) == 0) e).1

row_sealable : (d : Contents) (names : KeyNames) (place : ℕ) (row : Fields) → IsSided row → real_fault d names place row ≡ None → IsSealable (field row 2) (field row 3)
row_sealable d names place row sided none =
    let faults = both_none (option_map Key (row_fault d names place row)) (text_fault place row) none in
    let texts = neither (is_unclear (field row 2) || is_unclear (field row 3)) (is_long (field row 2) || is_long (field row 3)) (Hidden place) (Long place) faults.1 in
    let clear = or_parts (is_unclear (field row 2)) (is_unclear (field row 3)) texts.0 in
    let small = or_parts (is_long (field row 2)) (is_long (field row 3)) texts.1 in
    record {
      some = some_name d names place row sided (unmapped Key (row_fault d names place row) faults.0);
      seen = seen_text (field row 2) clear.0;
      seen_id = seen_text (field row 3) clear.1;
      short = short_text (field row 2) small.0;
      short_id = short_text (field row 3) small.1;
    }

-- if the rows of a key have no fault, a programme's or a resident's row that is found among them has a name and an ID
-- that may be sealed
found_row : (d : Contents) (test : Fields → Bool) → ((row : Fields) → test row ≡ true → IsSided row) → (names : KeyNames) (before : ℕ) (rows : List Fields)
    → real_fault_from d names before rows ≡ None → (row : Fields) → find test rows ≡ Some row → IsSealable (field row 2) (field row 3)
unfolding real_fault_from
found_row d test sided names before [] none row h = cc h
found_row d test sided names before (first ∷ rest) none row h =
    let both = both_none (real_fault d names (before + 1) first) (real_fault_from d (added d names first) (before + 1) rest) none in
    by (test first) refl h both.0 (found_row d test sided (added d names first) (before + 1) rest both.1 row)
  where
    by : (b : Bool) → test first ≡ b → (if b then Some first else find test rest) ≡ Some row → real_fault d names (before + 1) first ≡ None
        → (find test rest ≡ Some row → IsSealable (field row 2) (field row 3)) → IsSealable (field row 2) (field row 3)
    by true e k own more = let same : first ≡ row = cc k in subst (λ (r : Fields). IsSealable (field r 2) (field r 3)) same (row_sealable d names (before + 1) first (sided first e) own)
    by false e k own more = more k

member_row : (d : Contents) (rows : List Fields) (test : Fields → Bool) → ((row : Fields) → test row ≡ true → IsSided row)
    → real_fault_from d (unnamed d) 0 rows ≡ None → IsNameRow (option_map key.real_fields (find test rows))
member_row d rows test sided none = by (find test rows) refl
  where
    by : (o : Option Fields) → find test rows ≡ o → IsNameRow (option_map key.real_fields o)
    by None e = no_row
    by (Some row) e = sealable_row (field row 2) (field row 3) (found_row d test sided (unnamed d) 0 rows none row e)

of_side : (row : Fields) (c : Bool) → (bytes_eq (field row 0) (codes "P") ≡ false → bytes_eq (field row 0) (codes "R") ≡ false → c ≡ false) → c ≡ true → IsSided row
of_side row c neither is = elim (cases_Bool (bytes_eq (field row 0) (codes "P") || bytes_eq (field row 0) (codes "R"))) [
  | inl one ↦ one
  | inr none ↦ (let parts = or_parts (bytes_eq (field row 0) (codes "P")) (bytes_eq (field row 0) (codes "R")) none in absurd (cc (sym is ∙ neither parts.0 parts.1)))
]

-- the row of each member's real name is one that a receipt may have
pub record AreNameRows (d : Contents) (real : Real) : Type 0 where
  pub programmes : (p : ℕ) → p < length d.instance.quotas → IsNameRow (slice_index_or real.programmes p None)
  pub residents : (r : ℕ) → r < length d.instance.resident_lists → IsNameRow (slice_index_or real.residents r None)

pub name_rows_of : (d : Contents) (bytes : Option (List ℕ)) (real : Real) → AreReal d bytes real → AreNameRows d real
name_rows_of d None real h = rw h (record { programmes = λ p l. no_row; residents = λ r l. no_row })
name_rows_of d (Some bytes) real h = record {
  programmes = λ p l. subst IsNameRow (sym (h.are_real.programmes.are p l)) (member_row d h.rows _ (λ row. of_side row _ (λ a b. rw (a, b) refl)) h.faultless);
  residents = λ r l. subst IsNameRow (sym (h.are_real.residents.are r l)) (member_row d h.rows _ (λ row. of_side row _ (λ a b. rw (a, b) refl)) h.faultless);
}

-- Reading.

at_end : (cfg : Config) (s : State) (xs : List ℕ) → AreRecords cfg s xs [] → next_record cfg s [] [] xs ≡ None
unfolding Reached
at_end cfg s xs h = ap (λ (t : State). next_record cfg t [] [] xs) h.2.0 ∙ ap (next_record cfg h.0 [] []) h.2.1 ∙ h.3

-- bytes give only one list of records
read_once : (cfg : Config) (s : State) (xs : List ℕ) (rows rows' : List Fields) → AreRecords cfg s xs rows → AreRecords cfg s xs rows' → rows ≡ rows'
unfolding Reached
read_once cfg s xs [] [] h k = refl
read_once cfg s xs [] (row ∷ rest) h k = absurd (cc (sym (at_end cfg s xs h) ∙ k.2.1))
read_once cfg s xs (row ∷ rest) [] h k = absurd (cc (sym (at_end cfg s xs k) ∙ h.2.1))
read_once cfg s xs (row ∷ rest) (row' ∷ rest') h k =
    let both : Some h.2.0 ≡ Some k.2.0 = sym h.2.1 ∙ k.2.1 in
    let same : h.2.0 ≡ k.2.0 = cc both in
    let first : row ≡ row' = h.2.2 ∙ ap (λ (r : Read). r.0) same ∙ sym k.2.2 in
    let other : AreRecords cfg h.2.0.1 h.2.0.2 rest' = subst (λ (r : Read). AreRecords cfg r.1 r.2 rest') (sym same) (k.0, k.1, k.2.3, k.3) in
    let more = read_once cfg h.2.0.1 h.2.0.2 rest rest' (h.0, h.1, h.2.3, h.3) other in
    ap (λ (r : List (List ℕ)). r ∷ rest) first ∙ ap (λ (t : List Fields). row' ∷ t) more

one_side : (count : ℕ) (f : ℕ → Option Fields) (names names' : List (Option Fields)) → length names ≡ count → length names' ≡ count
    → ((n : ℕ) → n < count → slice_index_or names n None ≡ f n) → ((n : ℕ) → n < count → slice_index_or names' n None ≡ f n) → names ≡ names'
one_side count f names names' each each' are are' =
    ext_get_or None names names' (each ∙ sym each') (λ n l. (let within : n < count = omega (arith, each, l) in are n within ∙ sym (are' n within)))

-- a key gives only one list of real names of a docket's members
pub one_real : (d : Contents) (bytes : Option (List ℕ)) (real real' : Real) → AreReal d bytes real → AreReal d bytes real' → real ≡ real'
one_real d None real real' h k = h ∙ sym k
one_real d (Some bytes) real real' h k =
    let rows = read_once (key_config bytes) st.StartRecord (strip_bom bytes) h.rows k.rows h.are_rows k.are_rows in
    let given : AreRealIn d k.rows real = subst (λ (r : List Fields). AreRealIn d r real) rows h.are_real in
    let a = one_side _ _ real.programmes real'.programmes given.programmes.each k.are_real.programmes.each given.programmes.are k.are_real.programmes.are in
    let b = one_side _ _ real.residents real'.residents given.residents.each k.are_real.residents.each given.residents.are k.are_real.residents.are in
    ap (λ (x : List (Option Fields)). record { programmes = x; residents = real.residents }) a ∙ ap (λ (x : List (Option Fields)). record { programmes = real'.programmes; residents = x }) b
