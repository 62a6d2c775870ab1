-- The content of a receipt is read back from its printed rows.
use Rattle.std.proofs.Common.{◌≡◌, ℕ, zero, suc, ◌+◌, ◌<◌, Bool, true, false, List, [], ◌∷◌, ◌++◌, Option, Some, None, drop, length, map, refl, sym, ap, ◌∙◌, arith, zero-add}
use Rattle.std.specs.Prelude.{codes}
use Rattle.std.specs.List.{range_with_len}
use Rattle.std.proofs.lemmas.List.{length-map}
use Rattle.std.proofs.lemmas.List.FromFn.{get_or-map-range_with_len}
use Rattle.receipt_check.specs.Rows.{Cells, text_at, lines, row_at}
use Rattle.receipt_check.specs.Receipt.{Receipt, answer, first_row, lists_rows, lists_rows_of, lists_text, member_row, members, part_rows, placed_row, read, reason_row, receipt_text, result_part, result_rows, result_rows_of, result_text}
use Rattle.receipt_check.specs.declared.kind.Kind.{Kind}
use Rattle.receipt_check.specs.declared.kind.Kind.TheVariants.{Programme, Resident}
use Rattle.receipt_check.specs.Good.{ListIsShown}
use Rattle.receipt_check.proofs.RowFacts.{lines_append}

-- the rows of the result's part, or none if no root of a result was published
abbrev pub result_part_rows : Option (List ℕ) → Receipt → List Cells
result_part_rows None r = []
result_part_rows (Some root) r = part_rows (codes "result") root r.count r.index r.second ++ result_rows r

-- all rows of a receipt
abbrev pub receipt_rows : List ℕ → Option (List ℕ) → Receipt → List Cells
receipt_rows lists_root result_root r =
    (first_row r ∷ part_rows (codes "lists") lists_root r.count r.index r.opening) ++ (lists_rows r ++ result_part_rows result_root r)

part_printed : (result_root : Option (List ℕ)) (r : Receipt) → result_part result_root r ≡ lines (result_part_rows result_root r)
unfolding result_text
part_printed None r = refl
part_printed (Some root) r = sym (lines_append (part_rows (codes "result") root r.count r.index r.second) (result_rows r))

pub printed_rows : (lists_root : List ℕ) (result_root : Option (List ℕ)) (r : Receipt) → receipt_text lists_root result_root r ≡ lines (receipt_rows lists_root result_root r)
unfolding receipt_text lists_text
printed_rows lists_root result_root r =
    ap (λ (t : List ℕ). lines (first_row r ∷ part_rows (codes "lists") lists_root r.count r.index r.opening) ++ (lines (lists_rows r) ++ t)) (part_printed result_root r)
    ∙ ap (λ (t : List ℕ). lines (first_row r ∷ part_rows (codes "lists") lists_root r.count r.index r.opening) ++ t) (sym (lines_append (lists_rows r) (result_part_rows result_root r)))
    ∙ sym (lines_append (first_row r ∷ part_rows (codes "lists") lists_root r.count r.index r.opening) (lists_rows r ++ result_part_rows result_root r))

-- the field that is read back as the quota: a programme's quota; for a resident the first name on
-- the list, which stands in this field
abbrev pub kept_quota : Kind → Receipt → List ℕ
kept_quota Programme r = r.quota
kept_quota Resident r = text_at r.list 0

abbrev pub kept_second : Option (List ℕ) → Receipt → Cells
kept_second None r = []
kept_second (Some root) r = r.second

abbrev pub kept_own : Option (List ℕ) → Kind → Receipt → Option (List ℕ)
kept_own None kind r = None
kept_own (Some root) Programme r = None
kept_own (Some root) Resident r = r.own

abbrev pub kept_after : Option (List ℕ) → Kind → Receipt → List Cells
kept_after None kind r = []
kept_after (Some root) Programme r = map (member_row r.name) (members r)
kept_after (Some root) Resident r = map (reason_row r) (range_with_len 0 (length r.list))

abbrev pub kept_of : Kind → Option (List ℕ) → Receipt → Receipt
kept_of kind result_root r = record {
  kind = kind;
  name = r.name;
  count = r.count;
  index = r.index;
  opening = r.opening;
  quota = kept_quota kind r;
  has_list = r.has_list;
  list = r.list;
  gone = r.gone;
  named = r.named;
  second = kept_second result_root r;
  own = kept_own result_root kind r;
  after = kept_after result_root kind r;
}

read_fields : (lists_root : List ℕ) (result_root : Option (List ℕ)) (kind : Kind) (name count index quota : List ℕ) (opening list second : Cells) (after : List Cells) (own : Option (List ℕ)) (has_list gone : Bool) (named : Cells)
    → ListIsShown kind has_list list → (r : Receipt)
    → r ≡ record { kind = kind; name = name; count = count; index = index; opening = opening; quota = quota; has_list = has_list; list = list; gone = gone; named = named; second = second; own = own; after = after }
    → read (receipt_rows lists_root result_root r) ≡ kept_of r.kind result_root r
unfolding read
read_fields lists_root None Programme name count index quota opening list second after own true true [] h r e = rw e refl
read_fields lists_root None Programme name count index quota opening list second after own true true (piece ∷ rest) h r e = rw e refl
read_fields lists_root None Programme name count index quota opening list second after own true false [] h r e = rw e refl
read_fields lists_root None Programme name count index quota opening list second after own true false (piece ∷ rest) h r e = rw e refl
read_fields lists_root None Programme name count index quota opening list second after own false true [] h r e = rw (e, h) refl
read_fields lists_root None Programme name count index quota opening list second after own false true (piece ∷ rest) h r e = rw (e, h) refl
read_fields lists_root None Programme name count index quota opening list second after own false false [] h r e = rw (e, h) refl
read_fields lists_root None Programme name count index quota opening list second after own false false (piece ∷ rest) h r e = rw (e, h) refl
read_fields lists_root None Resident name count index quota opening list second after own true gone named h r e = absurd h
read_fields lists_root None Resident name count index quota opening list second after own false true [] h r e = rw e refl
read_fields lists_root None Resident name count index quota opening list second after own false true (piece ∷ rest) h r e = rw e refl
read_fields lists_root None Resident name count index quota opening list second after own false false [] h r e = rw e refl
read_fields lists_root None Resident name count index quota opening list second after own false false (piece ∷ rest) h r e = rw e refl
read_fields lists_root (Some root) Programme name count index quota opening list second after own true true [] h r e = rw e refl
read_fields lists_root (Some root) Programme name count index quota opening list second after own true true (piece ∷ rest) h r e = rw e refl
read_fields lists_root (Some root) Programme name count index quota opening list second after own true false [] h r e = rw e refl
read_fields lists_root (Some root) Programme name count index quota opening list second after own true false (piece ∷ rest) h r e = rw e refl
read_fields lists_root (Some root) Programme name count index quota opening list second after own false true [] h r e = rw (e, h) refl
read_fields lists_root (Some root) Programme name count index quota opening list second after own false true (piece ∷ rest) h r e = rw (e, h) refl
read_fields lists_root (Some root) Programme name count index quota opening list second after own false false [] h r e = rw (e, h) refl
read_fields lists_root (Some root) Programme name count index quota opening list second after own false false (piece ∷ rest) h r e = rw (e, h) refl
read_fields lists_root (Some root) Resident name count index quota opening list second after own true gone named h r e = absurd h
read_fields lists_root (Some root) Resident name count index quota opening list second after None false true [] h r e = rw e refl
read_fields lists_root (Some root) Resident name count index quota opening list second after None false true (piece ∷ rest) h r e = rw e refl
read_fields lists_root (Some root) Resident name count index quota opening list second after None false false [] h r e = rw e refl
read_fields lists_root (Some root) Resident name count index quota opening list second after None false false (piece ∷ rest) h r e = rw e refl
read_fields lists_root (Some root) Resident name count index quota opening list second after (Some own) false true [] h r e = rw e refl
read_fields lists_root (Some root) Resident name count index quota opening list second after (Some own) false true (piece ∷ rest) h r e = rw e refl
read_fields lists_root (Some root) Resident name count index quota opening list second after (Some own) false false [] h r e = rw e refl
read_fields lists_root (Some root) Resident name count index quota opening list second after (Some own) false false (piece ∷ rest) h r e = rw e refl

pub read_is : (lists_root : List ℕ) (result_root : Option (List ℕ)) (r : Receipt) → ListIsShown r.kind r.has_list r.list → read (receipt_rows lists_root result_root r) ≡ kept_of r.kind result_root r
read_is lists_root result_root r h = read_fields lists_root result_root r.kind r.name r.count r.index r.quota r.opening r.list r.second r.after r.own r.has_list r.gone r.named h r refl

-- two functions with the same values at the numbers of a range make the same list of this range
range_same : {A : Type 0} (f g : ℕ → A) (a n : ℕ) → ((k : ℕ) → k < a + n → f k ≡ g k) → map f (range_with_len a n) ≡ map g (range_with_len a n)
range_same f g a zero h = refl
range_same f g a (suc n) h =
    let first : f a ≡ g a = h a (omega arith) in
    rw (first, range_same f g (a + 1) n (λ k l. h k (omega (arith, l)))) refl

pub members_kept : (name : List ℕ) (names : Cells) → map (λ row. text_at row 1) (map (member_row name) names) ≡ names
members_kept name [] = refl
members_kept name (m ∷ names) = ap (λ (t : Cells). m ∷ t) (members_kept name names)

pub answer_kept : (r : Receipt) (k : ℕ) → k < length r.list → drop 3 (row_at (map (reason_row r) (range_with_len 0 (length r.list))) k) ≡ answer r k
answer_kept r k l = ap (drop 3) (get_or-map-range_with_len (reason_row r) 0 (length r.list) k k [] l (zero-add k))

reason_kept : (r r' : Receipt) → r'.name ≡ r.name → r'.list ≡ r.list → (k : ℕ) → answer r' k ≡ answer r k → reason_row r' k ≡ reason_row r k
reason_kept r r' n l k a = rw (n, l, a) refl

-- the content that is read back has the same rows of the result
pub result_rows_kept : (root : List ℕ) (kind : Kind) (r : Receipt) → result_rows_of kind (kept_of kind (Some root) r) ≡ result_rows_of kind r
result_rows_kept root Programme r =
    let many : length (map (member_row r.name) (members r)) ≡ length r.after = length-map (members r) (member_row r.name) ∙ length-map r.after (λ row. text_at row 1) in
    rw (many, members_kept r.name (members r)) refl
result_rows_kept root Resident r =
    ap (λ (t : List Cells). placed_row r.name r.own ∷ t)
    (range_same (reason_row (kept_of Resident (Some root) r)) (reason_row r) 0 (length r.list) (λ k l. reason_kept r (kept_of Resident (Some root) r) refl refl k (answer_kept r k (omega (arith, l)))))

pub lists_rows_kept : (result_root : Option (List ℕ)) (kind : Kind) (r : Receipt) → r.kind ≡ kind → lists_rows_of kind (kept_of kind result_root r) ≡ lists_rows_of kind r
lists_rows_kept result_root Programme r e = rw e refl
lists_rows_kept result_root Resident r e = rw e refl

-- the content that is read back has the same rows
pub rows_kept : (lists_root : List ℕ) (result_root : Option (List ℕ)) (kind : Kind) (r : Receipt) → r.kind ≡ kind
    → receipt_rows lists_root result_root (kept_of kind result_root r) ≡ receipt_rows lists_root result_root r
rows_kept lists_root None Programme r e = rw e refl
rows_kept lists_root None Resident r e = rw e refl
rows_kept lists_root (Some root) kind r e =
    let lists = lists_rows_kept (Some root) kind r e in
    let results = result_rows_kept root kind r in
    rw (lists, results, e) refl
