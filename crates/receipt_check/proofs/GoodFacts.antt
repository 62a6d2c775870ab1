-- The check finds nothing wrong with a receipt exactly if it is a good receipt.
use Rattle.std.proofs.Common.{◌≡◌, ◌≤◌, ℕ, ◌&&◌, Bool, true, false, List, [], ◌∷◌, Option, None, Some, drop, length, refl, sym, ap, ◌∙◌, inl, inr, rules}
use Rattle.std.specs.Prelude.{bytes_eq, codes, if◌then◌else◌, nat_lt, not}
use Rattle.std.proofs.lemmas.Bool.{eq-eqb}
use Rattle.std.proofs.lemmas.Bool.Decides.{eqb_tells}
use Rattle.receipt_check.specs.Rows.{Cells, cell, lines, plain_text, row_at, split_rows}
use Rattle.receipt_check.specs.Receipt.{Receipt, has_list_in, is_programme, kind_in, list_place, read, receipt_text}
use Rattle.receipt_check.specs.Shape.{at, first_unlike, shape_fault}
use Rattle.receipt_check.specs.Faults.{longest, receipt_fault, text_fault, value_fault}
use Rattle.receipt_check.specs.Good.{GoodLaw, IsGoodReceipt, ListIsShown}
use Rattle.receipt_check.specs.declared.kind.Kind.{Kind}
use Rattle.receipt_check.specs.declared.kind.Kind.TheVariants.{Programme, Resident}
use Rattle.receipt_check.specs.declared.wrong.Wrong.TheVariants as wrong
use Rattle.receipt_check.proofs.RowFacts.{rows_read}
use Rattle.receipt_check.proofs.ShownFacts.{kept_of, printed_rows, read_is, receipt_rows, rows_kept}
use Rattle.receipt_check.proofs.KeptFacts.{value_kept}
use Rattle.receipt_check.proofs.CleanFacts.{first_none, map_none, rows_clean}

pub if_none : {X : Type 0} (b : Bool) (x : X) (o : Option X) → (if b then Some x else o) ≡ None → (b ≡ false) × (o ≡ None)
if_none true x o h = cc h
if_none false x o h = (refl, h)

short : (n : ℕ) → nat_lt longest n ≡ false → n ≤ longest
short n t = search (rules, t)

not_long : (n : ℕ) → n ≤ longest → nat_lt longest n ≡ false
not_long n h = search (rules, h)

-- two texts that differ in no row are equal
unlike_none : (a b : List ℕ) → first_unlike a b ≡ None → a ≡ b
unlike_none [] [] h = refl
unlike_none [] (y ∷ ys) h = cc h
unlike_none (x ∷ xs) [] h = cc h
unlike_none (x ∷ xs) (y ∷ ys) h = elim (eqb_tells x y) [
  | inl same ↦
      let rest : xs ≡ ys = unlike_none xs ys (map_none _ (first_unlike xs ys) (rw same.0 at h)) in
      let first : x ≡ y = same.1 in
      cc
  | inr other ↦ (let gone = rw other.0 at h in cc gone)
]

shape_none : (lists_root : List ℕ) (result_root : Option (List ℕ)) (r : Receipt) (rows : List (List (List ℕ))) (text : List ℕ)
    → shape_fault lists_root result_root r rows text ≡ None → text ≡ receipt_text lists_root result_root r
unfolding shape_fault
shape_none lists_root result_root r rows text h = unlike_none text (receipt_text lists_root result_root r) (map_none _ (first_unlike text (receipt_text lists_root result_root r)) h)

unlike_same : (a : List ℕ) → first_unlike a a ≡ None
unlike_same [] = refl
unlike_same (x ∷ xs) = rw (eq-eqb x x refl, unlike_same xs) refl

-- no list in the content of a receipt is missing from its rows: a programme without the row has no
-- list
list_shown : (kind : Kind) (is_row : Bool) (fields : Cells)
    → ListIsShown kind (is_programme kind && is_row) (if is_programme kind && not (is_programme kind && is_row) then [] else fields)
list_shown Programme true fields = tt
list_shown Programme false fields = refl
list_shown Resident is_row fields = tt

-- no list in the content that is read from rows is missing from the rows
pub list_read : (rows : List Cells) → ListIsShown (read rows).kind (read rows).has_list (read rows).list
unfolding read
list_read rows = list_shown (kind_in rows) (bytes_eq (cell rows 4 0) (codes "P")) (drop 2 (row_at rows (list_place (has_list_in rows))))

-- a receipt without a fault is not too long, is printed as the content that is read from it, and
-- this content has no fault
pub parts_none : (lists_root : List ℕ) (result_root : Option (List ℕ)) (bytes : List ℕ) → receipt_fault lists_root result_root bytes ≡ None
    → (nat_lt longest (length bytes) ≡ false)
    × (shape_fault lists_root result_root (read (split_rows (plain_text bytes))) (split_rows (plain_text bytes)) (plain_text bytes) ≡ None)
    × (value_fault lists_root result_root (read (split_rows (plain_text bytes))) ≡ None)
unfolding text_fault
parts_none lists_root result_root bytes h =
    let whole = if_none (nat_lt longest (length bytes)) (at 0 wrong.Long) (text_fault lists_root result_root (plain_text bytes)) h in
    let both = first_none (shape_fault lists_root result_root (read (split_rows (plain_text bytes))) (split_rows (plain_text bytes)) (plain_text bytes)) _ whole.1 in
    (whole.0, both.0, both.1)

sound : (lists_root : List ℕ) (result_root : Option (List ℕ)) (bytes : List ℕ) → receipt_fault lists_root result_root bytes ≡ None → IsGoodReceipt lists_root result_root bytes
sound lists_root result_root bytes h =
    let rows = split_rows (plain_text bytes) in
    let parts = parts_none lists_root result_root bytes h in
    record {
      content = read rows;
      is_short = short (length bytes) parts.0;
      text_is = shape_none lists_root result_root (read rows) rows (plain_text bytes) parts.1;
      list_is = list_read rows;
      nothing_wrong = parts.2;
    }

complete : (lists_root : List ℕ) (result_root : Option (List ℕ)) (bytes : List ℕ) → IsGoodReceipt lists_root result_root bytes → receipt_fault lists_root result_root bytes ≡ None
unfolding text_fault shape_fault
complete lists_root result_root bytes g =
    let r = g.content in
    let rows = receipt_rows lists_root result_root r in
    let kept = kept_of r.kind result_root r in
    let printed : plain_text bytes ≡ lines rows = g.text_is ∙ printed_rows lists_root result_root r in
    let rows_are : split_rows (plain_text bytes) ≡ rows = ap split_rows printed ∙ rows_read rows (rows_clean lists_root result_root r g.nothing_wrong) in
    let told : read (split_rows (plain_text bytes)) ≡ kept = ap read rows_are ∙ read_is lists_root result_root r g.list_is in
    let same : receipt_text lists_root result_root kept ≡ plain_text bytes = printed_rows lists_root result_root kept ∙ ap lines (rows_kept lists_root result_root r.kind r refl) ∙ sym printed in
    let value : value_fault lists_root result_root kept ≡ None = value_kept lists_root result_root r.kind r refl ∙ g.nothing_wrong in
    rw (not_long (length bytes) g.is_short, told, same, unlike_same (plain_text bytes), value) refl

pub good : GoodLaw
good lists_root result_root bytes = (sound lists_root result_root bytes, complete lists_root result_root bytes)
