-- Two receipts with the same text before the match are of the same member, with the same list.
use Rattle.std.proofs.Common.{◌≡◌, ℕ, true, false, List, [], ◌∷◌, ◌++◌, None, refl, sym, ap, ◌∙◌}
use Rattle.std.specs.Prelude.{bytes_eq, codes}
use Rattle.receipt_check.specs.Rows.{Cells, cell, split_rows}
use Rattle.receipt_check.specs.Receipt.{Receipt, letter_of, lists_rows, lists_rows_of, lists_text, part_rows, read}
use Rattle.receipt_check.specs.Faults.{lists_fault}
use Rattle.receipt_check.specs.Good.{ListIsShown}
use Rattle.receipt_check.specs.declared.kind.Kind.{Kind}
use Rattle.receipt_check.specs.declared.kind.Kind.TheVariants.{Programme, Resident}
use Rattle.receipt_check.proofs.RowFacts.{rows_read}
use Rattle.receipt_check.proofs.ShownFacts.{kept_of, read_is, receipt_rows}
use Rattle.receipt_check.proofs.CleanFacts.{lists_are_rows}

-- both receipts have the same side, name, quota, list and withdrawal of a member
pub record HasListsOf (r c : Receipt) : Type 0 where
  pub kind : r.kind ≡ c.kind
  pub name : r.name ≡ c.name
  pub quota : c.kind ≡ Programme → r.quota ≡ c.quota
  pub list : r.list ≡ c.list
  pub gone : r.gone ≡ c.gone

-- if two receipts have the same rows of the lists, their members have the same side and name
first_cells : (kind kind' : Kind) (r c : Receipt) → lists_rows_of kind r ≡ lists_rows_of kind' c → (kind ≡ kind') × (r.name ≡ c.name)
first_cells Programme Programme r c e = (refl, ap (λ (rows : List Cells). cell rows 0 1) e)
first_cells Programme Resident r c e =
    let other : true ≡ false = ap (λ (rows : List Cells). bytes_eq (cell rows 0 0) (codes "Q")) e in
    absurd (cc other)
first_cells Resident Programme r c e =
    let other : true ≡ false = ap (λ (rows : List Cells). bytes_eq (cell rows 0 0) (codes "R")) e in
    absurd (cc other)
first_cells Resident Resident r c e = (refl, ap (λ (rows : List Cells). cell rows 0 1) e)

-- the second receipt, but with the openings of the first
abbrev moved : Receipt → Receipt → Receipt
moved r c = record c { count = r.count; index = r.index; opening = r.opening }

-- the second receipt with the openings of the first has the same rows of the lists as the second
moved_rows : (kind : Kind) (r c : Receipt) → lists_rows_of kind (moved r c) ≡ lists_rows_of kind c
moved_rows Programme r c = refl
moved_rows Resident r c = refl

-- the rows of a receipt without a result, made of its openings, the member's side and name, and the
-- rows of its lists
abbrev rows_with : Receipt → Kind → List ℕ → List Cells → List Cells
rows_with r kind name rows =
    ((codes "receipt" ∷ codes "2" ∷ letter_of kind ∷ name ∷ []) ∷ part_rows (codes "lists") [] r.count r.index r.opening) ++ (rows ++ [])

-- if two receipts have no fault in their lists and the same text before the match, they agree about
-- all that was sealed before the match
pub same_lists : (r c : Receipt) → ListIsShown r.kind r.has_list r.list → ListIsShown c.kind c.has_list c.list → lists_fault r ≡ None
    → lists_fault c ≡ None → lists_text r ≡ lists_text c → HasListsOf r c
unfolding lists_text
same_lists r c shown shown' none none' e =
    let rows : lists_rows r ≡ lists_rows c =
    sym (rows_read (lists_rows r) (lists_are_rows r none)) ∙ ap split_rows e ∙ rows_read (lists_rows c) (lists_are_rows c none') in
    let first = first_cells r.kind c.kind r c rows in
    let whole : receipt_rows [] None r ≡ receipt_rows [] None (moved r c) =
    ap (λ (kind : Kind). rows_with r kind r.name (lists_rows r)) first.0 ∙ ap (λ (name : List ℕ). rows_with r c.kind name (lists_rows r)) first.1
    ∙ ap (rows_with r c.kind c.name) (rows ∙ sym (moved_rows c.kind r c)) in
    let told : kept_of r.kind None r ≡ kept_of c.kind None (moved r c) =
    sym (read_is [] None r shown) ∙ ap read whole ∙ read_is [] None (moved r c) shown' in
    let quota = ap (λ (x : Receipt). x.quota) told in
    record {
      kind = first.0;
      name = first.1;
      quota = λ k. rw (first.0, k) at quota;
      list = ap (λ (x : Receipt). x.list) told;
      gone = ap (λ (x : Receipt). x.gone) told;
    }
