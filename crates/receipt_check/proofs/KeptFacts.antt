-- The content that is read back from a receipt's rows has the same faults as the receipt's content.
use Rattle.std.proofs.Common.{◌≡◌, ℕ, zero, suc, ◌<◌, List, Option, Some, None, length, map, refl, sym, ap, ◌∙◌, arith}
use Rattle.std.proofs.lemmas.List.{length-map}
use Rattle.docket_names.specs.Texts.{number_in}
use Rattle.receipt_check.specs.Rows.{text_at, lines}
use Rattle.receipt_check.specs.Receipt.{Receipt, lists_rows_of, lists_text, member_row, members, result_rows_of, result_text}
use Rattle.receipt_check.specs.Faults.{first_in, lists_fault, openings_at, openings_fault, plain_number, programme_fault, resident_fault, reason_at, result_fault, result_fault_of, value_fault, wrong_reason}
use Rattle.receipt_check.specs.declared.kind.Kind.{Kind}
use Rattle.receipt_check.specs.declared.kind.Kind.TheVariants.{Programme, Resident}
use Rattle.receipt_check.proofs.ShownFacts.{answer_kept, kept_of, lists_rows_kept, members_kept, result_rows_kept}

first_same : {X : Type 0} (f g : ℕ → Option X) (n : ℕ) → ((k : ℕ) → k < n → f k ≡ g k) → first_in f n ≡ first_in g n
first_same f g zero h = refl
first_same f g (suc n) h =
    let last : f n ≡ g n = h n (omega arith) in
    rw (first_same f g n (λ k l. h k (omega (arith, l))), last) refl

lists_text_kept : (result_root : Option (List ℕ)) (kind : Kind) (r : Receipt) → r.kind ≡ kind → lists_text (kept_of kind result_root r) ≡ lists_text r
unfolding lists_text
lists_text_kept result_root kind r e = ap lines (lists_rows_kept result_root kind r e ∙ ap (λ k. lists_rows_of k r) (sym e))

result_text_kept : (root : List ℕ) (kind : Kind) (r : Receipt) → r.kind ≡ kind → result_text (kept_of kind (Some root) r) ≡ result_text r
unfolding result_text
result_text_kept root kind r e = ap lines (result_rows_kept root kind r ∙ ap (λ k. result_rows_of k r) (sym e))

-- the openings in the content that is read back have the same fault, whichever count and place they
-- are checked with
openings_at_kept : (lists_root : List ℕ) (result_root : Option (List ℕ)) (kind : Kind) (r : Receipt) (count index : Option ℕ) → r.kind ≡ kind
    → openings_at lists_root result_root (kept_of kind result_root r) count index ≡ openings_at lists_root result_root r count index
openings_at_kept lists_root result_root kind r None index e = refl
openings_at_kept lists_root result_root kind r (Some count) None e = refl
openings_at_kept lists_root None kind r (Some count) (Some index) e = rw (lists_text_kept None kind r e) refl
openings_at_kept lists_root (Some root) kind r (Some count) (Some index) e = rw (lists_text_kept (Some root) kind r e, result_text_kept root kind r e) refl

openings_kept : (lists_root : List ℕ) (result_root : Option (List ℕ)) (kind : Kind) (r : Receipt) → r.kind ≡ kind
    → openings_fault lists_root result_root (kept_of kind result_root r) ≡ openings_fault lists_root result_root r
unfolding openings_fault
openings_kept lists_root result_root kind r e = openings_at_kept lists_root result_root kind r (plain_number r.count) (plain_number r.index) e

lists_kept : (result_root : Option (List ℕ)) (kind : Kind) (r : Receipt) → r.kind ≡ kind → lists_fault (kept_of kind result_root r) ≡ lists_fault r
lists_kept result_root Programme r e = rw e refl
lists_kept result_root Resident r e = rw e refl

reasons_kept : (root : List ℕ) (r : Receipt) (own : Option ℕ) → wrong_reason (kept_of Resident (Some root) r) own ≡ wrong_reason r own
unfolding wrong_reason
reasons_kept root r own =
    first_same (reason_at (kept_of Resident (Some root) r) own) (reason_at r own) (length r.list)
    (λ k l. (let same = answer_kept r k l in rw same refl))

programme_kept : (root : List ℕ) (r : Receipt) (quota : Option ℕ) → programme_fault (kept_of Programme (Some root) r) quota ≡ programme_fault r quota
programme_kept root r None = refl
programme_kept root r (Some quota) =
    let many : length (map (member_row r.name) (members r)) ≡ length r.after = length-map (members r) (member_row r.name) ∙ length-map r.after (λ row. text_at row 1) in
    rw (many, members_kept r.name (members r)) refl

resident_kept : (root : List ℕ) (r : Receipt) (own : Option (List ℕ)) → resident_fault (kept_of Resident (Some root) r) own ≡ resident_fault r own
resident_kept root r None = rw (reasons_kept root r None) refl
resident_kept root r (Some own) = rw (reasons_kept root r (number_in r.list own)) refl

result_kept : (result_root : Option (List ℕ)) (kind : Kind) (r : Receipt) → r.kind ≡ kind
    → result_fault result_root (kept_of kind result_root r) ≡ result_fault result_root r
result_kept None kind r e = refl
result_kept (Some root) Programme r e = programme_kept root r (plain_number r.quota) ∙ ap (λ k. result_fault_of k r) (sym e)
result_kept (Some root) Resident r e = resident_kept root r r.own ∙ ap (λ k. result_fault_of k r) (sym e)

pub value_kept : (lists_root : List ℕ) (result_root : Option (List ℕ)) (kind : Kind) (r : Receipt) → r.kind ≡ kind
    → value_fault lists_root result_root (kept_of kind result_root r) ≡ value_fault lists_root result_root r
unfolding value_fault
value_kept lists_root result_root kind r e =
    rw (openings_kept lists_root result_root kind r e, lists_kept result_root kind r e, result_kept result_root kind r e) refl
