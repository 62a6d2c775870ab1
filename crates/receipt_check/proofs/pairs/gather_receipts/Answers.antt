use denote.Ref.{Bor}
use Rattle.std.proofs.Common.{◌≡◌, ◌<◌, ◌≤◌, ◌++◌, ◌∷◌, [], ℕ, List, Option, Some, None, Bool, false, true, length, map, take, take_all, get_or, refl, sym, ap, ap₂, ◌∙◌, arith, if◌then◌else◌}
use Rattle.std.specs.Global.{Vec}
use Rattle.std.proofs.lemmas.List.{get_or-map, length-map, take_more}
use Rattle.receipt_check.specs.Faults.{first_in, first_of}
use Rattle.receipt_check.specs.Folder.{contents_of, file_fault, folder_fault, is_again, receipt_at}
use Rattle.receipt_check.specs.Held.{bytes_in}
use Rattle.receipt_check.specs.Pair.{compared_fault, content_of, in_file, short_text}
use Rattle.receipt_check.specs.Receipt.{Receipt}
use Rattle.receipt_check.specs.Rows.{split_rows}
use Rattle.receipt_check.specs.Shown.{rows_in}
use Rattle.receipt_check.specs.declared.wrong.Fault.{Fault}
use Rattle.receipt_check.proofs.Firsts.{first_here, first_next}
use Rattle.receipt_check.proofs.FolderFacts.{at_both, fault_next}
use Rattle.receipt_check.proofs.Steps.{there}
use Rattle.receipt_check.proofs.pairs.gather_receipts.Goals as goal

pub loop-k-init : goal.loop-k-init
loop-k-init c = (refl, c.new-receipts.ensures.none, c.new-receipts.ensures.held)

pub checked_receipt-requires-clause-text : goal.checked_receipt-requires-clause-text
checked_receipt-requires-clause-text c =
    c.as_slice-text.ensures.value
    ∙ at_both (λ (v : Vec ℕ). v.items) (λ (v : Vec ℕ). v.items) short_text c.args.receipt_files.now c.args.receipt_texts.now c.loop-k.k c.index-receipt_files-k.result c.index-receipt_texts-k.result
    c.requires.texts c.loop-k-test.true c.index-receipt_files-k.is c.index-receipt_texts-k.is
    ∙ ap short_text (sym c.as_slice-file.ensures.value)

pub checked_receipt-requires-clause-rows : goal.checked_receipt-requires-clause-rows
checked_receipt-requires-clause-rows c =
    let within : c.loop-k.k < length c.args.receipt_texts.now =
    omega (arith, c.loop-k-test.true, ap length c.requires.texts, length-map (bytes_in c.args.receipt_files.now) short_text, length-map c.args.receipt_files.now (λ (v : Vec ℕ). v.items), length-map c.args.receipt_texts.now (λ (v : Vec ℕ). v.items)) in
    ap rows_in c.as_slice-rows.ensures.value
    ∙ at_both (λ (v : Vec ℕ). v.items) (λ (v : Vec (Vec (Bor (List ℕ)))). rows_in v.items) split_rows c.args.receipt_texts.now c.args.rows.now c.loop-k.k c.index-receipt_texts-k.result c.index-rows-k.result
    c.requires.rows within c.index-receipt_texts-k.is c.index-rows-k.is
    ∙ ap split_rows (sym c.as_slice-text.ensures.value)

pub returns-in-Err : goal.returns-in-Err
unfolding folder_fault
returns-in-Err c =
    let files = bytes_in c.args.receipt_files.now in
    let k = c.loop-k.k in
    let within : k < length files = omega (arith, c.loop-k-test.true, length-map c.args.receipt_files.now (λ (v : Vec ℕ). v.items)) in
    let file = there (λ (v : Vec ℕ). v.items) c.args.receipt_files.now k c.index-receipt_files-k.result [] c.loop-k-test.true c.index-receipt_files-k.is ∙ sym c.as_slice-file.ensures.value in
    let wrong = rw c.in-Err.is at c.in_ok-receipt.ensures in
    first_here (λ j. in_file j (file_fault c.args.published_lists.now c.args.published_result.now files j)) k (length files) (k, c.in-Err.fault) within c.loop-k.invariant.0 (rw (file, wrong) refl)

pub has-requires : goal.has-requires
has-requires c = c.loop-k.invariant.2

pub returns-then-has : goal.returns-then-has
unfolding folder_fault
returns-then-has c =
    let files = bytes_in c.args.receipt_files.now in
    let k = c.loop-k.k in
    let within : k < length files = omega (arith, c.loop-k-test.true, length-map c.args.receipt_files.now (λ (v : Vec ℕ). v.items)) in
    let file = there (λ (v : Vec ℕ). v.items) c.args.receipt_files.now k c.index-receipt_files-k.result [] c.loop-k-test.true c.index-receipt_files-k.is ∙ sym c.as_slice-file.ensures.value in
    let good = rw c.in-Ok.is at c.in_ok-receipt.ensures in
    let again = sym c.if-has.true ∙ c.has.ensures ∙ ap₂ is_again c.loop-k.invariant.1 (good.1 ∙ ap content_of (sym file)) in
    let fault = fault_next c.args.published_lists.now c.args.published_result.now files k true within (rw file good.0) again in
    first_here (λ j. in_file j (file_fault c.args.published_lists.now c.args.published_result.now files j)) k (length files) (k, c.row_fault.result) within c.loop-k.invariant.0
    (rw (fault, c.row_fault.ensures) refl)

pub add-requires-clause-held : goal.add-requires-clause-held
add-requires-clause-held c = c.loop-k.invariant.2

pub loop-k-preserved : goal.loop-k-preserved
loop-k-preserved c =
    let files = bytes_in c.args.receipt_files.now in
    let k = c.loop-k.k in
    let within : k < length files = omega (arith, c.loop-k-test.true, length-map c.args.receipt_files.now (λ (v : Vec ℕ). v.items)) in
    let inside : k < length (contents_of files) = omega (arith, within, length-map files content_of) in
    let file = there (λ (v : Vec ℕ). v.items) c.args.receipt_files.now k c.index-receipt_files-k.result [] c.loop-k-test.true c.index-receipt_files-k.is ∙ sym c.as_slice-file.ensures.value in
    let good = rw c.in-Ok.is at c.in_ok-receipt.ensures in
    let content = good.1 ∙ ap content_of (sym file) in
    let again = sym c.if-has.false ∙ c.has.ensures ∙ ap₂ is_again c.loop-k.invariant.1 content in
    let fault = fault_next c.args.published_lists.now c.args.published_result.now files k false within (rw file good.0) again in (
      first_next (λ j. in_file j (file_fault c.args.published_lists.now c.args.published_result.now files j)) k c.loop-k.invariant.0 (rw fault refl),
      c.in_ok-add.ensures.added ∙ ap₂ (λ (rs : List Receipt) (r : Receipt). rs ++ r ∷ []) c.loop-k.invariant.1 (content ∙ sym (get_or-map content_of files k [] (content_of []) within))
          ∙ sym (take_more (contents_of files) k (content_of []) inside),
      c.in_ok-add.ensures.held,
    )

pub returns : goal.returns
unfolding folder_fault
returns c =
    let files = bytes_in c.args.receipt_files.now in
    let count = length-map c.args.receipt_files.now (λ (v : Vec ℕ). v.items) in
    let end : c.loop-k.k ≡ length files = omega (arith, c.loop-k-test.false, c.loop-k.auto.k-end, count) in
    let past : length (contents_of files) ≤ c.loop-k.k = omega (arith, end, length-map files content_of) in
    (rw end at c.loop-k.invariant.0, c.loop-k.invariant.1 ∙ take_all c.loop-k.k (contents_of files) past, c.loop-k.invariant.2)
