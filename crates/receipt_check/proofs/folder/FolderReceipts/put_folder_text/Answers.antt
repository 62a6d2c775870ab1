use Rattle.std.proofs.Common.{◌≡◌, ap, sym, ◌∙◌, length}
use Rattle.std.proofs.lemmas.List.{length-map}
use Rattle.receipt_check.specs.Folder.{differing_pairs, pairs_of}
use Rattle.receipt_check.specs.Held.{receipts_of}
use Rattle.receipt_check.specs.Side.{receipt_of}
use Rattle.receipt_check.proofs.Steps.{grows_three}
use Rattle.receipt_check.proofs.folder.FolderReceipts.put_folder_text.Goals as goal

pub returns-clause-text : goal.returns-clause-text
returns-clause-text c =
    let rs = receipts_of c.args.self.now in
    let sides = c.args.self.now.receipts.items in
    let differing : c.as_slice-2.result.now ≡ differing_pairs rs = c.as_slice-2.ensures.value ∙ c.in_ok-differing_pairs.ensures in
    let there : length c.as_slice-present_count.result.now ≡ length rs = ap length c.as_slice-present_count.ensures.value ∙ sym (length-map sides receipt_of) in
    let compared : length c.as_slice-3.result.now ≡ length (pairs_of rs) = ap length (c.as_slice-3.ensures.value ∙ c.in_ok-pairs.ensures) in
    let differ : length c.as_slice-4.result.now ≡ length (differing_pairs rs) = ap length (c.as_slice-4.ensures.value ∙ c.in_ok-differing_pairs.ensures) in
    grows_three c.args.sentences.now c.put_differing_pairs.new.sentences c.put_counts.new.sentences c.put_stable.new.sentences _ _ _
    (rw differing at c.in_ok-put_differing_pairs.ensures) (rw (there, compared, differ) at c.in_ok-put_counts.ensures)
    (rw c.is_stable-stable.ensures at c.in_ok-put_stable.ensures)
