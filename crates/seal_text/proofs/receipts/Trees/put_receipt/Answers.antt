use Rattle.std.proofs.lemmas.Result.{on_ok_weaker}
use Rattle.seal_text.specs.Grown.{lists_in, results_in}
use Rattle.seal_text.proofs.ReceiptFacts.{receipt_made}
use Rattle.seal_text.proofs.receipts.Trees.put_receipt.Goals as goal

pub returns : goal.returns
returns c =
    let self = c.args.self.now in
    on_ok_weaker c.put_outcome.result (λ h. receipt_made c.args.secret.now c.args.side_letter.now c.args.name.now (lists_in self) (results_in self) c.args.leaf_index
    c.args.rows_text.now c.put_row.new.text c.put_row-2.new.text c.put_part.new.rows_text c.put_outcome.new.rows_text
    c.in_ok-put_row.ensures c.in_ok-put_row-2.ensures (rw c.requires.trees.lists.section_is at c.in_ok-put_part.ensures) h) c.put_outcome.ensures
