use Rattle.std.proofs.lemmas.Result.{on_ok_weaker}
use Rattle.seal_text.proofs.ReceiptFacts.{grows_six}
use Rattle.seal_text.proofs.grown.put_opening.Goals as goal

pub returns : goal.returns
returns c =
    on_ok_weaker c.put_path.result (λ h. grows_six c.args.rows_text.now c.put.new.text c.put_word.new.rows_text c.put-2.new.text c.put_number.new.text c.put_digest.new.text c.put_path.new.rows_text _ _ _ _ _ _
    c.in_ok-put.ensures c.in_ok-put_word.ensures c.in_ok-put-2.ensures c.in_ok-put_number.ensures c.in_ok-put_digest.ensures h) c.put_path.ensures
