use Rattle.std.proofs.lemmas.Result.{on_ok_weaker}
use Rattle.records.proofs.LineFacts.{grows_both}
use Rattle.seal_text.proofs.receipts.Trees.put_receipts.Goals as goal

pub returns : goal.returns
returns c =
    on_ok_weaker c.put_residents.result (λ h. grows_both c.args.rows_text.now c.put_programmes.new.rows_text c.put_residents.new.rows_text _ _ c.in_ok-put_programmes.ensures h) c.put_residents.ensures
