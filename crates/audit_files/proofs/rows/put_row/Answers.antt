use Rattle.std.proofs.lemmas.Result.{on_ok_weaker}
use Rattle.audit_files.proofs.GrowFacts.{grows_four}
use Rattle.audit_files.proofs.rows.put_row.Goals as goal

pub returns : goal.returns
returns c =
    on_ok_weaker c.put-4.result (λ h. grows_four c.args.text.now c.put.new.text c.put-2.new.text c.put-3.new.text c.put-4.new.text _ _ _ _ c.in_ok-put.ensures c.in_ok-put-2.ensures c.in_ok-put-3.ensures h) c.put-4.ensures
