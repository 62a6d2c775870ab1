use Rattle.std.proofs.lemmas.Result.{on_ok_weaker}
use Rattle.audit_files.proofs.GrowFacts.{grows_six}
use Rattle.audit_files.proofs.rows.put_long_row.Goals as goal

pub returns : goal.returns
returns c =
    on_ok_weaker c.put-6.result (λ h. grows_six c.args.text.now c.put.new.text c.put-2.new.text c.put-3.new.text c.put-4.new.text c.put-5.new.text c.put-6.new.text _ _ _ _ _ _ c.in_ok-put.ensures c.in_ok-put-2.ensures c.in_ok-put-3.ensures c.in_ok-put-4.ensures c.in_ok-put-5.ensures h) c.put-6.ensures
