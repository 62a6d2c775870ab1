use Rattle.std.proofs.lemmas.Result.{on_ok_weaker}
use Rattle.receipt_check.proofs.Steps.{grows_four}
use Rattle.receipt_check.proofs.told.put_reason.Goals as goal

pub returns : goal.returns
returns c =
    on_ok_weaker c.put_stop.result (λ h. grows_four c.args.sentences.now c.put.new.text c.put-2.new.text c.put_answer.new.sentences c.put_stop.new.sentences _ _ _ _
    (rw c.field.ensures at c.in_ok-put.ensures) c.in_ok-put-2.ensures (rw c.answer.ensures at c.in_ok-put_answer.ensures) h) c.put_stop.ensures
