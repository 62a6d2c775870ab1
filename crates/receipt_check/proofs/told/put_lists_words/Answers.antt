use Rattle.std.proofs.lemmas.Result.{on_ok_weaker}
use Rattle.receipt_check.proofs.Steps.{grows_three}
use Rattle.receipt_check.proofs.told.put_lists_words.Goals as goal

pub returns-in_ok-put-in-Programme-2 : goal.returns-in_ok-put-in-Programme-2
returns-in_ok-put-in-Programme-2 c =
    on_ok_weaker c.put-in-Programme-2.result (λ h. rw c.in-Programme.is (grows_three c.args.sentences.now c.put.new.text c.put-in-Programme.new.text c.put-in-Programme-2.new.text _ _ _
    c.in_ok-put-in-Programme.ensures c.in_ok-put-in-Programme-2.ensures h)) c.put-in-Programme-2.ensures
