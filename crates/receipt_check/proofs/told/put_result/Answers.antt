use Rattle.std.proofs.lemmas.List.{length-map}
use Rattle.std.proofs.lemmas.Result.{on_ok_weaker}
use Rattle.receipt_check.specs.Shown.{fields_in}
use Rattle.receipt_check.specs.Told.{told_result}
use Rattle.receipt_check.proofs.Steps.{grows_both, grows_four}
use Rattle.receipt_check.proofs.told.put_result.Goals as goal

pub returns-in_ok-put_members-in-Programme : goal.returns-in_ok-put_members-in-Programme
unfolding told_result
returns-in_ok-put_members-in-Programme c =
    on_ok_weaker c.put_stop.result (λ h. rw (c.in-Programme.is, length-map c.args.contents.now.detail_rows.now (λ row. fields_in row.items))
    (grows_both c.args.sentences.now c.put.new.text c.put_stop.new.sentences _ _ c.in_ok-put-in-Programme.ensures
    (grows_four c.put.new.text c.put_number.new.text c.put-in-Programme.new.text c.put_members.new.sentences c.put_stop.new.sentences _ _ _ _
    c.in_ok-put_number-in-Programme.ensures c.in_ok-put-in-Programme-2.ensures c.in_ok-put_members-in-Programme.ensures h))) c.put_stop.ensures
