use Rattle.std.proofs.lemmas.List.{length-map}
use Rattle.std.proofs.lemmas.Result.{on_ok_weaker}
use Rattle.receipt_check.specs.Shown.{fields_in}
use Rattle.receipt_check.proofs.Steps.{grows_three}
use Rattle.receipt_check.proofs.pair_words.put_filled.Goals as goal

pub returns : goal.returns
returns c =
    on_ok_weaker c.put_pieces-2.result (λ h. rw (length-map c.args.programme.now.contents.detail_rows.now (λ row. fields_in row.items))
    (grows_three c.args.sentence.now c.put_pieces.new.sentence c.put_number.new.text c.put_pieces-2.new.sentence _ _ _
    c.in_ok-put_pieces.ensures c.in_ok-put_number.ensures h)) c.put_pieces-2.ensures
