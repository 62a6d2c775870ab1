use Rattle.std.proofs.Common.{◌≡◌, false, sym, ◌∙◌}
use Rattle.std.specs.Prelude.{codes}
use Rattle.std.proofs.lemmas.Result.{on_ok_weaker}
use Rattle.receipt_check.specs.Pair.{says}
use Rattle.receipt_check.specs.Shown.{fields_in}
use Rattle.receipt_check.proofs.Steps.{grows_three}
use Rattle.receipt_check.proofs.pair_words.put_agreement.Goals as goal

pub returns : goal.returns
returns c =
    let fields = fields_in c.args.answer.now in
    let withdrawn : says fields (codes "withdrawn") ≡ false = sym c.says.ensures ∙ c.if-says.false in
    let unranked : says fields (codes "unranked") ≡ false = sym c.says-2.ensures ∙ c.if-says-2.false in
    let matched : says fields (codes "matched") ≡ false = sym c.says-3.ensures ∙ c.if-says-3.false in
    let better : says fields (codes "better") ≡ false = sym c.says-4.ensures ∙ c.if-says-4.false in
    on_ok_weaker c.put_full_places.result (λ h. rw (withdrawn, unranked, matched, better)
    (grows_three c.args.sentence.now c.put_pieces-2.new.sentence c.put_rank.new.sentences c.put_full_places.new.sentence _ _ _
    c.in_ok-put_pieces.ensures (rw c.field.ensures at c.in_ok-put_rank.ensures) h)) c.put_full_places.ensures
