use Rattle.std.proofs.Common.{◌≡◌, true, false, ap, sym, ◌∙◌}
use Rattle.std.specs.Prelude.{bytes_eq, codes}
use Rattle.std.proofs.lemmas.Result.{on_ok_weaker}
use Rattle.receipt_check.specs.Rows.{Grows, text_at}
use Rattle.receipt_check.specs.Told.{rank_text}
use Rattle.receipt_check.specs.Shown.{fields_in}
use Rattle.receipt_check.proofs.Steps.{grows_both, grows_four}
use Rattle.receipt_check.proofs.pair_words.put_full_places.Goals as goal

pub returns-then-is-2 : goal.returns-then-is-2
returns-then-is-2 c =
    let quota = text_at (fields_in c.args.answer.now) 3 in
    let zero : bytes_eq quota (codes "0") ≡ false = ap (λ q. bytes_eq q (codes "0")) (sym c.field-quota.ensures) ∙ sym c.is.ensures ∙ c.if-is.false in
    let one : bytes_eq quota (codes "1") ≡ true = ap (λ q. bytes_eq q (codes "1")) (sym c.field-quota.ensures) ∙ sym c.is-2.ensures ∙ c.if-is-2.true in
    on_ok_weaker c.put_rank.result (λ (h : Grows c.put-then-is-2.new.text c.put_rank.new.sentences (rank_text c.field.result.now)). rw (zero, one) (grows_both c.args.sentence.now c.put-then-is-2.new.text c.put_rank.new.sentences _ _ c.in_ok-put.ensures (rw c.field.ensures at h))) c.put_rank.ensures

pub returns : goal.returns
returns c =
    let quota = text_at (fields_in c.args.answer.now) 3 in
    let zero : bytes_eq quota (codes "0") ≡ false = ap (λ q. bytes_eq q (codes "0")) (sym c.field-quota.ensures) ∙ sym c.is.ensures ∙ c.if-is.false in
    let one : bytes_eq quota (codes "1") ≡ false = ap (λ q. bytes_eq q (codes "1")) (sym c.field-quota.ensures) ∙ sym c.is-2.ensures ∙ c.if-is-2.false in
    on_ok_weaker c.put_rank-2.result (λ (h : Grows c.put-4.new.text c.put_rank-2.new.sentences (rank_text c.field-2.result.now)). rw (zero, one) (grows_four c.args.sentence.now c.put-2.new.text c.put-3.new.text c.put-4.new.text c.put_rank-2.new.sentences _ _ _ _
    c.in_ok-put-2.ensures (rw c.field-quota.ensures at c.in_ok-put-3.ensures) c.in_ok-put-4.ensures (rw c.field-2.ensures at h))) c.put_rank-2.ensures
