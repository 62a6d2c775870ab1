use Rattle.std.proofs.Common.{◌∷◌, [], arith}
use Rattle.std.proofs.lemmas.List.{length-map}
use Rattle.receipt_check.specs.Shown.{fields_in}
use Rattle.receipt_check.proofs.Steps.{grows_none, grows_both, grows_at, grown_all}
use Rattle.receipt_check.proofs.print.put_more_fields.Goals as goal

pub loop-k-init : goal.loop-k-init
loop-k-init c = grows_none c.args.rows_text.now

pub loop-k-preserved : goal.loop-k-preserved
loop-k-preserved c =
    grows_at (λ field. 44 ∷ field) c.args.rows_text.now c.loop-k.rows_text c.put-in-loop-k.new.text (fields_in c.args.fields.now) c.loop-k.k []
    (omega (arith, c.loop-k-test.true, length-map c.args.fields.now (λ f. f.now))) c.loop-k.invariant
    (rw c.field.ensures at (grows_both c.loop-k.rows_text c.put.new.text c.put-in-loop-k.new.text (44 ∷ []) c.field.result.now c.in_ok-put.ensures c.in_ok-put-2.ensures))

pub returns : goal.returns
returns c =
    grown_all (λ field. 44 ∷ field) c.args.rows_text.now c.loop-k.rows_text (fields_in c.args.fields.now) c.loop-k.k
    (omega (arith, c.loop-k-test.false, length-map c.args.fields.now (λ f. f.now))) c.loop-k.invariant
