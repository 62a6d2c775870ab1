use Rattle.std.proofs.Common.{◌≤◌, ◌∙◌, length, arith, take_all}
use Rattle.csv.specs.Records.{fields_of}
use Rattle.std.proofs.lemmas.Result.{on_ok_weaker}
use Rattle.records.specs.Lines.{line}
use Rattle.records.proofs.LineFacts.{field_is, fields_next, grows_both}
use Rattle.records.proofs.lines.put_line.Goals as goal

pub loop-i-preserved : goal.loop-i-preserved
loop-i-preserved c =
    fields_next c.args.text.now c.loop-i.text c.put_comma.new.text c.put_field.new.text (fields_of c.args.row.now) _ c.loop-i.i (omega (arith, c.loop-i-test.true, c.len-i-end.ensures)) c.loop-i.invariant c.in_ok-put_comma.ensures c.in_ok-put_field.ensures (c.field.ensures ∙ field_is (fields_of c.args.row.now) c.loop-i.i)

pub returns : goal.returns
unfolding line
returns c =
    let past : length (fields_of c.args.row.now) ≤ c.loop-i.i = omega (arith, c.loop-i-test.false, c.len-i-end.ensures) in
    on_ok_weaker c.put.result (λ h. grows_both c.args.text.now c.loop-i.text c.put.new.text _ _ (rw (take_all c.loop-i.i (fields_of c.args.row.now) past) at c.loop-i.invariant) h) c.put.ensures
