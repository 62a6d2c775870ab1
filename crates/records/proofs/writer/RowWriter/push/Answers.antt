use Rattle.std.proofs.Common.{◌<◌, ◌≤◌, [], length, map, sym, arith, take_all}
use Rattle.std.proofs.lemmas.List.{get_or-map, length-map}
use Rattle.std.proofs.lemmas.Result.{on_ok_weaker}
use Rattle.records.proofs.RowTextFacts.{fields_next, row_whole}
use Rattle.records.proofs.writer.RowWriter.push.Goals as goal

pub loop-i-preserved : goal.loop-i-preserved
loop-i-preserved g c =
    let all = map (λ f. f.now) c.args.fields.now in
    let lt : c.loop-i.i < length all = omega (arith, c.loop-i-test.true, length-map c.args.fields.now (λ f. f.now)) in
    fields_next g.W.Write.contents c.args.self.now c.loop-i.self c.put_comma.new.self c.put_field.new.self all _ c.loop-i.i lt c.loop-i.invariant c.in_ok-put_comma.ensures c.in_ok-put_field.ensures
    (sym (get_or-map (λ f. f.now) c.args.fields.now c.loop-i.i _ [] c.loop-i-test.true))

pub returns : goal.returns
returns g c =
    let all = map (λ f. f.now) c.args.fields.now in
    let past : length all ≤ c.loop-i.i = omega (arith, c.loop-i-test.false, length-map c.args.fields.now (λ f. f.now)) in
    on_ok_weaker c.put_end.result (λ h. row_whole g.W.Write.contents c.args.self.now c.loop-i.self c.put_end.new.self all (rw (take_all c.loop-i.i all past) at c.loop-i.invariant) h) c.put_end.ensures
