use Rattle.std.proofs.Common.{◌≤◌, length, arith, take_all}
use Rattle.std.proofs.lemmas.List.{get_or_default}
use Rattle.std.proofs.lemmas.Result.{on_ok_weaker}
use Rattle.records.proofs.LineFacts.{grows_none, grows_both}
use Rattle.seal_text.specs.Sealed.{digest_field}
use Rattle.seal_text.proofs.Steps.{grows_item}
use Rattle.seal_text.proofs.grown.put_path.Goals as goal

pub loop-k-init : goal.loop-k-init
loop-k-init c = grows_none c.args.rows_text.now

pub loop-k-preserved : goal.loop-k-preserved
loop-k-preserved c =
    grows_item digest_field c.args.rows_text.now c.loop-k.rows_text c.put_digest.new.text c.args.path.now c.loop-k.k _ c.loop-k-test.true (get_or_default c.args.path.now c.loop-k.k _ _ c.loop-k-test.true) c.loop-k.invariant c.in_ok-put_digest.ensures

pub returns : goal.returns
returns c =
    let past : length c.args.path.now ≤ c.loop-k.k = omega (arith, c.loop-k-test.false) in
    on_ok_weaker c.put.result (λ h. grows_both c.args.rows_text.now c.loop-k.rows_text c.put.new.text _ _ (rw (take_all c.loop-k.k c.args.path.now past) at c.loop-k.invariant) h) c.put.ensures
