use Rattle.std.proofs.Common.{◌≡◌, length, arith}
use Rattle.receipt_check.specs.Told.{reason_text}
use Rattle.receipt_check.specs.Shown.{content}
use Rattle.receipt_check.proofs.Steps.{grows_none, grows_next}
use Rattle.receipt_check.proofs.told.put_reasons.Goals as goal

pub loop-k-init : goal.loop-k-init
loop-k-init c = grows_none c.args.sentences.now

pub loop-k-preserved : goal.loop-k-preserved
loop-k-preserved c =
    grows_next (reason_text (content c.args.contents.now)) c.args.sentences.now c.loop-k.sentences c.put_reason.new.sentences c.loop-k.k c.loop-k.invariant c.in_ok-put_reason.ensures

pub returns : goal.returns
returns c =
    let end : c.loop-k.k ≡ length c.args.contents.now.list.now = omega (arith, c.loop-k-test.false, c.loop-k.auto.k-end) in
    rw end at c.loop-k.invariant
