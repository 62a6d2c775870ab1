use Rattle.std.proofs.Common.{◌≤◌, length, arith}
use Rattle.receipt_check.proofs.TextFacts.{unlike_cut, unlike_more}
use Rattle.receipt_check.proofs.shape.first_unlike.Goals as goal

pub returns-then-i-other_text-clause-row : goal.returns-then-i-other_text-clause-row
returns-then-i-other_text-clause-row c =
    unlike_cut c.args.text.now c.args.other_text.now c.loop-i.i c.loop-i.row (omega (arith, c.loop-i-test.true, c.loop-i.auto.i-end))
    (omega (arith, c.if-i-other_text.true)) c.loop-i.invariant.1

pub returns-then-other_text-text-clause-row : goal.returns-then-other_text-text-clause-row
returns-then-other_text-text-clause-row c =
    let past : length c.args.text.now ≤ c.loop-i.i = omega (arith, c.loop-i-test.false, c.loop-i.auto.i-end) in
    unlike_more c.args.text.now c.args.other_text.now c.loop-i.i c.loop-i.row past (omega (arith, c.if-other_text-text.true, c.loop-i-test.false, c.loop-i.auto.i-end)) c.loop-i.invariant.1
