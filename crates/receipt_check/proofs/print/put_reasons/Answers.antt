use Rattle.std.proofs.Common.{◌≡◌, length, arith}
use Rattle.std.specs.List.{range_with_len}
use Rattle.receipt_check.specs.Rows.{line}
use Rattle.receipt_check.specs.Receipt.{reason_row}
use Rattle.receipt_check.specs.Shown.{content}
use Rattle.receipt_check.proofs.Steps.{grows_none, grows_next, lines_map}
use Rattle.receipt_check.proofs.print.put_reasons.Goals as goal

pub loop-k-init : goal.loop-k-init
loop-k-init c = grows_none c.args.rows_text.now

pub loop-k-preserved : goal.loop-k-preserved
loop-k-preserved c =
    grows_next (λ k. line (reason_row (content c.args.contents.now) k)) c.args.rows_text.now c.loop-k.rows_text c.put_reason.new.rows_text c.loop-k.k c.loop-k.invariant c.in_ok-put_reason.ensures

pub returns : goal.returns
returns c =
    let end : c.loop-k.k ≡ length c.args.contents.now.list.now = omega (arith, c.loop-k-test.false, c.loop-k.auto.k-end) in
    rw (lines_map (reason_row (content c.args.contents.now)) (range_with_len 0 (length c.args.contents.now.list.now))) (rw end at c.loop-k.invariant)
