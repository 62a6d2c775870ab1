use Rattle.std.proofs.Common.{[], arith}
use Rattle.std.proofs.lemmas.List.{length-map}
use Rattle.receipt_check.specs.Rows.{text_at, line}
use Rattle.receipt_check.specs.Receipt.{member_row}
use Rattle.receipt_check.specs.Shown.{rows_in, fields_in}
use Rattle.receipt_check.proofs.Steps.{grows_none, grows_at, grown_all, member_lines}
use Rattle.receipt_check.proofs.print.put_members.Goals as goal

pub loop-k-init : goal.loop-k-init
loop-k-init c = grows_none c.args.rows_text.now

pub loop-k-preserved : goal.loop-k-preserved
loop-k-preserved c =
    let shown = c.args.contents.now in
    grows_at (λ row. line (member_row shown.name.now (text_at row 1))) c.args.rows_text.now c.loop-k.rows_text c.put_row.new.rows_text (rows_in shown.detail_rows.now) c.loop-k.k []
    (omega (arith, c.loop-k-test.true, length-map shown.detail_rows.now (λ row. fields_in row.items))) c.loop-k.invariant
    (rw c.cell.ensures at c.in_ok-put_row.ensures)

pub returns : goal.returns
returns c =
    let shown = c.args.contents.now in
    let all = grown_all (λ row. line (member_row shown.name.now (text_at row 1))) c.args.rows_text.now c.loop-k.rows_text (rows_in shown.detail_rows.now) c.loop-k.k
    (omega (arith, c.loop-k-test.false, length-map shown.detail_rows.now (λ row. fields_in row.items))) c.loop-k.invariant in
    rw (member_lines shown.name.now (rows_in shown.detail_rows.now)) all
