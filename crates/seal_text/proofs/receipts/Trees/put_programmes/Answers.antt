use Rattle.std.proofs.Common.{◌∙◌}
use Rattle.records.proofs.LineFacts.{grows_none}
use Rattle.seal_text.specs.Grown.{lists_in, results_in}
use Rattle.seal_text.specs.Sealed.{programme_receipt}
use Rattle.seal_text.proofs.Steps.{grows_next}
use Rattle.seal_text.proofs.receipts.Trees.put_programmes.Goals as goal

pub loop-p-init : goal.loop-p-init
loop-p-init c = grows_none c.args.rows_text.now

pub loop-p-preserved : goal.loop-p-preserved
loop-p-preserved c =
    let self = c.args.self.now in
    let name = c.as_bytes-name.ensures.value ∙ c.programme_name.ensures in
    grows_next (programme_receipt c.args.secret.now c.args.docket.now (lists_in self) (results_in self)) c.args.rows_text.now c.loop-p.rows_text c.put_receipt.new.rows_text c.loop-p.p c.loop-p.invariant
    (rw name at c.in_ok-put_receipt.ensures)
