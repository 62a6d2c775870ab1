use Rattle.std.proofs.Common.{◌∙◌}
use Rattle.records.proofs.LineFacts.{grows_none}
use Rattle.seal_text.specs.Grown.{lists_in, results_in}
use Rattle.seal_text.specs.Sealed.{resident_receipt}
use Rattle.seal_text.proofs.Steps.{grows_next}
use Rattle.seal_text.proofs.receipts.Trees.put_residents.Goals as goal

pub loop-r-init : goal.loop-r-init
loop-r-init c = grows_none c.args.rows_text.now

pub loop-r-preserved : goal.loop-r-preserved
loop-r-preserved c =
    let self = c.args.self.now in
    let name = c.as_bytes-name.ensures.value ∙ c.resident_name.ensures in
    let first = rw c.instance.ensures.instance at c.programmes-programme_count.ensures.count in
    grows_next (resident_receipt c.args.secret.now c.args.docket.now (lists_in self) (results_in self)) c.args.rows_text.now c.loop-r.rows_text c.put_receipt.new.rows_text c.loop-r.r c.loop-r.invariant
    (rw (name, first) at c.in_ok-put_receipt.ensures)
