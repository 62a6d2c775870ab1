use Rattle.std.proofs.lemmas.Result.{on_ok_weaker}
use Rattle.audit_text.proofs.Reports.{report_text-rows}
use Rattle.audit_text.proofs.report.push_report.Goals as goal

pub returns : goal.returns
returns g c =
    on_ok_weaker c.push_pairs-2.result
    (λ h. report_text-rows g.W.Write.contents c.args.docket.now c.args.report.now c.args.rows.now c.push_stability.new.rows c.push_pairs.new.rows
    c.push_over_quota.new.rows c.push_pairs-2.new.rows c.in_ok-push_stability.ensures
    (rw c.as_slice.ensures.value at c.in_ok-push_pairs.ensures)
    (rw c.as_slice-2.ensures.value at c.in_ok-push_over_quota.ensures)
    (rw c.as_slice-3.ensures.value at h))
    c.push_pairs-2.ensures
