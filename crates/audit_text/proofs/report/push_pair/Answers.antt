use Rattle.std.proofs.Common.{sym, ◌∙◌}
use Rattle.std.proofs.lemmas.Result.{on_ok_weaker}
use Rattle.audit_text.specs.Report.{pair_row}
use Rattle.audit_text.proofs.report.push_pair.Goals as goal

pub returns : goal.returns
unfolding pair_row
returns g c =
    let resident = sym (c.as_bytes-resident.ensures.value ∙ c.resident_name.ensures) in
    let programme = sym (c.as_bytes-programme.ensures.value ∙ c.programme_name.ensures) in
    on_ok_weaker c.push.result (λ h. rw (resident, programme) h) c.push.ensures
