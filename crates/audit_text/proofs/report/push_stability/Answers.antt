use Rattle.std.proofs.Common.{refl}
use Rattle.std.proofs.lemmas.Result.{on_ok_weaker}
use Rattle.audit_text.proofs.Reports.{stability_row-stable, stability_row-unstable}
use Rattle.audit_text.proofs.report.push_stability.Goals as goal

pub returns-then-is_stable : goal.returns-then-is_stable
returns-then-is_stable g c =
    let nothing = c.if-is_stable.ensures.nothing_found.0 refl in
    on_ok_weaker c.push.result (λ h. rw (stability_row-stable c.args.report.now nothing) h) c.push.ensures

pub returns-else-is_stable : goal.returns-else-is_stable
returns-else-is_stable g c =
    on_ok_weaker c.push-else-is_stable.result
    (λ h. rw (stability_row-unstable c.args.report.now (λ k. cc (c.if-is_stable.ensures.nothing_found.1 k))) h)
    c.push-else-is_stable.ensures
