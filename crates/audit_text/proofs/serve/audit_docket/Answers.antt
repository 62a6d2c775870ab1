use Rattle.std.proofs.Common.{true, false, sym}
use Rattle.audit_text.proofs.Audits.{report_of_docket, tells_stable}
use Rattle.audit_text.proofs.serve.audit_docket.Goals as goal

pub write_report-requires : goal.write_report-requires
write_report-requires g c =
    report_of_docket _ c.in-Some.sheet.now _ c.instance.ensures.whole (sym c.in-Some.ensures.sheet)
    (rw c.instance.ensures.instance at c.residents-instance.ensures.instance) c.in_ok-report.ensures.report

pub returns-in-Ok-clause-report : goal.returns-in-Ok-clause-report
returns-in-Ok-clause-report g c =
    let reports = c.in_ok-report.ensures.report in
    record {
      audit = record { sheet = c.in-Some.sheet.now; has_sheet = sym c.in-Some.ensures.sheet; report = c.in_ok-report.report; reports = reports };
      tells = tells_stable _ _ _ true reports c.if-is_stable.ensures.stable;
      appended = c.in-Ok.ensures.ok;
    }

pub returns-in-Ok-2-clause-report : goal.returns-in-Ok-2-clause-report
returns-in-Ok-2-clause-report g c =
    let reports = c.in_ok-report.ensures.report in
    record {
      audit = record { sheet = c.in-Some.sheet.now; has_sheet = sym c.in-Some.ensures.sheet; report = c.in_ok-report.report; reports = reports };
      tells = tells_stable _ _ _ false reports c.if-is_stable.ensures.stable;
      appended = c.in-Ok-2.ensures.ok;
    }

pub returns-clause-fault : goal.returns-clause-fault
returns-clause-fault g c =
    (record { sheet = c.in-Some.sheet.now; has_sheet = sym c.in-Some.ensures.sheet; report = c.in_ok-report.report; reports = c.in_ok-report.ensures.report }, c.in-Err.ensures.fault)
