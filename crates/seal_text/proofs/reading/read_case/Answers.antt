use Rattle.std.proofs.Common.{inl, inr, refl}
use Rattle.seal_text.proofs.ReadingFacts.{case_read, no_memory}
use Rattle.seal_text.proofs.reading.read_case.Goals as goal

pub of_docket-requires : goal.of_docket-requires
of_docket-requires g c = record { limits = _; read = c.in-Ok.ensures.read.read }

pub returns-in-Ok-of_docket-clause-case : goal.returns-in-Ok-of_docket-clause-case
returns-in-Ok-of_docket-clause-case g c =
    let parts = c.in-Ok-of_docket.ensures.parts in
    case_read _ _ _ _ _ c.in-Ok.ensures.read parts.0 parts.1 c.in-Ok-of_docket.ensures.sheet

pub returns-in-Err-clause-fault : goal.returns-in-Err-clause-fault
returns-in-Err-clause-fault g c = inl c.in-Err.ensures.fault

pub returns-in-Err-NoSheet-clause-fault : goal.returns-in-Err-NoSheet-clause-fault
returns-in-Err-NoSheet-clause-fault g c =
    let none = rw c.in-Err-NoSheet.field-0-is at c.in-Err-NoSheet.ensures.fault in
    inr (refl, record { d = _; read = c.in-Ok.ensures.read.docket_is; none = none })

pub returns-clause-fault : goal.returns-clause-fault
returns-clause-fault g c = no_memory c.args.docket.now c.args.sheet.now
