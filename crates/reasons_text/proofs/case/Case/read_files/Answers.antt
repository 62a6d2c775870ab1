use Rattle.std.proofs.Common.{inl, inr, refl}
use Rattle.reasons_text.proofs.case.Case.read_files.Goals as goal

pub of_docket-requires : goal.of_docket-requires
of_docket-requires g c = record { limits = c.args.limits; read = c.in-Ok.ensures.read.read }

pub returns-in-Ok-of_docket-clause-read : goal.returns-in-Ok-of_docket-clause-read
returns-in-Ok-of_docket-clause-read g c = let h = c.in-Ok-of_docket.ensures.parts in rw (h.0, h.1) c.in-Ok.ensures.read

pub returns-in-Err-NoSheet-clause-fault : goal.returns-in-Err-NoSheet-clause-fault
returns-in-Err-NoSheet-clause-fault g c =
    let none = rw c.in-Err-NoSheet.field-0-is at c.in-Err-NoSheet.ensures.fault in
    inr (inr (refl, record { contents = _; written = _; read = c.in-Ok.ensures.read; none = none }))

pub returns-clause-fault : goal.returns-clause-fault
returns-clause-fault g c = inr (inl (record { first = c.in-Err.file_fault; is_first = c.in-Err.ensures.fault; is_told = c.in_its_file.ensures }))
