use Rattle.audit_files.proofs.reading.read_files.Goals as goal

pub returns-in-Err-clause-fault : goal.returns-in-Err-clause-fault
returns-in-Err-clause-fault g c = record { first = c.in-Err.file_fault; is_first = c.in-Err.ensures.fault; is_told = c.files_fault.ensures }
