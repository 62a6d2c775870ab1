use Rattle.seal_text.proofs.reading.read_lists.Goals as goal

pub returns-in-Err-clause-fault : goal.returns-in-Err-clause-fault
returns-in-Err-clause-fault g c = record { first = c.in-Err.file_fault; is_first = c.in-Err.ensures.fault; is_told = c.files_fault.ensures }
