-- The exit status of the program.
use Rattle.std.specs.Prelude.{ℕ, Result, Ok, Err}
use Rattle.program_shell.specs.Status.{records_status_of}
use Rattle.audit_files.specs.declared.fault.FilesFault.{FilesFault}
use Rattle.audit_files.specs.declared.fault.FilesFault.TheVariants.{Docket, NoSheet, NoJournal, Memory, Write}
use Rattle.audit_files.specs.declared.serve.Verdict.{Verdict}
use Rattle.audit_files.specs.declared.serve.Verdict.TheVariants.{Good, Bad}

-- 3 if a file is at fault; 1 if memory, the reader or the writer failed
abbrev pub fault_status_of : FilesFault → ℕ
fault_status_of (Docket file fault) = records_status_of fault
fault_status_of NoSheet = 3
fault_status_of NoJournal = 3
fault_status_of Memory = 1
fault_status_of Write = 1

-- 0 if the verdict is good, 4 if it is bad; without a verdict, the status of the fault
abbrev pub exit_status_of : Result Verdict FilesFault → ℕ
exit_status_of (Ok Good) = 0
exit_status_of (Ok Bad) = 4
exit_status_of (Err fault) = fault_status_of fault
