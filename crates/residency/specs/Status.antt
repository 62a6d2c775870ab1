-- The exit status of the program.
use Rattle.std.specs.Prelude.{ℕ, Result, Ok, Err}
use Rattle.program_shell.specs.Status.{docket_status_of, records_status_of}
use Rattle.residency.specs.declared.fault.ServeFault.{ServeFault}
use Rattle.residency.specs.declared.fault.ServeFault.TheVariants.{Docket, NoSheet, NoJournal, Run, Memory}
use Rattle.residency.specs.declared.fault.LimitsFault.{LimitsFault}
use Rattle.residency.specs.declared.fault.LimitsFault.TheVariants.{Reading, Serving}
use Rattle.residency.specs.declared.status.Status.{Status}
use Rattle.residency.specs.declared.status.Status.TheVariants.{Closed, Stable, Unstable, ReplayGood, ReplayBad}

-- 0 for a good answer, 4 for a bad one
abbrev pub status_of : Status → ℕ
status_of Closed = 0
status_of Stable = 0
status_of Unstable = 4
status_of ReplayGood = 0
status_of ReplayBad = 4

-- 1 if memory, the run, the reader or the writer failed; 3 if the docket is at fault or lacks what was asked for
abbrev pub fault_status_of : ServeFault → ℕ
fault_status_of (Docket fault) = docket_status_of fault
fault_status_of NoSheet = 3
fault_status_of NoJournal = 3
fault_status_of (Run fault) = 1
fault_status_of Memory = 1

-- the exit status after a call that gave this answer
abbrev pub exit_status_of : Result Status ServeFault → ℕ
exit_status_of (Ok status) = status_of status
exit_status_of (Err fault) = fault_status_of fault

-- the exit status after a call within limits that gave this answer
abbrev pub exit_status_within_of : Result Status LimitsFault → ℕ
exit_status_within_of (Ok status) = status_of status
exit_status_within_of (Err (Reading fault)) = records_status_of fault
exit_status_within_of (Err (Serving fault)) = fault_status_of fault
