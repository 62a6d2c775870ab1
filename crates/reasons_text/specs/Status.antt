-- The exit status of the program.
use Rattle.std.specs.Prelude.{ℕ, Result, Ok, Err}
use Rattle.program_shell.specs.Status.{docket_status_of, records_status_of}
use Rattle.reasons_text.specs.declared.fault.WhyFault.{WhyFault}
use Rattle.reasons_text.specs.declared.real_names.NamesFault.{NamesFault}
use Rattle.reasons_text.specs.declared.real_names.NamesFault.TheVariants.{Key, Hidden, Long}
use Rattle.reasons_text.specs.declared.fault.WhyFault.TheVariants.{Docket, Reading, NoSheet, BadKey, DoubledKey, NoResident, NoProgramme, ManyResidents, ManyProgrammes, Records, EmptySheet}

-- The status for a fault. A docket's fault has its own status. It is 3 for a bad row of the key, a missing sheet, or a
-- name that does not mean exactly one member.
abbrev pub fault_status_of : WhyFault → ℕ
fault_status_of (Docket fault) = docket_status_of fault
fault_status_of (Reading fault) = records_status_of fault
fault_status_of NoSheet = 3
fault_status_of (BadKey place) = 3
fault_status_of (DoubledKey place) = 3
fault_status_of (NoResident told) = 3
fault_status_of (NoProgramme told) = 3
fault_status_of (ManyResidents told) = 3
fault_status_of (ManyProgrammes told) = 3
fault_status_of (Records file fault) = records_status_of fault
fault_status_of EmptySheet = 3

-- the status after a key that gives no names to seal
abbrev pub names_status_of : NamesFault → ℕ
names_status_of (Key fault) = fault_status_of fault
names_status_of (Hidden place) = 3
names_status_of (Long place) = 3

-- the status for the outcome: 0 for an answer, else the status of the fault
abbrev pub exit_status_of : {A : Type 0} → Result A WhyFault → ℕ
exit_status_of (Ok answered) = 0
exit_status_of (Err fault) = fault_status_of fault
