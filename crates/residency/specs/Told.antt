-- The outcome of an audit or a replay as a status or a fault of the program.
use Rattle.audit_text.specs.declared.status.Status.{Status as Told}
use Rattle.audit_text.specs.declared.status.Status.TheVariants as told
use Rattle.audit_text.specs.declared.fault.AnswerFault.{AnswerFault}
use Rattle.audit_text.specs.declared.fault.AnswerFault.TheVariants as answer
use Rattle.residency.specs.declared.status.Status.{Status}
use Rattle.residency.specs.declared.status.Status.TheVariants.{Stable, Unstable, ReplayGood, ReplayBad}
use Rattle.residency.specs.declared.fault.ServeFault.{ServeFault}
use Rattle.residency.specs.declared.fault.ServeFault.TheVariants.{Docket, NoSheet, NoJournal, Memory}

-- the program's status for a `Status` of `audit_text`
abbrev pub status_told : Told → Status
status_told told.Stable = Stable
status_told told.Unstable = Unstable
status_told told.ReplayGood = ReplayGood
status_told told.ReplayBad = ReplayBad

-- the program's fault for a reason why nothing was written
abbrev pub fault_told : AnswerFault → ServeFault
fault_told (answer.Docket fault) = Docket fault
fault_told answer.NoSheet = NoSheet
fault_told answer.NoJournal = NoJournal
fault_told answer.Memory = Memory
