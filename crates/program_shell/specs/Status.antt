-- The exit status of a program if a docket is at fault, or if its words give no order.
use Rattle.std.specs.Prelude.{ℕ}
use Rattle.clap.specs.Values.{kind_of}
use Rattle.clap.specs.declared.error.kind.ErrorKind.{ErrorKind}
use Rattle.clap.specs.declared.error.kind.ErrorKind.TheVariants.{DisplayHelp, DisplayVersion}
use Rattle.docket.specs.declared.fault.DocketFault.{DocketFault}
use Rattle.docket.specs.declared.fault.DocketFault.TheVariants as docket
use Rattle.docket.specs.declared.records_fault.RecordsFault.{RecordsFault}
use Rattle.docket.specs.declared.records_fault.RecordsFault.TheVariants as records
use Rattle.program_shell.specs.declared.fault.LineFault.{LineFault}
use Rattle.program_shell.specs.declared.fault.LineFault.TheVariants as line
use Rattle.program_shell.specs.declared.fault.UsageFault.{UsageFault}
use Rattle.program_shell.specs.declared.fault.UsageFault.TheVariants as usage

-- 1 if memory, the reader or the writer failed; 3 if the docket itself is at fault
abbrev pub docket_status_of : DocketFault → ℕ
docket_status_of (docket.Read place) = 1
docket_status_of docket.Memory = 1
docket_status_of docket.Write = 1
docket_status_of (docket.TooManyRecords place) = 3
docket_status_of (docket.UnknownKind place) = 3
docket_status_of (docket.FieldCount place) = 3
docket_status_of (docket.BadName place) = 3
docket_status_of (docket.BadQuota place) = 3
docket_status_of (docket.DeclaredTwice place) = 3
docket_status_of (docket.UnknownName place) = 3
docket_status_of (docket.Model place fault) = 3
docket_status_of (docket.BadEvent place) = 3
docket_status_of (docket.BadSheet place) = 3
docket_status_of (docket.BadVersion place) = 3
docket_status_of (docket.BadWithdrawal place) = 3

-- the status of a fault of records: that of a docket's fault, and 3 if the lists have too many
-- names or a record belongs to another part
abbrev pub records_status_of : RecordsFault → ℕ
records_status_of (records.Docket fault) = docket_status_of fault
records_status_of (records.TooManyListed place) = 3
records_status_of (records.AnotherPart place) = 3

-- 0 if help or the version was asked for; 2 for any other fault in the words
abbrev pub words_status_of : ErrorKind → ℕ
words_status_of DisplayHelp = 0
words_status_of DisplayVersion = 0
words_status_of _ = 2

-- the status after texts that give no order: 1 if memory ran out, that of the parser's error, or 2
abbrev pub line_status_of : LineFault → ℕ
line_status_of line.Memory = 1
line_status_of (line.Line error) = words_status_of (kind_of error)
line_status_of line.BadCapacity = 2
line_status_of line.SecondInput = 2

-- the status after words that give no order: 2 if one of them is no text, else that of the texts'
-- fault
abbrev pub usage_status_of : UsageFault → ℕ
usage_status_of usage.NoText = 2
usage_status_of (usage.Line fault) = line_status_of fault
