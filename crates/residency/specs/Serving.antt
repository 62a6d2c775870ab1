-- What a call of the program wrote, or its fault.
use Rattle.std.specs.Prelude.{◌≡◌, ◌≢◌, ◌⊎◌, ℕ, ◌++◌, Option, Some, None, Result, Ok, Err, List, []}
use Rattle.std.specs.Io.KnownBytes.{Appends}
use Rattle.exchange_core.specs.declared.event.Capacity.{Capacity}
use Rattle.exchange_core.specs.declared.event.Event.{Event}
use Rattle.match_pool.specs.Done.{IsRunFault}
use Rattle.command_line.specs.declared.options.MatchOptions.{MatchOptions}
use Rattle.command_line.specs.declared.options.JournalForm.{JournalForm}
use Rattle.command_line.specs.declared.options.JournalForm.TheVariants.{Absent, Plain, ByWorker}
use Rattle.command_line.specs.declared.options.Order.{Order}
use Rattle.command_line.specs.declared.options.Order.TheVariants.{Match, Audit, Replay}
use Rattle.docket.specs.Contents.{Contents, ByWorkerParts}
use Rattle.docket.specs.Whole.{IsByWorker}
use Rattle.match_model.specs.declared.limits.Limits.{Limits}
use Rattle.match_model.specs.declared.limits.Limits.TheVariants.{Standard}
use Rattle.docket.specs.Passes.{fault_within, first_fault, docket_of}
use Rattle.docket.specs.Texts.{sheet_text, journal_text}
use Rattle.docket.specs.declared.fault.DocketFault.TheVariants as docket
use Rattle.docket.specs.declared.records_fault.RecordsFault.TheVariants as records
use Rattle.audit_text.specs.Serving.{IsWriteFault, WritesReport as TellsReport, WritesReplay as TellsReplay, IsAuditFault as IsReportFault, IsReplayFault as IsAnswerFault}
use Rattle.audit_text.specs.declared.fault.AnswerFault.{AnswerFault}
use Rattle.audit_text.specs.declared.status.Status.{Status as Told}
use Rattle.residency.specs.declared.fault.ServeFault.{ServeFault}
use Rattle.residency.specs.declared.fault.ServeFault.TheVariants.{Docket, Run}
use Rattle.residency.specs.declared.fault.LimitsFault.{LimitsFault}
use Rattle.residency.specs.declared.fault.LimitsFault.TheVariants.{Reading, Serving}
use Rattle.residency.specs.declared.status.Status.{Status}
use Rattle.residency.specs.declared.status.Status.TheVariants.{Closed}
use Rattle.command_line.specs.Options.{IsWithinLimits}
use Rattle.residency.specs.Outcome.{IsOutcome}
use Rattle.residency.specs.Told.{status_told, fault_told}

-- the journal in the form that is wanted: no text, the events, or the events with their workers
abbrev pub wanted_text : Contents → Capacity → JournalForm → List Event → ByWorkerParts → List ℕ
wanted_text d cap Absent j by = []
wanted_text d cap Plain j by = journal_text d cap j None
wanted_text d cap ByWorker j by = journal_text d cap j (Some by)

-- the sheet, followed by the journal in the form that is wanted
abbrev pub match_text : Contents → Capacity → JournalForm → List (Option ℕ) → List Event → ByWorkerParts → List ℕ
match_text d cap form m j by = sheet_text d m ++ wanted_text d cap form j by

-- the journal in the form that a match's options ask for, with their capacity
abbrev pub wanted_journal : Contents → MatchOptions → List Event → ByWorkerParts → List ℕ
wanted_journal d o j by = wanted_text d o.capacity o.journal j by

-- the sheet, followed by the journal that a match's options ask for
abbrev pub wanted_match : Contents → MatchOptions → List (Option ℕ) → List Event → ByWorkerParts → List ℕ
wanted_match d o m j by = match_text d o.capacity o.journal m j by

-- a closed exchange over the docket, within the limits, that gives the only settled placement; each event has a
-- worker's number
pub record ClosedRun (d : Contents) (o : MatchOptions) : Type 0 where
  pub limits : IsWithinLimits o
  pub assignment : List (Option ℕ)
  pub outcome : IsOutcome d.instance o.capacity assignment
  pub by : ByWorkerParts
  pub workers : by.workers ≡ o.workers
  pub by_worker : IsByWorker outcome.exchanged.journal by

-- The text that was appended, if it is known, is the sheet of a closed run over the docket. The journal follows in
-- the form that is wanted.
pub record WritesMatch (d : Contents) (o : MatchOptions) (old new : Option (List ℕ)) : Type 0 where
  pub run : ClosedRun d o
  pub appended : Appends old new (match_text d o.capacity o.journal run.assignment run.outcome.exchanged.journal run.by)

-- The rows about the docket's sheet were written, with this status. `TellsReport` is the `WritesReport` of
-- `audit_text`, and `Told` is its `Status`.
abbrev pub WritesReport : Contents → Status → Option (List ℕ) → Option (List ℕ) → Type 0
WritesReport d status old new = (told : Told) × (status ≡ status_told told) × TellsReport d told old new

-- The rows about the docket's journal were written, with this status. `TellsReplay` is the
-- `WritesReplay` of `audit_text`.
abbrev pub WritesReplay : Contents → Status → Option (List ℕ) → Option (List ℕ) → Type 0
WritesReplay d status old new = (told : Told) × (status ≡ status_told told) × TellsReplay d told old new

-- why a match wrote no complete sheet: memory or the writer failed after a closed run, or the run had no
-- result
abbrev pub IsMatchFault : MatchOptions → Contents → ServeFault → Type 0
IsMatchFault o d (Docket fault) = ClosedRun d o × IsWriteFault fault
IsMatchFault o d (Run fault) = IsRunFault d.instance o.capacity o.workers fault
IsMatchFault o d fault = ⊥

-- why an audit wrote no complete report; `IsReportFault` is the `IsAuditFault` of `audit_text`
abbrev pub IsAuditFault : Contents → ServeFault → Type 0
IsAuditFault d fault = (told : AnswerFault) × (fault ≡ fault_told told) × IsReportFault d told

-- why a replay wrote no complete answer; `IsAnswerFault` is the `IsReplayFault` of `audit_text`
abbrev pub IsReplayFault : Contents → ServeFault → Type 0
IsReplayFault d fault = (told : AnswerFault) × (fault ≡ fault_told told) × IsAnswerFault d told

-- the bytes are a docket without a fault within these limits, and P holds of the docket
abbrev pub AreDocketWithin : Limits → (Contents → Type 0) → List ℕ → Type 0
AreDocketWithin limits P bytes = (fault_within limits bytes ≡ None) × P (docket_of bytes)

-- the bytes are a docket without a fault within the standard limits, and P holds of the docket
abbrev pub AreDocket : (Contents → Type 0) → List ℕ → Type 0
AreDocket P bytes = (first_fault bytes ≡ None) × P (docket_of bytes)

-- the fault is want of memory, a fault of the reader, or the first fault of the bytes
abbrev pub IsReadFault : List ℕ → ServeFault → Type 0
IsReadFault bytes (Docket fault) =
    (fault ≡ docket.Memory) ⊎ (((place : ℕ) × (fault ≡ docket.Read place)) ⊎ (first_fault bytes ≡ Some fault))
IsReadFault bytes fault = ⊥

-- the bytes could not be read within the standard limits, with this fault; or the bytes are a docket, and this is a
-- fault of the order over the docket
abbrev pub IsFaultOf : (Contents → ServeFault → Type 0) → List ℕ → ServeFault → Type 0
IsFaultOf IsFault bytes fault = IsReadFault bytes fault ⊎ AreDocket (λ d. IsFault d fault) bytes

-- the bytes could not be read within these limits, with this fault; or the bytes are a docket, and this is a fault of
-- the order over the docket
abbrev pub IsFaultWithin : Limits → (Contents → ServeFault → Type 0) → List ℕ → LimitsFault → Type 0
IsFaultWithin limits IsFault bytes (Reading fault) =
    (fault ≡ records.Docket docket.Memory) ⊎ (((place : ℕ) × (fault ≡ records.Docket (docket.Read place))) ⊎ (fault_within limits bytes ≡ Some fault))
IsFaultWithin limits IsFault bytes (Serving fault) = AreDocketWithin limits (λ d. IsFault d fault) bytes

-- any fault except a failure of the writer; before such a fault nothing was written
abbrev pub IsBeforeWriting : ServeFault → Type 0
IsBeforeWriting (Docket fault) = fault ≢ docket.Write
IsBeforeWriting fault = Unit {0}

-- any fault, of a call within limits, except a failure of the writer; before such a fault nothing
-- was written
abbrev pub IsBeforeWritingWithin : LimitsFault → Type 0
IsBeforeWritingWithin (Reading fault) = Unit {0}
IsBeforeWritingWithin (Serving fault) = IsBeforeWriting fault

-- an order over a docket was served with this status, and this text was appended
abbrev pub Serves : Order → Contents → Status → Option (List ℕ) → Option (List ℕ) → Type 0
Serves (Match o) d status old new = (status ≡ Closed) × WritesMatch d o old new
Serves Audit d status old new = WritesReport d status old new
Serves Replay d status old new = WritesReplay d status old new

-- why an order over a docket was not served
abbrev pub IsOrderFault : Order → Contents → ServeFault → Type 0
IsOrderFault (Match o) = IsMatchFault o
IsOrderFault Audit = IsAuditFault
IsOrderFault Replay = IsReplayFault

-- The answer to an order over these bytes within these limits. Either the order was served over their docket, or the
-- answer is the fault. With a fault, nothing was written, unless the writer failed.
abbrev pub IsAnswerWithin : Limits → Order → List ℕ → Option (List ℕ) → Option (List ℕ) → Result Status LimitsFault → Type 0
IsAnswerWithin limits order bytes old new (Ok status) = AreDocketWithin limits (λ d. Serves order d status old new) bytes
IsAnswerWithin limits order bytes old new (Err fault) = IsFaultWithin limits (IsOrderFault order) bytes fault × (IsBeforeWritingWithin fault → new ≡ old)

-- the answer to an order over these bytes within the standard limits
abbrev pub IsAnswerTo : Order → List ℕ → Option (List ℕ) → Option (List ℕ) → Result Status LimitsFault → Type 0
IsAnswerTo order bytes old new answer = IsAnswerWithin Standard order bytes old new answer
