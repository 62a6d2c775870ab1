-- What was written about a docket's sheet and about its journal, or why it was not written.
use Rattle.std.specs.Prelude.{◌≡◌, ◌≢◌, ◌⊎◌, ◌↔◌, ℕ, Option, Some, None, Result, Ok, Err, List, IsSome, option_map}
use Rattle.std.specs.Io.KnownBytes.{Appends}
use Rattle.match_model.specs.Instance.{Instance}
use Rattle.exchange_core.specs.Left.{given}
use Rattle.settle_law.specs.Stable.{IsStable}
use Rattle.docket.specs.Contents.{Contents, JournalParts}
use Rattle.docket.specs.declared.fault.DocketFault.{DocketFault}
use Rattle.docket.specs.declared.fault.DocketFault.TheVariants as docket
use Rattle.match_audit.specs.Report.{Reports}
use Rattle.match_audit.specs.Replay.{IsGood, IsReplayOf, IsListFault, IsCheckFault}
use Rattle.match_audit.specs.WorkerCounts.{counts_of}
use Rattle.match_audit.specs.declared.report.AuditReport.{AuditReport}
use Rattle.match_audit.specs.declared.replayer.Replayed.{Replayed}
use Rattle.match_audit.specs.declared.replayer.ReplayFault.{ReplayFault}
use Rattle.audit_text.specs.declared.fault.AnswerFault.{AnswerFault}
use Rattle.audit_text.specs.declared.fault.AnswerFault.TheVariants.{Docket, NoSheet, NoJournal, Memory}
use Rattle.audit_text.specs.declared.status.Status.{Status}
use Rattle.audit_text.specs.declared.status.Status.TheVariants.{Stable, Unstable, ReplayGood, ReplayBad}
use Rattle.audit_text.specs.Report.{report_text}
use Rattle.audit_text.specs.Answer.{replay_text}

-- the status is `Stable` if the sheet is stable, else `Unstable`
pub record TellsStable (inst : Instance) (sheet : List (Option ℕ)) (status : Status) : Type 0 where
  pub either : (status ≡ Stable) ⊎ (status ≡ Unstable)
  pub stable : (status ≡ Stable) ↔ IsStable inst sheet

-- the docket has a sheet, and the report is about this sheet
pub record SheetReport (d : Contents) : Type 0 where
  pub sheet : List (Option ℕ)
  pub has_sheet : d.sheet ≡ Some sheet
  pub report : AuditReport
  pub reports : Reports d.instance sheet report

-- if the writer's contents are known, the report about the docket's sheet was appended to them; the status says
-- whether the sheet is stable
pub record WritesReport (d : Contents) (status : Status) (old new : Option (List ℕ)) : Type 0 where
  pub audit : SheetReport d
  pub tells : TellsStable d.instance audit.sheet status
  pub appended : Appends old new (report_text d audit.report)

-- The answer that a replay has to give for the journal: the placement, or a fault other than out of memory. If
-- there is a sheet, the placement is also compared with the sheet.
abbrev pub IsReplayAnswer : Instance → JournalParts → Option (List (Option ℕ)) → Result Replayed ReplayFault → Type 0
IsReplayAnswer inst j None (Ok replayed) = IsGood inst j.capacity j.events × IsReplayOf inst j.events replayed
IsReplayAnswer inst j None (Err fault) = IsListFault inst j.capacity j.events fault
IsReplayAnswer inst j (Some sheet) (Ok replayed) =
    IsGood inst j.capacity j.events × IsReplayOf inst j.events replayed × (sheet ≡ given inst j.events)
IsReplayAnswer inst j (Some sheet) (Err fault) = IsCheckFault inst j.capacity j.events sheet fault

-- how many events each worker made, if the journal is by worker
abbrev pub counts_in : JournalParts → Option (List ℕ)
counts_in j = option_map (λ by. counts_of by.workers by.who) j.by

-- the status of a replay: good without a fault, else bad
abbrev pub replay_status : Result Replayed ReplayFault → Status
replay_status (Ok replayed) = ReplayGood
replay_status (Err fault) = ReplayBad

-- the docket has a journal, and this is the answer that a replay has to give for it
pub record JournalAnswer (d : Contents) : Type 0 where
  pub journal : JournalParts
  pub has_journal : d.journal ≡ Some journal
  pub answer : Result Replayed ReplayFault
  pub answers : IsReplayAnswer d.instance journal d.sheet answer

-- If the writer's contents are known, the row of the answer about the docket's journal was appended to them. If the
-- answer is good and the journal is by worker, each worker's count follows.
pub record WritesReplay (d : Contents) (status : Status) (old new : Option (List ℕ)) : Type 0 where
  pub replay : JournalAnswer d
  pub tells : status ≡ replay_status replay.answer
  pub appended : Appends old new (replay_text d replay.answer (counts_in replay.journal))

-- memory ran out, or the writer failed
abbrev pub IsWriteFault : DocketFault → Type 0
IsWriteFault fault = (fault ≡ docket.Memory) ⊎ (fault ≡ docket.Write)

-- Why an audit wrote no complete report. Memory or the writer failed after the report was made, or the docket has
-- no sheet, or memory ran out before the report was made.
abbrev pub IsAuditFault : Contents → AnswerFault → Type 0
IsAuditFault d (Docket fault) = SheetReport d × IsWriteFault fault
IsAuditFault d NoSheet = d.sheet ≡ None
IsAuditFault d Memory = IsSome d.sheet
IsAuditFault d fault = ⊥

-- Why a replay wrote no complete answer. Memory or the writer failed after the answer was found, or the docket has
-- no journal, or memory ran out before the answer was found.
abbrev pub IsReplayFault : Contents → AnswerFault → Type 0
IsReplayFault d (Docket fault) = JournalAnswer d × IsWriteFault fault
IsReplayFault d NoJournal = d.journal ≡ None
IsReplayFault d Memory = IsSome d.journal
IsReplayFault d fault = ⊥

-- any fault except a failure of the writer; before such a fault nothing was written
abbrev pub IsBeforeWriting : AnswerFault → Type 0
IsBeforeWriting (Docket fault) = fault ≢ docket.Write
IsBeforeWriting fault = Unit {0}
