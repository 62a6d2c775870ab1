-- What an audit over files answers. Each file is read apart from the others, as the docket, the sheet or the journal.
use Rattle.std.specs.Prelude.{◌≡◌, ◌⊎◌, ℕ, ◌++◌, [], Bool, Option, Some, None, List, MatchOption, unwrap_or, ⊤}
use Rattle.settle_law.specs.Stable.{IsSettled}
use Rattle.match_audit.specs.Result.{IsUnlikeResult}
use Rattle.match_model.specs.declared.limits.Limits.TheVariants.{National}
use Rattle.docket.specs.Contents.{Contents}
use Rattle.docket.specs.Parts.{IsInFiles, Tells as IsFaultOfFiles, fault_of_files}
use Rattle.docket.specs.declared.file_fault.FileFault.{FileFault}
use Rattle.audit_text.specs.Serving.{WritesReport, WritesReplay}
use Rattle.audit_text.specs.declared.status.Status.{Status}
use Rattle.audit_text.specs.declared.status.Status.TheVariants.{Stable, ReplayGood}
use Rattle.audit_files.specs.Place.{told}
use Rattle.audit_files.specs.Rows.{facts_if, result_row}
use Rattle.audit_files.specs.declared.fault.FilesFault.{FilesFault}
use Rattle.audit_files.specs.declared.fault.FilesFault.TheVariants as files
use Rattle.audit_files.specs.declared.serve.Verdict.{Verdict}
use Rattle.audit_files.specs.declared.serve.Verdict.TheVariants.{Good, Bad}

-- the three files have no fault, and this is the docket of their records
abbrev pub IsDocketIn : List ℕ → List ℕ → List ℕ → Contents → Type 0
IsDocketIn docket sheet journal d = IsInFiles National docket sheet journal d

-- Why three files are no docket: the first fault of their records, with its file. Or memory ran out, or the
-- machine had no random bytes.
pub record IsReadingFault (docket sheet journal : List ℕ) (fault : FilesFault) : Type 0 where
  pub first : FileFault
  pub is_first : IsFaultOfFiles (fault_of_files National docket sheet journal) first
  pub is_told : fault ≡ told first

-- If the docket has a sheet: none if the sheet is the match's result, else the first resident for whom the sheet
-- differs from the result.
abbrev pub TellsFirst : Contents → Option ℕ → Type 0
TellsFirst d first =
    (sheet : List (Option ℕ)) → d.sheet ≡ Some sheet →
    MatchOption first (IsSettled d.instance sheet) (IsUnlikeResult d.instance sheet)

-- If there is a journal's file, the rows of its replay were added, and the status is the replay's. Else nothing was
-- added, and there is none.
abbrev pub Replays : Contents → Option (List ℕ) → List ℕ → Option Status → List ℕ → Type 0
Replays d None before status after = (status ≡ None) × (after ≡ before)
Replays d (Some bytes) before None after = ⊥
Replays d (Some bytes) before (Some status) after = WritesReplay d status (Some before) (Some after)

-- good if there was no replay, or if the replay was good, else bad
abbrev pub verdict_on_replay : Option Status → Verdict
verdict_on_replay None = Good
verdict_on_replay (Some ReplayGood) = Good
verdict_on_replay (Some status) = Bad

-- good if the sheet is the result, and the replay is good or was not wanted
abbrev pub verdict_on_result : Option ℕ → Option Status → Verdict
verdict_on_result None replayed = verdict_on_replay replayed
verdict_on_result (Some r) replayed = Bad

-- good if the sheet is stable, the sheet is the match's result, and the replay is good or was not wanted
abbrev pub verdict_of : Status → Option ℕ → Option Status → Verdict
verdict_of Stable first replayed = verdict_on_result first replayed
verdict_of audited first replayed = Bad

-- The rows about a docket that an audit adds to a text: the rows of the audit, the row that says whether the sheet
-- is the result, and, if there is a journal's file, the rows of the replay.
pub record Tells (d : Contents) (journal : Option (List ℕ)) (start : List ℕ) (verdict : Verdict) (text : List ℕ) : Type 0 where
  pub audited : Status
  pub after_audit : List ℕ
  pub audit : WritesReport d audited (Some start) (Some after_audit)
  pub first : Option ℕ
  pub is_first : TellsFirst d first
  pub replayed : Option Status
  pub replay : Replays d journal (after_audit ++ result_row d first) replayed text
  pub verdict_is : verdict ≡ verdict_of audited first replayed

-- The text has all rows about the docket in the files. The facts come first if they are wanted.
pub record AnswersFiles (wants_facts : Bool) (docket sheet : List ℕ) (journal : Option (List ℕ)) (verdict : Verdict) (text : List ℕ) : Type 0 where
  pub d : Contents
  pub read : IsDocketIn docket sheet (unwrap_or journal []) d
  pub tells : Tells d journal (facts_if wants_facts d docket sheet journal) verdict text

-- why the audit of a docket has no complete answer: the docket has no sheet, or the docket has no
-- journal
abbrev pub IsAnswerFault : Contents → FilesFault → Type 0
IsAnswerFault d files.NoSheet = d.sheet ≡ None
IsAnswerFault d files.NoJournal = d.journal ≡ None
IsAnswerFault d files.Memory = ⊤
IsAnswerFault d fault = ⊥

-- the files are a docket, and this is why its audit has no complete answer
pub record StopsAtDocket (docket sheet journal : List ℕ) (fault : FilesFault) : Type 0 where
  pub d : Contents
  pub read : IsDocketIn docket sheet journal d
  pub fault_is : IsAnswerFault d fault

-- Why no complete answer was written. Either the files are no docket, or the docket lacks its sheet or its journal,
-- or the writer failed.
abbrev pub IsServingFault : List ℕ → List ℕ → Option (List ℕ) → FilesFault → Type 0
IsServingFault docket sheet journal fault =
    (fault ≡ files.Write) ⊎ (IsReadingFault docket sheet (unwrap_or journal []) fault ⊎ StopsAtDocket docket sheet (unwrap_or journal []) fault)
