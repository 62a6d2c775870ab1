-- What a match has written is the sheet of the docket's result.
use Rattle.std.proofs.Common.{◌≡◌, ℕ, List, [], ◌++◌, ◌∙◌, Option, Some, None, refl, sym, ap, subst}
use Rattle.std.specs.Prelude.{Result, Ok, Err, option_map}
use Rattle.std.specs.Io.KnownBytes.{Appends}
use Rattle.records.specs.Reading.{rows_of}
use Rattle.match_model.specs.declared.limits.Limits.TheVariants.{National, Standard}
use Rattle.docket.specs.Passes.{docket_of, fault_within, first_fault}
use Rattle.docket.specs.declared.fault.DocketFault.{DocketFault}
use Rattle.docket.specs.declared.fault.DocketFault.TheVariants as docket
use Rattle.docket.specs.declared.records_fault.RecordsFault.TheVariants as records
use Rattle.docket.proofs.CountFacts.{unmapped}
use Rattle.docket.proofs.StandardFacts.{fault_standard}
use Rattle.program_shell.specs.Status.{docket_status_of}
use Rattle.residency.specs.declared.fault.LimitsFault.{LimitsFault}
use Rattle.residency.specs.declared.fault.LimitsFault.TheVariants.{Reading, Serving}
use Rattle.residency.specs.declared.fault.ServeFault.{ServeFault}
use Rattle.residency.specs.declared.fault.ServeFault.TheVariants.{Docket, NoSheet, NoJournal, Run, Memory}
use Rattle.command_line.specs.declared.options.MatchOptions.{MatchOptions}
use Rattle.command_line.specs.declared.options.Order.TheVariants.{Match}
use Rattle.residency.specs.declared.status.Status.{Status}
use Rattle.residency.specs.Serving.{AreDocket, WritesMatch, wanted_text, IsAnswerTo, IsAnswerWithin}
use Rattle.residency.specs.Status.{exit_status_within_of, fault_status_of}
use Rattle.match_theorem.specs.Law.{MatchLaw, NationalLaw, ProgramLaw, WritesNationalSheet, WritesSheet}
use Rattle.match_theorem.proofs.Lists.{docket_instance}
use Rattle.match_theorem.proofs.Sheets.{same_sheet}

-- a docket without a fault has none within the standard limits
standard : (bytes : List ℕ) → first_fault bytes ≡ None → fault_within Standard bytes ≡ None
standard bytes none = fault_standard (rows_of bytes) ∙ ap (option_map records.Docket) none

pub match_law : MatchLaw
match_law bytes o old new h =
    let run = h.1.run in
    let journal = run.outcome.exchanged.journal in
    let text = wanted_text (docket_of bytes) o.capacity o.journal journal run.by in
    record {
      journal = text;
      no_more = λ absent. ap (λ form. wanted_text (docket_of bytes) o.capacity form journal run.by) absent;
      writes = record {
        lists = (docket_instance Standard bytes (standard bytes h.0)).0;
        few_programmes = (docket_instance Standard bytes (standard bytes h.0)).1.few_programmes;
        few_residents = (docket_instance Standard bytes (standard bytes h.0)).1.few_residents;
        few_pairs = (docket_instance Standard bytes (standard bytes h.0)).1.few_pairs;
        placement = run.assignment;
        result = record {
          stable = run.outcome.stable;
          settled = run.outcome.settled.settled;
          alone = run.outcome.settled.alone;
        };
        appended = subst (λ (t : List ℕ). Appends old new (t ++ text)) (same_sheet bytes run.assignment) h.1.appended;
      };
    }

-- the exit status of a fault is never 0
docket_told : (fault : DocketFault) → 0 ≡ docket_status_of fault → ⊥
docket_told (docket.Read place) e = cc e
docket_told docket.Memory e = cc e
docket_told docket.Write e = cc e
docket_told (docket.TooManyRecords place) e = cc e
docket_told (docket.UnknownKind place) e = cc e
docket_told (docket.FieldCount place) e = cc e
docket_told (docket.BadName place) e = cc e
docket_told (docket.BadQuota place) e = cc e
docket_told (docket.DeclaredTwice place) e = cc e
docket_told (docket.UnknownName place) e = cc e
docket_told (docket.Model place fault) e = cc e
docket_told (docket.BadEvent place) e = cc e
docket_told (docket.BadSheet place) e = cc e
docket_told (docket.BadVersion place) e = cc e
docket_told (docket.BadWithdrawal place) e = cc e

serve_told : (fault : ServeFault) → 0 ≡ fault_status_of fault → ⊥
serve_told (Docket fault) e = docket_told fault e
serve_told NoSheet e = cc e
serve_told NoJournal e = cc e
serve_told (Run fault) e = cc e
serve_told Memory e = cc e

fault_told : (fault : LimitsFault) → 0 ≡ exit_status_within_of (Err fault) → ⊥
fault_told (Reading (records.Docket fault)) e = docket_told fault e
fault_told (Reading (records.TooManyListed place)) e = cc e
fault_told (Reading (records.AnotherPart place)) e = cc e
fault_told (Serving fault) e = serve_told fault e

pub program_law : ProgramLaw
program_law bytes o old new h = by h.answer (h.appends bytes refl) h.tells
  where
    by : (answer : Result Status LimitsFault) → IsAnswerTo (Match o) bytes old new answer → 0 ≡ exit_status_within_of answer → WritesSheet bytes o old new
    by (Ok status) served told =
        let sound : first_fault bytes ≡ None = unmapped (first_fault bytes) (sym (fault_standard (rows_of bytes)) ∙ served.0) in
        match_law bytes o old new (sound, served.1.1)
    by (Err fault) served told = absurd (fault_told fault told)

pub national_law : NationalLaw
national_law bytes o old new h = by h.answer (h.appends bytes refl) h.tells
  where
    by : (answer : Result Status LimitsFault) → IsAnswerWithin National (Match o) bytes old new answer → 0 ≡ exit_status_within_of answer → WritesNationalSheet bytes o old new
    by (Err fault) served told = absurd (fault_told fault told)
    by (Ok status) served told =
        let run = served.1.1.run in
        let sound = docket_instance National bytes served.0 in
        let text = wanted_text (docket_of bytes) o.capacity o.journal run.outcome.exchanged.journal run.by in
        record {
          journal = text;
          no_more = λ absent. ap (λ form. wanted_text (docket_of bytes) o.capacity form run.outcome.exchanged.journal run.by) absent;
          writes = record {
            lists = sound.0;
            few_programmes = sound.1.few_programmes;
            few_residents = sound.1.few_residents;
            few_pairs = sound.1.few_pairs;
            placement = run.assignment;
            result = record { stable = run.outcome.stable; settled = run.outcome.settled.settled; alone = run.outcome.settled.alone };
            appended = subst (λ (t : List ℕ). Appends old new (t ++ text)) (same_sheet bytes run.assignment) served.1.1.appended;
          };
        }
