-- What the records read so far declare, as the first pass keeps it.
use Rattle.std.specs.Prelude.{◌≡◌, ℕ, List, map, filter, find, Option, None, option_map, unwrap_or, [], Some, IfSome, ◌≤◌, ◌++◌, ◌∷◌, false, codes, nat_eq}
use Rattle.exchange_core.specs.declared.event.Capacity.{Capacity}
use Rattle.exchange_core.specs.declared.event.Capacity.TheVariants.{Full}
use Rattle.docket.specs.Words.{capacity_of}
use Rattle.docket.specs.Fields.{is_kind, is_row_of, withdrawal_kind, unless, version_row_fault}
use Rattle.records.specs.Reading.{Fields, field}
use Rattle.docket.specs.Contents.{workers_in, who_of, names_of, programmes_of, residents_of, quotas_of, all_listed, is_sheet_row}
use Rattle.docket.specs.Whole.{AreWorkers}
use Rattle.docket.specs.declared.vocabulary.TheConstants.{CAPACITY, PROGRAMME_LIST, EVENT}
use Rattle.std.specs.List.{list_any}
use Rattle.std.specs.Option.{option_or}
use Rattle.docket.specs.Passes.{is_version_2, next_place}
use Rattle.docket_names.specs.Texts.{AreNames, AreNoted}
use Rattle.docket.specs.declared.declarations.Declarations.{Declarations}
use Rattle.docket.specs.declared.fault.DocketFault.{DocketFault}
use Rattle.docket.specs.declared.fault.DocketFault.TheVariants.{UnknownKind}

-- the capacity in the C row, if there is a C row
unfoldable pub capacity_in : List Fields → Option Capacity
capacity_in rows = option_map (λ row. unwrap_or (capacity_of (field row 1)) Full) (find (is_kind CAPACITY) rows)

-- the names that the W rows of a side withdraw, in order
abbrev pub names_withdrawn : List ℕ → List Fields → List (List ℕ)
names_withdrawn side rows = map (λ row. field row 2) (filter (is_row_of withdrawal_kind side) rows)

-- the workers of the events if the journal is by worker; else none
abbrev pub who_if : Option ℕ → List Fields → List ℕ
who_if None rows = []
who_if (Some workers) rows = who_of rows

-- If the journal is by worker, these are the number of workers, from 1 to 8, and the worker of each event, as the
-- rows have them. Else there is no number of workers, and no event has a worker.
pub record AreByWorker (workers : Option ℕ) (who : List ℕ) (rows : List Fields) : Type 0 where
  pub workers_are : workers ≡ workers_in rows
  pub who_are : who ≡ who_if workers rows
  pub within : IfSome workers (λ n. AreWorkers n who)

-- What the first pass keeps agrees with these records. Each name is kept as the number of its text. The builder
-- has no list and no withdrawal yet. No event stands before the C row.
pub record IsDeclared (d : Declarations) (texts : Fields) (rows : List Fields) : Type 0 where
  pub quotas : d.builder.quotas ≡ quotas_of rows
  pub programme_lists : d.builder.programme_lists ≡ map (λ name. None) (programmes_of rows)
  pub resident_lists : d.builder.resident_lists ≡ map (λ name. None) (residents_of rows)
  pub programmes : AreNames texts d.programmes (programmes_of rows)
  pub residents : AreNames texts d.residents (residents_of rows)
  pub ranked : AreNoted texts d.ranked_programmes (names_of PROGRAMME_LIST rows)
  pub listed : d.listed_count ≡ all_listed rows
  pub capacity : d.capacity ≡ capacity_in rows
  pub no_events : d.capacity ≡ None → list_any (is_kind EVENT) rows ≡ false
  pub by_worker : AreByWorker d.workers d.event_workers.items rows
  pub sheet_rows : d.has_sheet_row ≡ list_any is_sheet_row rows
  pub version : d.is_version_2 ≡ is_version_2 rows
  pub withdrawn_programmes : AreNoted texts d.withdrawn_programmes (names_withdrawn (codes "P") rows)
  pub withdrawn_residents : AreNoted texts d.withdrawn_residents (names_withdrawn (codes "R") rows)
  pub no_programme_gone : d.builder.programmes_withdrawn ≡ map (λ name. false) (programmes_of rows)
  pub no_resident_gone : d.builder.residents_withdrawn ≡ map (λ name. false) (residents_of rows)

-- a journal by worker has at most 8 workers
abbrev pub AreFew : Option ℕ → Type 0
AreFew workers = IfSome workers (λ n. n ≤ 8)

-- The declarations before and after record number `place`. If the old ones fit the earlier records, the new
-- ones fit these and this record. The limits are unchanged, and there are never more than 8 workers.
pub record Declares (old new : Declarations) (texts : Fields) (place : ℕ) (row : Fields) : Type 0 where
  pub limits : new.builder.limits ≡ old.builder.limits
  pub workers : AreFew old.workers → AreFew new.workers
  pub declared : (rows : List Fields) → place ≡ next_place rows → IsDeclared old texts rows → IsDeclared new texts (rows ++ row ∷ [])

-- the fault of a V row that is record n; only the first record may be a V row
abbrev pub version_fault : ℕ → Fields → Option DocketFault
version_fault n row = option_or (unless (nat_eq n 1) (UnknownKind n)) (version_row_fault n row)
