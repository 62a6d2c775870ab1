-- What every docket has, and which members its events may name.
use Rattle.std.specs.Prelude.{◌≡◌, ℕ, ◌<◌, ◌≤◌, ⊤, IfSome, Option, Some, List, length}
use Rattle.std.specs.List.{All}
use Rattle.match_model.specs.Instance.{Instance, IsProgramme, IsResident}
use Rattle.match_model.specs.Placement.{IsMemberOf}
use Rattle.exchange_core.specs.declared.event.Event.{Event}
use Rattle.exchange_core.specs.declared.event.Event.TheVariants.{Offer, Take, Answer, Hear, Close}
use Rattle.docket.specs.Contents.{Contents, JournalParts, ByWorkerParts}

-- the sheet has one entry for each resident, and only programmes of the docket
pub record IsSheetOf (d : Contents) (m : List (Option ℕ)) : Type 0 where
  pub one_entry_each : length m ≡ length d.residents
  pub members : (r p : ℕ) → IsMemberOf m r p → p < length d.programmes

-- p and r are a programme and a resident of the instance
pub record AreMembers (inst : Instance) (p r : ℕ) : Type 0 where
  pub programme : IsProgramme inst p
  pub resident : IsResident inst r

-- the numbers in an event belong to members
abbrev pub NamesMembers : Instance → Event → Type 0
NamesMembers inst (Offer p r) = AreMembers inst p r
NamesMembers inst (Take r p) = AreMembers inst p r
NamesMembers inst (Answer r p kind) = AreMembers inst p r
NamesMembers inst (Hear p r kind) = AreMembers inst p r
NamesMembers inst Close = ⊤

-- there are 1 to 8 workers, and each number in the list is below the number of workers
pub record AreWorkers (workers : ℕ) (who : List ℕ) : Type 0 where
  pub some : 1 ≤ workers
  pub few : workers ≤ 8
  pub numbers : All (λ w. w < workers) who

-- there are 1 to 8 workers, and each event has the number of one worker
pub record IsByWorker (events : List Event) (by : ByWorkerParts) : Type 0 where
  pub one_number_each : length by.who ≡ length events
  pub workers : AreWorkers by.workers by.who

-- Each member has a name. The sheet names only members. The journal's events name only members. A journal by worker
-- has 1 to 8 workers, and one of them for each event.
pub record IsWhole (d : Contents) : Type 0 where
  pub programmes : length d.programmes ≡ length d.instance.quotas
  pub residents : length d.residents ≡ length d.instance.resident_lists
  pub sheet : (m : List (Option ℕ)) → d.sheet ≡ Some m → IsSheetOf d m
  pub journal : (j : JournalParts) → d.journal ≡ Some j → All (NamesMembers d.instance) j.events
  pub by : (j : JournalParts) → d.journal ≡ Some j → IfSome j.by (IsByWorker j.events)
