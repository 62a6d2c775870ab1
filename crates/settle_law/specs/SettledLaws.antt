-- Laws of the placement that a closed exchange gives. Each law is proved as the contract of a function with a like
-- name: `HasSettledLaw` as the contract of `law_has_settled`.
use Rattle.std.specs.Prelude.{◌≡◌, ℕ, ◌↔◌, IsSome, IsTrue, List, Option}
use Rattle.std.specs.List.{All}
use Rattle.match_model.specs.Instance.{Instance, IsInstance, IsResident, IsProgramme, list_of_resident}
use Rattle.match_model.specs.Placement.{programme_of, member_count}
use Rattle.exchange_core.specs.declared.event.Event.{Event}
use Rattle.exchange_core.specs.declared.event.Capacity.{Capacity}
use Rattle.exchange_core.specs.Mail.{Answered, takes}
use Rattle.exchange_core.specs.Calls.{calls, is_rejection}
use Rattle.exchange_core.specs.Legal.{IsLegal, IsClosed}
use Rattle.exchange_core.specs.Left.{given}
use Rattle.settle_law.specs.Stable.{IsStable, IsAchievable, IsSettled}

-- if this answer of r is a rejection, the programme is not achievable for r
abbrev pub SparesAchievable : Instance → ℕ → Answered → Type 0
SparesAchievable inst r answer = IsTrue (is_rejection answer) → ¬ IsAchievable inst r answer.0

-- in a legal list, a resident never owes a rejection of a programme that is achievable for this resident
abbrev pub NeverRejectsLaw : Type 0
NeverRejectsLaw =
    (inst : Instance) (cap : Capacity) (j : List Event) → IsInstance inst → IsLegal inst cap j → (r : ℕ) →
    All (SparesAchievable inst r) (calls (list_of_resident inst r) (takes r j))

-- the placement that a closed legal list gives is stable and settled
abbrev pub SettledLaw : Type 0
SettledLaw =
    (inst : Instance) (cap : Capacity) (j : List Event) → IsInstance inst → IsLegal inst cap j → IsClosed j →
    IsStable inst (given inst j) × IsSettled inst (given inst j)

-- every stable assignment matches the same residents as the placement that a closed legal list gives, and has the same
-- number of residents at each programme
abbrev pub SameResidentsLaw : Type 0
SameResidentsLaw =
    (inst : Instance) (cap : Capacity) (j : List Event) → IsInstance inst → IsLegal inst cap j → IsClosed j →
    (m : List (Option ℕ)) → IsStable inst m →
    ((r : ℕ) → IsResident inst r → IsSome (programme_of m r) ↔ IsSome (programme_of (given inst j) r))
    × ((p : ℕ) → IsProgramme inst p → member_count m p ≡ member_count (given inst j) p)

-- an instance has at most one settled assignment
abbrev pub OneSettledLaw : Type 0
OneSettledLaw = (inst : Instance) (m n : List (Option ℕ)) → IsSettled inst m → IsSettled inst n → m ≡ n

-- an instance has a stable assignment that is settled
abbrev pub HasSettledLaw : Type 0
HasSettledLaw = (inst : Instance) → IsInstance inst → (m : List (Option ℕ)) × IsStable inst m × IsSettled inst m
