-- What a programme's desk keeps, and to which resident the programme would offer next.
use Rattle.std.specs.Prelude.{◌≡◌, ℕ, ◌-◌, ◌*◌, ◌≤◌, nat_lt, if◌then◌else◌, false, Option, None, List, [], ◌∷◌, ◌++◌, length, slice_get}
use Rattle.match_model.specs.Instance.{Instance, IsProgramme, quota, list_of_programme}
use Rattle.exchange_core.specs.declared.event.Event.{Event}
use Rattle.exchange_core.specs.Mail.{Answered, offers_of, hears}
use Rattle.exchange_core.specs.Calls.{rejections}
use Rattle.exchange_core.specs.Legal.{is_closed}
use Rattle.exchange_core.specs.Shown.{next_offer}
use Rattle.match_agents.specs.Desks.{ProgrammeDesk}

module _ {T : Type 0} where
  -- p's desk with this end, before any answer or offer
  abbrev pub opened_programme : Instance → ℕ → T → ProgrammeDesk T
  opened_programme inst p end = record { programme = p; end = end; heard = []; room = 2 * length (list_of_programme inst p); offered = 0 }

  -- the desk after it heard one more answer; its receiving end is now this one
  abbrev pub heard_answer : ProgrammeDesk T → T → Answered → ProgrammeDesk T
  heard_answer desk end answer = record desk { end = end; heard = desk.heard ++ answer ∷ [] }

  -- the next resident of the programme's list, if the programme has fewer offers out than its quota
  abbrev pub wish_of : Instance → ProgrammeDesk T → Option ℕ
  wish_of inst desk =
      if nat_lt (desk.offered - rejections desk.heard) (quota inst desk.programme) then slice_get (list_of_programme inst desk.programme) desk.offered
      else None

  -- The wish is the programme's next offer, after any list of events that fits the desk. A list fits if it has no
  -- close, and has the answers that the desk heard and as many offers by the programme as the desk made.
  abbrev pub IsNextOffer : Instance → ProgrammeDesk T → Option ℕ → Type 0
  IsNextOffer inst desk wish = (j : List Event) → is_closed j ≡ false → desk.heard ≡ hears desk.programme j
      → desk.offered ≡ length (offers_of desk.programme j) → wish ≡ next_offer inst j desk.programme

  -- The desk is that of a programme of the instance. The desk has room for all answers that can ever come. The desk
  -- made its offers in the order of the programme's list.
  pub record IsProgrammeAgentOf (inst : Instance) (desk : ProgrammeDesk T) : Type 0 where
    pub member : IsProgramme inst desk.programme
    pub room_for_all : desk.room ≡ 2 * length (list_of_programme inst desk.programme)
    pub log_within : length desk.heard ≤ desk.room
    pub offers_within : desk.offered ≤ length (list_of_programme inst desk.programme)
