-- If a list of events agrees with the desk, the programme wishes to offer to the resident to whom the core says it
-- offers next.
use Rattle.std.proofs.Common.{◌≡◌, false, List, length, refl}
use Rattle.match_model.specs.Instance.{Instance}
use Rattle.exchange_core.specs.declared.event.Event.{Event}
use Rattle.exchange_core.specs.Mail.{offers_of, hears}
use Rattle.exchange_core.specs.Calls.{out}
use Rattle.exchange_core.specs.Legal.{is_closed}
use Rattle.exchange_core.specs.Shown.{next_offer}
use Rattle.match_agents.specs.Desks.{ProgrammeDesk}
use Rattle.match_agents.specs.Programmes.{wish_of}

pub wish_is_next : {T : Type 0} (inst : Instance) (desk : ProgrammeDesk T) (j : List Event) → is_closed j ≡ false
    → desk.heard ≡ hears desk.programme j → desk.offered ≡ length (offers_of desk.programme j) → wish_of inst desk ≡ next_offer inst j desk.programme
unfolding next_offer out
wish_is_next inst desk j still_open heard offered = rw (still_open, ← heard, ← offered) refl
