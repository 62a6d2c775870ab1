-- The result of an exchange that has closed.
use Rattle.std.specs.Prelude.{◌≡◌, ℕ, Option, List}
use Rattle.match_model.specs.Instance.{Instance}
use Rattle.exchange_core.specs.declared.event.Event.{Event}
use Rattle.exchange_core.specs.declared.event.Capacity.{Capacity}
use Rattle.exchange_core.specs.Legal.{IsLegal, IsClosed}
use Rattle.exchange_core.specs.Left.{given}
use Rattle.settle_law.specs.Stable.{IsStable, IsSettled}

-- the placement is what some legal list of events with a close gives
pub record IsGiven (inst : Instance) (cap : Capacity) (m : List (Option ℕ)) : Type 0 where
  pub journal : List Event
  pub legal : IsLegal inst cap journal
  pub closed : IsClosed journal
  pub is_given : m ≡ given inst journal

-- the placement is settled, and no other placement is settled
pub record IsTheSettled (inst : Instance) (m : List (Option ℕ)) : Type 0 where
  pub settled : IsSettled inst m
  pub alone : (other : List (Option ℕ)) → IsSettled inst other → other ≡ m

-- some closed exchange gives this placement; it is stable, and it is the only settled placement
pub record IsOutcome (inst : Instance) (cap : Capacity) (m : List (Option ℕ)) : Type 0 where
  pub exchanged : IsGiven inst cap m
  pub stable : IsStable inst m
  pub settled : IsTheSettled inst m
