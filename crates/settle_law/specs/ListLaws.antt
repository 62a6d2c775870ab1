-- Laws of legal lists of events. Each law is proved as the contract of a function with a like name: `ClosesLaw` as the
-- contract of `law_closes`.
use Rattle.std.specs.Prelude.{◌≡◌, ◌+◌, ◌*◌, ◌≤◌, ◌++◌, false, List, length}
use Rattle.match_model.specs.Instance.{Instance, IsInstance, pair_count}
use Rattle.exchange_core.specs.declared.event.Event.{Event}
use Rattle.exchange_core.specs.declared.event.Capacity.{Capacity}
use Rattle.exchange_core.specs.Legal.{is_closed, MayFollow, IsLegal, IsClosed}
use Rattle.exchange_core.specs.Shown.{IsCapacity}
use Rattle.settle_law.specs.Orderly.{IsOrderly}

-- every legal list is orderly
abbrev pub OrderlyLaw : Type 0
OrderlyLaw =
    (inst : Instance) (cap : Capacity) (j : List Event) → IsLegal inst cap j →
    IsOrderly inst j

-- a legal list has at most six events for each acceptable pair, and one close
abbrev pub BoundLaw : Type 0
BoundLaw =
    (inst : Instance) (cap : Capacity) (j : List Event) → IsLegal inst cap j →
    length j ≤ 6 * pair_count inst + 1

-- until a legal list is closed, some event may follow
abbrev pub NoJamLaw : Type 0
NoJamLaw =
    (inst : Instance) (cap : Capacity) (j : List Event) →
    IsInstance inst → IsCapacity cap → IsLegal inst cap j → is_closed j ≡ false →
    (e : Event) × MayFollow inst cap j e

-- the list of events can be continued to a closed legal list
pub record GoesOn (inst : Instance) (cap : Capacity) (j : List Event) : Type 0 where
  pub rest : List Event
  pub legal : IsLegal inst cap (j ++ rest)
  pub closed : IsClosed (j ++ rest)

-- every legal list can be continued to a closed one
abbrev pub ClosesLaw : Type 0
ClosesLaw =
    (inst : Instance) (cap : Capacity) (j : List Event) →
    IsInstance inst → IsCapacity cap → IsLegal inst cap j →
    GoesOn inst cap j
