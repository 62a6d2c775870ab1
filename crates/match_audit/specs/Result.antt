-- How a sheet is compared with the match's result.
use Rattle.std.specs.Prelude.{ℕ, Option, List}
use Rattle.match_model.specs.Instance.{Instance}
use Rattle.exchange_core.specs.declared.event.Event.{Event}
use Rattle.exchange_core.specs.declared.event.Capacity.TheVariants.{Full}
use Rattle.exchange_core.specs.Left.{Left}
use Rattle.exchange_core.specs.Shown.{Shows}
use Rattle.settle_law.specs.Stable.{IsSettled}
use Rattle.match_audit.specs.Replay.{IsFirstDifference}

-- with the capacity `full`, this is left at the desks after some legal list of events
abbrev pub IsReached : Instance → Left → Type 0
IsReached inst left = (j : List Event) × Shows inst Full j left

-- r is the first resident for whom the sheet differs from the settled assignment
abbrev pub IsUnlikeResult : Instance → List (Option ℕ) → ℕ → Type 0
IsUnlikeResult inst sheet r = (settled : List (Option ℕ)) × IsSettled inst settled × IsFirstDifference sheet settled r
