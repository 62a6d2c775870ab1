-- The options of a match, and the order that a command line gives.
use Rattle.std.specs.Prelude.{◌≡◌, ◌≤◌, true}
use Rattle.exchange_core.specs.Shown.{is_capacity}
use Rattle.command_line.specs.declared.options.MatchOptions.{MatchOptions}
use Rattle.command_line.specs.declared.options.Order.{Order}
use Rattle.command_line.specs.declared.options.Order.TheVariants.{Match, Audit, Replay}

-- there are 1 to 8 workers, and the capacity is full or from 1 to 1,024 places
pub record IsWithinLimits (o : MatchOptions) : Type 0 where
  pub some_worker : 1 ≤ o.workers
  pub few_workers : o.workers ≤ 8
  pub capacity : is_capacity o.capacity ≡ true

-- if the order is a match, its options are within the limits
abbrev pub IsOrder : Order → Type 0
IsOrder (Match o) = IsWithinLimits o
IsOrder Audit = Unit {0}
IsOrder Replay = Unit {0}
