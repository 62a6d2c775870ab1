-- What a shift shows, and how its calls change its counts of workers.
use Rattle.std.specs.Prelude.{◌≡◌, ◌+◌, ℕ}
use Rattle.desk_scheduler.specs.Schedule.{Schedule}
use Rattle.desk_scheduler.specs.declared.scheduler.Next.{Next}
use Rattle.desk_scheduler.specs.declared.scheduler.Next.TheVariants as next
use Rattle.desk_scheduler.specs.declared.turn.Turn.{Turn}
use Rattle.desk_scheduler.specs.declared.turn.Turn.TheVariants as turn

-- the schedule, how many workers have begun, how many of them hold a desk, how many look for a desk, and how many
-- rest
pub record Manned : Type 0 where
  pub schedule : Schedule
  pub begun : ℕ
  pub holding : ℕ
  pub looking : ℕ
  pub resting : ℕ

-- this many of the workers that look for a desk get one, and no other count changes
pub record GetDesks (old new : Manned) (count : ℕ) : Type 0 where
  pub holding : new.holding ≡ old.holding + count
  pub looking : new.looking + count ≡ old.looking
  pub resting : new.resting ≡ old.resting
  pub begun : new.begun ≡ old.begun

module _ {H L : Type 0} where
  -- which desk the scheduler gave to a worker in this turn, if any
  abbrev pub next_in : (H → ℕ) → Turn H L → Next
  next_in number (turn.Desk hand) = next.Desk (number hand)
  next_in number (turn.Nothing own) = next.Nothing
  next_in number (turn.Ended own) = next.Ended

  -- how many desks a worker holds in this turn
  abbrev pub desks_in : Turn H L → ℕ
  desks_in (turn.Desk hand) = 1
  desks_in (turn.Nothing own) = 0
  desks_in (turn.Ended own) = 0
