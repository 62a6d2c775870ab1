use Rattle.std.proofs.Common.{◌≡◌, ℕ, ◌-◌, ◌<◌, [], length}
use Rattle.std.specs.List.{range_with_len}
use Rattle.desk_scheduler.specs.declared.side.Place.TheVariants.{Idle}
use Rattle.desk_scheduler.specs.Desks.{place_of}
use Rattle.desk_scheduler.proofs.side.Side.ready.Given as goal

-- the desks from the last one down are listed so far, and the lowest of them is in front
abbrev pub invariant-loop-listed_count : goal.invariant-loop-listed_count
invariant-loop-listed_count l = record {
  desks : length l.side.places ≡ l.desks;
  ready : l.side.ready ≡ range_with_len (l.desks - l.listed_count) l.listed_count;
  behind : l.side.behind ≡ [];
  idle : (d : ℕ) → d < l.desks - l.listed_count → place_of l.side d ≡ Idle;
}
