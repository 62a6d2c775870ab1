use Rattle.std.proofs.Common.{◌≤◌, List, length}
use Rattle.exchange_core.specs.declared.event.Event.{Event}
use Rattle.exchange_core.specs.declared.event.Capacity.TheVariants.{Full}
use Rattle.exchange_core.specs.Shown.{Shows}
use Rattle.exchange_core.specs.Steps.{IsCoreOf}
use Rattle.match_audit.proofs.settling.step_to_the_close.Given as goal

abbrev pub invariant-loop-turn : goal.invariant-loop-turn
invariant-loop-turn l = record {
  core : IsCoreOf l.inst l.core;
  shows : (j : List Event) × Shows l.inst Full j l.core × (l._turn ≤ length j);
}
