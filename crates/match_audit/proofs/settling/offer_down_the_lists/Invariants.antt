use Rattle.match_model.specs.Instance.{IsProgramme}
use Rattle.exchange_core.specs.Steps.{IsCoreOf}
use Rattle.match_audit.specs.Result.{IsReached}
use Rattle.match_audit.proofs.settling.offer_down_the_lists.Given as goal

abbrev pub invariant-loop-first_number : goal.invariant-loop-first_number
invariant-loop-first_number l = record {
  core : IsCoreOf l.inst l.core;
  reached : IsReached l.inst l.core;
}

abbrev pub invariant-loop-turn : goal.invariant-loop-turn
invariant-loop-turn l = record {
  core : IsCoreOf l.inst l.core;
  reached : IsReached l.inst l.core;
  programme : IsProgramme l.inst l.programme;
}
