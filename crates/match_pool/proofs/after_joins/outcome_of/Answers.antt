use Rattle.match_pool.proofs.after_joins.outcome_of.Goals as goal

pub out_of_step_fault-requires-clause-out_of_step : goal.out_of_step_fault-requires-clause-out_of_step
out_of_step_fault-requires-clause-out_of_step g c = λ _ _. c.into_parts-ledger.ensures.refused c.in-Some.receipt c.in-Some.is
