use Rattle.docket.proofs.RankedFacts.{pairs_fine, pairs_over}
use Rattle.docket.proofs.passes.ranking.finished.Goals as goal

pub returns-in-Ok-clause-fault : goal.returns-in-Ok-clause-fault
returns-in-Ok-clause-fault c rows ranked count = pairs_fine c.args.builder rows ranked c.in-Ok.ensures.within.few_pairs

pub returns-in-Ok-2-clause-fault : goal.returns-in-Ok-2-clause-fault
returns-in-Ok-2-clause-fault c rows ranked count = pairs_fine c.args.builder rows ranked c.in-Ok-2.ensures.within.few_pairs

pub returns-in-Err-clause-fault : goal.returns-in-Err-clause-fault
returns-in-Err-clause-fault c rows ranked count = rw c.model_fault.ensures (pairs_over c.args.builder rows c.in-Err.refused.fault c.args.record_count ranked c.in-Err.ensures.cause count)
