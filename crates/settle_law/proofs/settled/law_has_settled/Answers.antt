use Rattle.settle_law.proofs.HasSettled.{has_settled}
use Rattle.settle_law.proofs.settled.law_has_settled.Goals as goal

pub returns : goal.returns
returns c = has_settled
