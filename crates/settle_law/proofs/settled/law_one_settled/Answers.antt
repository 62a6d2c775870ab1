use Rattle.settle_law.proofs.OneSettled.{one_settled}
use Rattle.settle_law.proofs.settled.law_one_settled.Goals as goal

pub returns : goal.returns
returns c = one_settled
