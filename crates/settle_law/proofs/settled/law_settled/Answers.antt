use Rattle.settle_law.proofs.Settles.{closed_settles}
use Rattle.settle_law.proofs.settled.law_settled.Goals as goal

pub returns : goal.returns
returns c = closed_settles
