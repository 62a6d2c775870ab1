use Rattle.settle_law.proofs.EventCount.{bound}
use Rattle.settle_law.proofs.lists.law_bound.Goals as goal

pub returns : goal.returns
returns c = bound
