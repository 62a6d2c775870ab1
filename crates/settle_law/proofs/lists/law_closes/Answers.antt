use Rattle.settle_law.proofs.Going.{closes}
use Rattle.settle_law.proofs.lists.law_closes.Goals as goal

pub returns : goal.returns
returns c = closes
