use Rattle.settle_law.proofs.Orderliness.{orderly}
use Rattle.settle_law.proofs.lists.law_orderly.Goals as goal

pub returns : goal.returns
returns c = orderly
