use Rattle.settle_law.proofs.Settles.{spares_achievable}
use Rattle.settle_law.proofs.settled.law_never_rejects.Goals as goal

pub returns : goal.returns
returns c = spares_achievable
