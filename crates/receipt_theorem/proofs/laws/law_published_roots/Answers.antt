use Rattle.receipt_theorem.proofs.Shown.{roots}
use Rattle.receipt_theorem.proofs.laws.law_published_roots.Goals as goal

pub returns : goal.returns
returns c = roots
