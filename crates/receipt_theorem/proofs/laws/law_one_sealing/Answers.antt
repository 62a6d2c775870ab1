use Rattle.receipt_theorem.proofs.Shown.{one_sealing}
use Rattle.receipt_theorem.proofs.laws.law_one_sealing.Goals as goal

pub returns : goal.returns
returns c = one_sealing
