use Rattle.receipt_theorem.proofs.Shown.{good_receipts}
use Rattle.receipt_theorem.proofs.laws.law_good_receipts.Goals as goal

pub returns : goal.returns
returns c = good_receipts
