use Rattle.receipt_theorem.proofs.Shown.{sealed_receipt}
use Rattle.receipt_theorem.proofs.laws.law_sealed_receipt.Goals as goal

pub returns : goal.returns
returns c = sealed_receipt
