use Rattle.seal_text.proofs.OpenFacts.{receipt_opens}
use Rattle.seal_text.proofs.laws.law_receipt_opens.Goals as goal

pub returns : goal.returns
returns c = receipt_opens
