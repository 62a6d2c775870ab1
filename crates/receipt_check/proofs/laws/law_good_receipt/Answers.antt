use Rattle.receipt_check.proofs.GoodFacts.{good}
use Rattle.receipt_check.proofs.laws.law_good_receipt.Goals as goal

pub returns : goal.returns
returns c = good
