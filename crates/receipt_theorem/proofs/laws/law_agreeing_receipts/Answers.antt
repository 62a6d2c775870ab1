use Rattle.receipt_theorem.proofs.Agreeing.{agreeing}
use Rattle.receipt_theorem.proofs.laws.law_agreeing_receipts.Goals as goal

pub returns : goal.returns
returns c = agreeing c.law_pairs.ensures
