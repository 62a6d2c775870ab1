use Rattle.settle_law.proofs.Settles.{closed_same_residents}
use Rattle.settle_law.proofs.settled.law_same_residents.Goals as goal

pub returns : goal.returns
returns c = closed_same_residents
