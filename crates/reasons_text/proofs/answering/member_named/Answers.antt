use Rattle.std.proofs.Common.{inr}
use Rattle.reasons_text.specs.Naming.{naming_of}
use Rattle.reasons_text.proofs.WhomFacts.{two_meant}
use Rattle.reasons_text.proofs.answering.member_named.Goals as goal

pub returns-in_ok-shared_name-in-Several-clause-fault : goal.returns-in_ok-shared_name-in-Several-clause-fault
returns-in_ok-shared_name-in-Several-clause-fault c =
    let meant = rw c.in-Several.is at c.in_ok-number.ensures in
    inr (inr (c.in_ok-shared_name-in-Several.ensures, two_meant (naming_of c.args.names.now) c.args.side c.args.name.now meant))
