use Rattle.match_reasons.proofs.HonestProof.{honest}
use Rattle.match_reasons.proofs.laws.law_honest.Goals as goal

pub returns : goal.returns
returns c = honest
