use Rattle.match_reasons.proofs.PairsProof.{pairs}
use Rattle.match_reasons.proofs.laws.law_pairs.Goals as goal

pub returns : goal.returns
returns c = pairs
