use Rattle.match_theorem.proofs.Matches.{match_law}
use Rattle.match_theorem.proofs.theorem.law_match.Goals as goal

pub returns : goal.returns
returns c = match_law
