use Rattle.match_theorem.proofs.Matches.{national_law}
use Rattle.match_theorem.proofs.theorem.law_national_program.Goals as goal

pub returns : goal.returns
returns c = national_law
