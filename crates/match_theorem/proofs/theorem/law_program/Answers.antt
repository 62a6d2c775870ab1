use Rattle.match_theorem.proofs.Matches.{program_law}
use Rattle.match_theorem.proofs.theorem.law_program.Goals as goal

pub returns : goal.returns
returns c = program_law
