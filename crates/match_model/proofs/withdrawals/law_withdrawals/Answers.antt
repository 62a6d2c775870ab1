use Rattle.match_model.proofs.Struck as lemmas
use Rattle.match_model.proofs.withdrawals.law_withdrawals.Goals as goal

pub returns-clause-acceptable : goal.returns-clause-acceptable
returns-clause-acceptable c = lemmas.acceptable_where

pub returns-clause-struck : goal.returns-clause-struck
returns-clause-struck c = lemmas.as_struck

pub returns-clause-all_here : goal.returns-clause-all_here
returns-clause-all_here c = lemmas.all_here

pub returns-clause-all_here_too : goal.returns-clause-all_here_too
returns-clause-all_here_too c = lemmas.all_here_too
