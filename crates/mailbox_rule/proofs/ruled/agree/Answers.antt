use Rattle.std.proofs.Common.{rules}
use Rattle.mailbox_rule.proofs.Steps.{cuts, joins}
use Rattle.mailbox_rule.proofs.ruled.agree.Goals as goal

pub absorb-requires-clause-rule : goal.absorb-requires-clause-rule
absorb-requires-clause-rule g c = joins _ _ _ _ c.put.invariant.1 c.take.invariant.1

pub another-take_pass-requires-clause-rule : goal.another-take_pass-requires-clause-rule
another-take_pass-requires-clause-rule g c = cuts _ _ _ (search rules) (search rules) (search rules)
