use Rattle.std.proofs.Common.{rules}
use Rattle.mailbox_rule.proofs.Steps.{begins, cuts}
use Rattle.mailbox_rule.proofs.ruled.mailbox.Goals as goal

pub bounded_with-requires-clause-rule : goal.bounded_with-requires-clause-rule
bounded_with-requires-clause-rule g c = begins

pub another-take_pass-requires-clause-rule : goal.another-take_pass-requires-clause-rule
another-take_pass-requires-clause-rule g c = cuts _ _ _ (search rules) (search rules) (search rules)
