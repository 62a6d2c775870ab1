use Rattle.mailbox_rule.proofs.Steps.{puts, fills}
use Rattle.mailbox_rule.proofs.ruled.RuledPutPutEnd.put.Goals as goal

pub try_send_as-requires-clause-rule : goal.try_send_as-requires-clause-rule
try_send_as-requires-clause-rule g c = (puts _ _ _ _ c.self.invariant.1 c.self.invariant.2, fills _ _ c.self.invariant.1)
