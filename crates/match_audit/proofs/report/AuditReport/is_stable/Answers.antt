use Rattle.std.proofs.Common.{arith}
use Rattle.std.proofs.lemmas.Grind.{common_steps}
use Rattle.match_audit.proofs.Reports.{tells_stability}
use Rattle.match_audit.proofs.report.AuditReport.is_stable.Goals as goal

pub returns-then-is_empty-2-clause-stable : goal.returns-then-is_empty-2-clause-stable
returns-then-is_empty-2-clause-stable c = tells_stability c.args.self.now c.is_empty-then-is_empty-2.result (grind (arith, common_steps))

pub returns-else-is_empty-2-clause-stable : goal.returns-else-is_empty-2-clause-stable
returns-else-is_empty-2-clause-stable c = tells_stability c.args.self.now c.if-is_empty.value (grind (arith, common_steps))
