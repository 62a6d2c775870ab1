use Rattle.std.proofs.Common.{rules}
use Rattle.desk_scheduler.proofs.Queues.{nobody_yet}
use Rattle.desk_scheduler.proofs.wait_queues.WaitQueues.with_desks.Goals as goal

pub invariant_of-result : goal.invariant_of-result
invariant_of-result c = (nobody_yet _ c.args.desks (search rules) (search rules) (search rules) (search rules) (search rules)).0

pub returns-clause-queues : goal.returns-clause-queues
returns-clause-queues c = (nobody_yet (record { first = c.in_ok-vec.field-0.items; last = c.in_ok-vec-2.field-0.items; mailbox = c.in_ok-vec-3.field-0.items; before = c.in_ok-vec-4.field-0.items; behind = c.in_ok-vec-5.field-0.items; called = c.in_ok-vec-6.field-0.items }) c.args.desks (search rules) (search rules) (search rules) (search rules) (search rules)).1
