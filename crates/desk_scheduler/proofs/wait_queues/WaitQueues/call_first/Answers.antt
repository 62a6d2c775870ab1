use Rattle.std.proofs.Common.{sym, subst, arith}
use Rattle.desk_scheduler.specs.Waits.{Waits, AreQueues}
use Rattle.desk_scheduler.proofs.QueueRows.{nobody, no_first}
use Rattle.desk_scheduler.proofs.wait_queues.WaitQueues.call_first.Goals as goal

pub returns-then-self-eq0-clause-first : goal.returns-then-self-eq0-clause-first
returns-then-self-eq0-clause-first c =
    let are : AreQueues c.args.self.now c.self.inside.waiting_count = subst (λ (w : Waits). AreQueues w c.self.inside.waiting_count) c.self.view_is c.self.invariant in
    sym (no_first c.args.self.now c.self.inside.waiting_count are (omega (arith, c.if-self-eq0.true)) c.args.mailbox)

pub returns-then-self-eq0-clause-queue : goal.returns-then-self-eq0-clause-queue
returns-then-self-eq0-clause-queue c =
    let are : AreQueues c.args.self.now c.self.inside.waiting_count = subst (λ (w : Waits). AreQueues w c.self.inside.waiting_count) c.self.view_is c.self.invariant in
    nobody c.args.self.now c.self.inside.waiting_count are (omega (arith, c.if-self-eq0.true)) c.args.mailbox
