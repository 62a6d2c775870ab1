use Rattle.std.proofs.Common.{ℕ, List, length, subst}
use Rattle.exchange_core.specs.declared.event.Event.{Event}
use Rattle.exchange_core.specs.Mail.{takes, hears}
use Rattle.match_pool.specs.Compare.{AreLogs, taken_of, heard_of}
use Rattle.match_pool.proofs.after_joins.Reserve.finish.Goals as goal

pub done_of-requires-clause-takes : goal.done_of-requires-clause-takes
done_of-requires-clause-takes g c = λ _ _.
    let logs = subst (λ (n : ℕ). AreLogs taken_of c.in-Ok.agents.0.items n (λ r. takes r c.journal.result.now)) c.residents.ensures.count c.in-Ok.ensures.takes in
    subst (λ (j : List Event). AreLogs taken_of c.in-Ok.agents.0.items (length c.args.inst.now.resident_lists) (λ r. takes r j)) c.journal.ensures.journal logs

pub done_of-requires-clause-hears : goal.done_of-requires-clause-hears
done_of-requires-clause-hears g c = λ _ _.
    let logs = subst (λ (n : ℕ). AreLogs heard_of c.in-Ok.agents.1.items n (λ p. hears p c.journal.result.now)) c.programmes.ensures.count c.in-Ok.ensures.hears in
    subst (λ (j : List Event). AreLogs heard_of c.in-Ok.agents.1.items (length c.args.inst.now.quotas) (λ p. hears p j)) c.journal.ensures.journal logs

pub returns-in-Ok-clause-run : goal.returns-in-Ok-clause-run
returns-in-Ok-clause-run g c = c.done_of.ensures g.G.Gate.MAY_STOP c.in_ok-ledger.ensures.stopped
