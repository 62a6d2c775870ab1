use Rattle.std.proofs.Common.{ℕ, List, sym, ap, ◌∙◌, subst}
use Rattle.exchange_core.specs.declared.event.Event.{Event}
use Rattle.exchange_core.specs.Legal.{IsClosed}
use Rattle.exchange_core.specs.Left.{given}
use Rattle.match_pool.specs.Done.{AreCounted}
use Rattle.match_pool.proofs.Runs.{legal_of, shown_of, run_of, settled_run}
use Rattle.match_pool.proofs.after_joins.done_of.Goals as goal

pub returns : goal.returns
returns g c =
    let asked = c.requires in
    let kept = c.into_parts-journal.ensures.kept in
    let parts = c.into_parts-journal.ensures.parts in
    let workers = g.J.ExchangeIdentity.workers in
    let cap = g.J.ExchangeIdentity.cap in
    let inst = c.args.inst.now in
    let journal = c.into_parts-journal.result.0.items in
    let counts = c.count.ensures in
    let shows = shown_of _ _ _ _ _ _ _ _ asked.instance kept c.core.result.now c.core.ensures.core in
    let gives = c.assignment.ensures.exact inst cap c.args.ledger.journal shows ∙ ap (given inst) (sym parts.0) in
    let legal = legal_of _ _ _ _ _ _ _ _ asked.instance kept journal parts.0 in
    let counted = subst (λ (j : List Event). AreCounted workers j c.into_parts-journal.result.4.items c.count.new.entered.items) (sym parts.0)
    (subst (λ (ws : List ℕ). AreCounted workers c.args.ledger.journal ws c.count.new.entered.items) (sym parts.4) counts) in
    λ may_stop stopped. run_of _ _ _ _ _ _ _ _ asked.instance kept _ _ _ _ _ _ parts.0 parts.2 parts.3 asked.ending asked.takes asked.taken asked.hears asked.heard
    workers may_stop stopped gives (λ closed. settled_run inst cap journal c.assignment.new.assignment c.law_orderly.ensures c.law_settled.ensures c.residents-members.ensures.instance legal (subst (λ (j : List Event). IsClosed j) (sym parts.0) (asked.ending.0 closed)) gives) counted
