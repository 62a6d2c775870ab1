use Rattle.std.proofs.Common.{List, sym, subst}
use Rattle.exchange_core.specs.declared.event.Event.{Event}
use Rattle.exchange_core.specs.Legal.{MayFollow}
use Rattle.match_model.specs.Instance.{Instance}
use Rattle.match_pool.proofs.Runs.{legal_of}
use Rattle.match_pool.proofs.after_joins.out_of_step_fault.Goals as goal

pub returns : goal.returns
returns g c =
    let kept = c.into_parts-journal.ensures.kept in
    let out = c.into_parts-journal.ensures.parts.0 in
    let cap = g.J.ExchangeIdentity.cap in
    let refused = c.requires.out_of_step.may_not_follow in (
      legal_of _ _ _ _ _ _ _ _ c.requires.instance kept c.into_parts-journal.result.0.items out,
      c.requires.out_of_step.is_receipt,
      subst (λ (j : List Event). MayFollow c.args.inst.now cap j c.args.receipt → ⊥) (sym out)
          (subst (λ (i : Instance). MayFollow i cap c.args.ledger.journal c.args.receipt → ⊥) (sym c.requires.instance) refused),
    )
