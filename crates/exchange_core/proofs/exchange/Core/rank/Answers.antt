use Rattle.std.proofs.Common.{◌≡◌, ◌∙◌, ◌<◌, ℕ, None, Some, length, sym, ap, subst}
use Rattle.match_model.specs.Instance.{list_of_resident, rank, offer_at}
use Rattle.match_model.specs.Ranking.{place}
use Rattle.exchange_core.specs.declared.event.Event.{Event}
use Rattle.exchange_core.specs.Left.{Left}
use Rattle.exchange_core.specs.Steps.{IsRankOf, programme_at}
use Rattle.exchange_core.proofs.Left.{offer_ready, offer_ranked}
use Rattle.exchange_core.proofs.exchange.Core.rank.Goals as goal

none_some : {X : Type 0} (x : X) → None ≡ Some x → ⊥
none_some x e = cc

pub offered-requires : goal.offered-requires
offered-requires c = subst (λ (left : Left). c.in-Offer.programme < length left.programmes) (sym c.self.view_is)
    (offer_ready _ _ c.programmes-members.ensures.instance c.requires.core _ _ _ c.in-Offer.is c.requires.free).programme_seat

pub offer_at-requires : goal.offer_at-requires
offer_at-requires c = (offer_ready _ _ c.programmes-members.ensures.instance c.requires.core _ _ _ c.in-Offer.is c.requires.free).member

pub returns-in-Some : goal.returns-in-Some
returns-in-Some c =
    let made = c.in-Some.ensures.offer ∙ ap (λ (k : ℕ). offer_at c.args.inst.now c.in-Offer.programme k) (c.offered.ensures ∙ ap (λ (left : Left). (programme_at left c.in-Offer.programme).offered) c.self.view_is)
    ∙ offer_ranked _ _ c.programmes-members.ensures.instance c.requires.core _ _ _ c.in-Offer.is c.requires.free in
    let same : (c.in-Some.field-0-0, c.in-Some.rank) ≡ (c.in-Offer.resident, place (list_of_resident c.args.inst.now c.in-Offer.resident) c.in-Offer.programme) = cc in
    subst (λ (e : Event). IsRankOf c.args.inst.now e c.in-Some.rank) (sym c.in-Offer.is)
    (subst (λ (r : ℕ). rank (list_of_resident c.args.inst.now r) c.in-Offer.programme ≡ Some c.in-Some.rank) (ap (λ (both : ℕ × ℕ). both.0) same) c.in-Some.ensures.ranked)

pub returns-in-None : goal.returns-in-None
returns-in-None c =
    let made = c.in-None.ensures.offer ∙ ap (λ (k : ℕ). offer_at c.args.inst.now c.in-Offer.programme k) (c.offered.ensures ∙ ap (λ (left : Left). (programme_at left c.in-Offer.programme).offered) c.self.view_is)
    ∙ offer_ranked _ _ c.programmes-members.ensures.instance c.requires.core _ _ _ c.in-Offer.is c.requires.free in
    absurd (none_some _ made)
