use Rattle.std.proofs.Common.{◌<◌, ℕ, List, take, sym, ◌∙◌, subst}
use Rattle.std.specs.Prelude.{◌↔◌, Option}
use Rattle.match_model.specs.Ranking.{place, IsListed}
use Rattle.match_model.specs.Instance.{list_of_resident}
use Rattle.settle_law.specs.Stable.{Prefers}
use Rattle.match_audit.proofs.Ranks.{front_of}
use Rattle.match_audit.proofs.findings.preferred.Goals as goal

pub returns-in-Some-rank_at_resident-clause-front : goal.returns-in-Some-rank_at_resident-clause-front
returns-in-Some-rank_at_resident-clause-front c = λ p.
    let list : List ℕ = list_of_resident c.args.inst.now c.args.resident in
    let front = front_of list c.in-Some.held_programme p c.in-Some-rank_at_resident.rank (sym c.in-Some-rank_at_resident.is ∙ c.rank_at_resident.ensures) in
    subst (λ (o : Option ℕ). IsListed (take c.in-Some-rank_at_resident.rank c.list_of_resident-list.result.now) p ↔ (IsListed list p × Prefers list p o)) (sym c.in-Some.is)
    (subst (λ (xs : List ℕ). IsListed (take c.in-Some-rank_at_resident.rank xs) p ↔ (IsListed list p × (place list p < place list c.in-Some.held_programme))) (sym c.list_of_resident-list.ensures.list) front)
