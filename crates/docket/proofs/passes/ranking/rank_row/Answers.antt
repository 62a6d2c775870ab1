use Rattle.std.proofs.Common.{◌∙◌, ap}
use Rattle.docket.specs.declared.store.lists.ListKind.TheVariants.{Ranking, Withdrawal}
use Rattle.docket.specs.declared.vocabulary.Side.TheVariants.{Programmes, Residents}
use Rattle.docket.proofs.ListNextFacts.{on_ok, next_as, next_gone}
use Rattle.docket.proofs.passes.ranking.rank_row.Goals as goal

pub returns-in-Ranking-Programmes-clause-ranked : goal.returns-in-Ranking-Programmes-clause-ranked
returns-in-Ranking-Programmes-clause-ranked c = on_ok c.rank_residents.result c.rank_residents.ensures.ranked (λ given texts rows k entry at h.
    given texts rows k (next_as texts c.args.programmes.now c.args.residents.now c.args.builder.now rows k c.args.lists.now.entries c.args.row_index entry c.row-row.result.record_no c.row-row.result.owner c.row-row.result.listed_names.now _ (Ranking Programmes) c.row-row.ensures (c.in-Ranking-Programmes.is ∙ ap Ranking (rw c.in-Ranking-Programmes.is at c.in-Ranking-Programmes.field-0-is)) at h))

pub returns-in-Ranking-Residents-clause-ranked : goal.returns-in-Ranking-Residents-clause-ranked
returns-in-Ranking-Residents-clause-ranked c = on_ok c.rank_programmes.result c.rank_programmes.ensures.ranked (λ given texts rows k entry at h.
    given texts rows k (next_as texts c.args.programmes.now c.args.residents.now c.args.builder.now rows k c.args.lists.now.entries c.args.row_index entry c.row-row.result.record_no c.row-row.result.owner c.row-row.result.listed_names.now _ (Ranking Residents) c.row-row.ensures (c.in-Ranking-Residents.is ∙ ap Ranking (rw c.in-Ranking-Residents.is at c.in-Ranking-Residents.field-0-is)) at h))

pub returns-in-Withdrawal-Programmes-clause-ranked : goal.returns-in-Withdrawal-Programmes-clause-ranked
returns-in-Withdrawal-Programmes-clause-ranked c = on_ok c.withdraw_programme.result c.withdraw_programme.ensures.ranked (λ given texts rows k entry at h.
    given texts rows c.args.residents.now k (next_gone texts c.args.programmes.now c.args.residents.now c.args.builder.now rows k c.row-row.result.record_no c.row-row.result.owner c.row-row.result.listed_names.now Programmes (next_as texts c.args.programmes.now c.args.residents.now c.args.builder.now rows k c.args.lists.now.entries c.args.row_index entry c.row-row.result.record_no c.row-row.result.owner c.row-row.result.listed_names.now _ (Withdrawal Programmes) c.row-row.ensures (c.in-Withdrawal-Programmes.is ∙ ap Withdrawal (rw c.in-Withdrawal-Programmes.is at c.in-Withdrawal-Programmes.field-0-is)) at h)))

pub returns-in-Withdrawal-Residents-clause-ranked : goal.returns-in-Withdrawal-Residents-clause-ranked
returns-in-Withdrawal-Residents-clause-ranked c = on_ok c.withdraw_resident.result c.withdraw_resident.ensures.ranked (λ given texts rows k entry at h.
    given texts rows c.args.programmes.now k (next_gone texts c.args.programmes.now c.args.residents.now c.args.builder.now rows k c.row-row.result.record_no c.row-row.result.owner c.row-row.result.listed_names.now Residents (next_as texts c.args.programmes.now c.args.residents.now c.args.builder.now rows k c.args.lists.now.entries c.args.row_index entry c.row-row.result.record_no c.row-row.result.owner c.row-row.result.listed_names.now _ (Withdrawal Residents) c.row-row.ensures (c.in-Withdrawal-Residents.is ∙ ap Withdrawal (rw c.in-Withdrawal-Residents.is at c.in-Withdrawal-Residents.field-0-is)) at h)))

pub returns-in-Withdrawal-Programmes-clause-fault : goal.returns-in-Withdrawal-Programmes-clause-fault
returns-in-Withdrawal-Programmes-clause-fault c texts rows k entry at h =
    c.withdraw_programme.ensures.fault texts rows c.args.residents.now k (next_gone texts c.args.programmes.now c.args.residents.now c.args.builder.now rows k c.row-row.result.record_no c.row-row.result.owner c.row-row.result.listed_names.now Programmes (next_as texts c.args.programmes.now c.args.residents.now c.args.builder.now rows k c.args.lists.now.entries c.args.row_index entry c.row-row.result.record_no c.row-row.result.owner c.row-row.result.listed_names.now _ (Withdrawal Programmes) c.row-row.ensures (c.in-Withdrawal-Programmes.is ∙ ap Withdrawal (rw c.in-Withdrawal-Programmes.is at c.in-Withdrawal-Programmes.field-0-is)) at h))

pub returns-in-Withdrawal-Residents-clause-fault : goal.returns-in-Withdrawal-Residents-clause-fault
returns-in-Withdrawal-Residents-clause-fault c texts rows k entry at h =
    c.withdraw_resident.ensures.fault texts rows c.args.programmes.now k (next_gone texts c.args.programmes.now c.args.residents.now c.args.builder.now rows k c.row-row.result.record_no c.row-row.result.owner c.row-row.result.listed_names.now Residents (next_as texts c.args.programmes.now c.args.residents.now c.args.builder.now rows k c.args.lists.now.entries c.args.row_index entry c.row-row.result.record_no c.row-row.result.owner c.row-row.result.listed_names.now _ (Withdrawal Residents) c.row-row.ensures (c.in-Withdrawal-Residents.is ∙ ap Withdrawal (rw c.in-Withdrawal-Residents.is at c.in-Withdrawal-Residents.field-0-is)) at h))
