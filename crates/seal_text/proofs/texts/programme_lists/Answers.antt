use Rattle.std.proofs.Common.{◌∙◌, sym}
use Rattle.seal_text.proofs.RecordFacts.{if_some}
use Rattle.seal_text.proofs.TextFacts.{programme_made}
use Rattle.seal_text.proofs.texts.programme_lists.Goals as goal

pub put_ranking-requires : goal.put_ranking-requires
put_ranking-requires c = if_some _ _ (λ list e. c.requires.given c.args.programme list (sym c.list_of.ensures ∙ e))

pub returns : goal.returns
returns c = λ draft are.
    programme_made c.args.docket.now draft c.args.real_names.now c.args.programme c.new-text.result c.put_quota.new.leaf_text c.put_ranking.new.leaf_text c.put_withdrawal_if.new.leaf_text c.put_real_name.new.leaf_text
    c.as_bytes-name.result.now c.quota-quota.result _ c.programme_withdrawn-withdrawn.result _ c.new-text.ensures.items (c.as_bytes-name.ensures.value ∙ c.programme_name.ensures)
    (rw c.instance.ensures.instance at c.quota-quota.ensures) (rw are at c.list_of.ensures) (rw c.instance-2.ensures.instance at c.programme_withdrawn-withdrawn.ensures)
    c.programme.ensures c.in_ok-put_quota.ensures c.in_ok-put_ranking.ensures c.in_ok-put_withdrawal_if.ensures c.in_ok-put_real_name.ensures
