use Rattle.std.proofs.Common.{◌∙◌, ap}
use Rattle.match_model.specs.Written.{Written}
use Rattle.seal_text.proofs.TextFacts.{resident_made}
use Rattle.seal_text.proofs.texts.resident_lists.Goals as goal

pub returns : goal.returns
returns c = λ draft are.
    resident_made c.args.docket.now draft c.args.real_names.now c.args.resident c.new-text.result c.put_line.new.text c.put_withdrawal_if.new.leaf_text c.put_real_name.new.leaf_text
    c.as_bytes-name.result.now _ _ c.args.written_lists.now.resident_lists c.resident_withdrawn-withdrawn.result _ c.new-text.ensures.items (c.as_bytes-name.ensures.value ∙ c.resident_name.ensures)
    (ap (λ (w : Written). w.resident_lists) are) (rw c.instance.ensures.instance at c.resident_withdrawn-withdrawn.ensures)
    c.resident.ensures c.in_ok-row.ensures.fields c.in_ok-push_choices.ensures.added c.in_ok-put_line.ensures c.in_ok-put_withdrawal_if.ensures c.in_ok-put_real_name.ensures
