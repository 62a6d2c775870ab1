use Rattle.std.proofs.Common.{◌∙◌, ap, sym}
use Rattle.std.specs.Prelude.{decimal}
use Rattle.std.proofs.lemmas.Result.{on_ok_weaker}
use Rattle.match_model.specs.Instance.{Instance, quota}
use Rattle.docket.specs.Texts.{programme_row}
use Rattle.seal_text.proofs.texts.put_filled.Goals as goal

pub returns : goal.returns
unfolding programme_row
returns c =
    let name = sym (c.as_bytes-name.ensures.value ∙ c.programme_name.ensures) in
    let filled = sym (c.as_bytes-filled_digits.ensures.value ∙ c.format.ensures.text) in
    let places = c.quota.ensures ∙ ap (λ (i : Instance). quota i c.args.programme) c.instance.ensures.instance in
    let own = sym (c.as_bytes-quota_digits.ensures.value ∙ c.format-2.ensures.text ∙ ap decimal places) in
    on_ok_weaker c.put_row.result (λ h. rw (name, filled, own) h) c.put_row.ensures
