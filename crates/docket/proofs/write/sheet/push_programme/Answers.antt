use Rattle.std.proofs.Common.{sym, ap, ◌∙◌}
use Rattle.std.specs.Prelude.{decimal}
use Rattle.std.proofs.lemmas.Result.{on_ok_weaker}
use Rattle.match_model.specs.Instance.{quota}
use Rattle.docket.specs.Texts.{programme_row}
use Rattle.docket.proofs.write.sheet.push_programme.Goals as goal

pub returns : goal.returns
unfolding programme_row
returns g c =
    let name = sym (c.as_bytes-name.ensures.value ∙ c.programme_name.ensures) in
    let filled = sym (c.as_bytes-filled.ensures.value ∙ c.format-2.ensures.text) in
    let places = sym (c.as_bytes-quota.ensures.value ∙ (c.format.ensures.text ∙ ap decimal (c.quota.ensures ∙ ap (λ i. quota i c.args.programme) c.instance.ensures.instance))) in
    on_ok_weaker c.push.result (λ h. rw (name, filled, places) h) c.push.ensures
