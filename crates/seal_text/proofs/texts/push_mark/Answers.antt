use Rattle.std.proofs.Common.{sym, ◌∙◌}
use Rattle.std.proofs.lemmas.Result.{on_ok_weaker}
use Rattle.docket.specs.Texts.{mark_row}
use Rattle.seal_text.proofs.texts.push_mark.Goals as goal

pub returns-in-Some : goal.returns-in-Some
unfolding mark_row
returns-in-Some g c =
    let resident = sym (c.as_bytes-name.ensures.value ∙ c.resident_name.ensures) in
    let programme = sym (c.as_bytes.ensures.value ∙ c.programme_name.ensures) in
    on_ok_weaker c.push.result (λ h. rw (c.in-Some.is, resident, programme) h) c.push.ensures

pub returns-in-None : goal.returns-in-None
unfolding mark_row
returns-in-None g c =
    let resident = sym (c.as_bytes-name.ensures.value ∙ c.resident_name.ensures) in
    on_ok_weaker c.push-in-None.result (λ h. rw (c.in-None.is, resident) h) c.push-in-None.ensures
