use Rattle.std.proofs.Common.{sym, ◌∙◌}
use Rattle.std.proofs.lemmas.Result.{on_ok_weaker}
use Rattle.docket.specs.Texts.{mark_row}
use Rattle.seal_text.proofs.texts.put_member.Goals as goal

pub returns : goal.returns
unfolding mark_row
returns c =
    let resident = sym (c.as_bytes-name.ensures.value ∙ c.resident_name.ensures) in
    let programme = sym (c.as_bytes.ensures.value ∙ c.programme_name.ensures) in
    on_ok_weaker c.put_row.result (λ h. rw (resident, programme) h) c.put_row.ensures
