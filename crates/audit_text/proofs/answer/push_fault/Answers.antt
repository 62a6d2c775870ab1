use Rattle.std.proofs.Common.{◌≡◌, ◌+◌, sym, ap, ◌∙◌}
use Rattle.std.specs.Prelude.{decimal}
use Rattle.std.proofs.lemmas.Result.{on_ok_weaker}
use Rattle.docket.specs.Texts.{resident_name}
use Rattle.audit_text.specs.Answer.{event_count}
use Rattle.audit_text.proofs.answer.push_fault.Goals as goal

pub returns-in-NotClosed : goal.returns-in-NotClosed
returns-in-NotClosed g c =
    let place : decimal (event_count c.args.docket.now.journal + 1) ≡ c.as_bytes-event_digits-in-NotClosed.result.now =
    sym (c.as_bytes-event_digits-in-NotClosed.ensures.value ∙ (c.format-in-NotClosed.ensures.text ∙ ap (λ n. decimal (n + 1)) c.event_count.ensures.count)) in
    on_ok_weaker c.push_word-in-NotClosed.result (λ h. rw (c.in-NotClosed.is, place) h) c.push_word-in-NotClosed.ensures

pub returns-in-SheetDiffers : goal.returns-in-SheetDiffers
returns-in-SheetDiffers g c =
    let name : resident_name c.args.docket.now c.in-SheetDiffers.resident ≡ c.as_bytes.result.now =
    sym (c.as_bytes.ensures.value ∙ c.resident_name.ensures) in
    on_ok_weaker c.push.result (λ h. rw (c.in-SheetDiffers.is, name) h) c.push.ensures
