use Rattle.std.proofs.Common.{sym}
use Rattle.std.proofs.lemmas.Result.{on_ok_weaker}
use Rattle.audit_text.proofs.answer.push_pending.Goals as goal

pub returns : goal.returns
returns g c =
    on_ok_weaker c.push.result (λ h. rw (sym c.as_bytes.ensures.value, sym c.as_bytes-2.ensures.value) h) c.push.ensures
