use Rattle.std.proofs.lemmas.Result.{on_ok_weaker}
use Rattle.receipt_check.proofs.pair_words.put_agreement_at.Goals as goal

pub returns-in-Some : goal.returns-in-Some
returns-in-Some c = on_ok_weaker c.put_agreement.result (λ h. rw c.in-Some.is (rw c.answer.ensures at h)) c.put_agreement.ensures
