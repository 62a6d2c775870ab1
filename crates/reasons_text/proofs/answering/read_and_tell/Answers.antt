use Rattle.std.proofs.Common.{inr}
use Rattle.std.proofs.lemmas.Result.{IfErr-weaker, IfOk-weaker}
use Rattle.reasons_text.proofs.answering.read_and_tell.Goals as goal

pub returns-clause-text : goal.returns-clause-text
returns-clause-text g c =
    IfOk-weaker c.text_of.result _ _
    (λ text h. record { case = c.in_ok-case.case; read = c.in_ok-case.ensures.read; sheet = c.in_ok-case.ensures.sheet; answers = h }) c.text_of.ensures.text

pub returns-clause-fault : goal.returns-clause-fault
returns-clause-fault g c =
    IfErr-weaker c.text_of.result _ _
    (λ fault h. inr (c.in_ok-case.case, (c.in_ok-case.ensures.read, (c.in_ok-case.ensures.sheet, h)))) c.text_of.ensures.fault
