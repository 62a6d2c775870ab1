use Rattle.std.proofs.lemmas.Result.{IfErr-weaker, IfOk-weaker}
use Rattle.reasons_text.proofs.AnswerFacts.{no_case, read_of}
use Rattle.reasons_text.proofs.case.Case.read_within.Goals as goal

pub of_docket-requires : goal.of_docket-requires
of_docket-requires g c = record { limits = c.args.limits; read = read_of _ _ _ _ c.in-Ok.ensures.read }

pub returns-in-Ok-clause-read : goal.returns-in-Ok-clause-read
returns-in-Ok-clause-read g c =
    IfOk-weaker c.of_docket.result _ _ (λ case h. rw (h.0, h.1) c.in-Ok.ensures.read) c.of_docket.ensures.parts

pub returns-in-Ok-clause-fault : goal.returns-in-Ok-clause-fault
returns-in-Ok-clause-fault g c =
    IfErr-weaker c.of_docket.result _ _ (λ fault h. no_case _ _ _ _ fault c.in-Ok.ensures.read h) c.of_docket.ensures.fault
