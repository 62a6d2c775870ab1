use Rattle.std.proofs.Common.{subst}
use Rattle.std.specs.Prelude.{IfOk}
use Rattle.reasons_text.specs.Answers.{AreOfRecord, CaseParts}
use Rattle.reasons_text.proofs.case.Case.answers.Goals as goal

pub returns-clause-record : goal.returns-clause-record
returns-clause-record c =
    subst (λ (k : CaseParts). IfOk c.answers_from.result (λ answers. AreOfRecord k.docket k.written c.args.resident answers.programmes.items))
    c.self.view_is c.answers_from.ensures.record
