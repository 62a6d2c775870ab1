use Rattle.std.proofs.Common.{◌∙◌, ℕ, None, sym, subst}
use Rattle.match_model.specs.Instance.{Instance, list_at}
use Rattle.match_model.specs.Written.{AreWritten, Written}
use Rattle.match_reasons.specs.Reason.{IsFirst}
use Rattle.reasons_text.proofs.AnswerFacts.{made_of_lists}
use Rattle.reasons_text.proofs.case.reason_from.Goals as goal

pub new-listed_instance-requires : goal.new-listed_instance-requires
new-listed_instance-requires c =
    subst (λ (i : Instance). AreWritten i c.args.written_lists.now) (sym c.instance.ensures.instance)
    (made_of_lists c.requires.case.limits None c.args.docket.now c.args.written_lists.now c.requires.case.read)

pub returns : goal.returns
returns c =
    let r : ℕ = c.args.resident in
    let p : ℕ = c.args.programme in
    let inst = c.new-listed_instance.ensures.instance ∙ c.instance.ensures.instance in
    subst (λ (i : Instance). IsFirst i (list_at c.args.written_lists.now.resident_lists r) (list_at c.args.written_lists.now.programme_lists p) c.args.sheet.now r p c.why.result) inst
    (subst (λ (w : Written). IsFirst c.new-listed_instance.result.instance (list_at w.resident_lists r) (list_at w.programme_lists p) c.args.sheet.now r p c.why.result)
    c.new-listed_instance.ensures.written c.why.ensures.first)
