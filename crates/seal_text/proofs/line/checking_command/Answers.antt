use Rattle.std.proofs.Common.{◌∙◌, ap₂}
use Rattle.std.proofs.lemmas.Result.{IfOk-weaker}
use Rattle.clap.specs.Words.{with_rule}
use Rattle.seal_text.proofs.line.checking_command.Goals as goal

pub returns : goal.returns
returns c =
    let one = c.in_ok-command.ensures.shape c.option_with_value.ensures.own ∙ ap₂ with_rule c.described-command.ensures c.option_with_value.ensures.rule in
    IfOk-weaker c.arg-2.result _ _ (λ command adds. adds.shape c.option_with_value-2.ensures.own ∙ ap₂ with_rule one c.option_with_value-2.ensures.rule) c.arg-2.ensures
