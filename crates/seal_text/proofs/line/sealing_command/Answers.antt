use Rattle.std.proofs.Common.{◌∙◌, ap₂}
use Rattle.std.proofs.lemmas.Result.{IfOk-weaker}
use Rattle.clap.specs.Words.{with_rule}
use Rattle.seal_text.proofs.line.sealing_command.Goals as goal

pub returns : goal.returns
returns c =
    let one = c.in_ok-command.ensures.shape c.option_with_value-secret.ensures.own ∙ ap₂ with_rule c.described-command.ensures c.option_with_value-secret.ensures.rule in
    let two = c.in_ok-command-2.ensures.shape c.option_with_value-sheet.ensures.own ∙ ap₂ with_rule one c.option_with_value-sheet.ensures.rule in
    IfOk-weaker c.arg-3.result _ _ (λ command adds. adds.shape c.option_with_value-key.ensures.own ∙ ap₂ with_rule two c.option_with_value-key.ensures.rule) c.arg-3.ensures
