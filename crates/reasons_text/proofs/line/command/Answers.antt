use Rattle.std.proofs.Common.{◌∙◌, ap₂}
use Rattle.std.proofs.lemmas.Result.{IfOk-weaker}
use Rattle.clap.specs.Words.{with_rule}
use Rattle.reasons_text.proofs.line.command.Goals as goal

pub returns : goal.returns
returns c =
    let one = c.in_ok-command-2.ensures.shape c.resident_argument.ensures.own ∙ ap₂ with_rule c.in_ok-command.ensures c.resident_argument.ensures.rule in
    let two = c.in_ok-command-3.ensures.shape c.programme_argument.ensures.own ∙ ap₂ with_rule one c.programme_argument.ensures.rule in
    let three = c.in_ok-command-4.ensures.shape c.all_option.ensures.own ∙ ap₂ with_rule two c.all_option.ensures.rule in
    let four = c.in_ok-command-5.ensures.shape c.without_ranks_option.ensures.own ∙ ap₂ with_rule three c.without_ranks_option.ensures.rule in
    let five = c.in_ok-command-6.ensures.shape c.key_option.ensures.own ∙ ap₂ with_rule four c.key_option.ensures.rule in
    IfOk-weaker c.arg-6.result _ _ (λ command adds. adds.shape c.sheet_option.ensures.own ∙ ap₂ with_rule five c.sheet_option.ensures.rule) c.arg-6.ensures
