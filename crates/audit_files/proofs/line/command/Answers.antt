use Rattle.std.proofs.Common.{◌∙◌, ap₂}
use Rattle.std.proofs.lemmas.Result.{IfOk-weaker}
use Rattle.clap.specs.Words.{with_rule}
use Rattle.audit_files.proofs.line.command.Goals as goal

pub returns : goal.returns
returns c =
    let one = c.in_ok-command-2.ensures.shape c.required_argument.ensures.own ∙ ap₂ with_rule c.in_ok-command.ensures c.required_argument.ensures.rule in
    let two = c.in_ok-command-3.ensures.shape c.required_argument-2.ensures.own ∙ ap₂ with_rule one c.required_argument-2.ensures.rule in
    let three = c.in_ok-command-4.ensures.shape c.journal_argument.ensures.own ∙ ap₂ with_rule two c.journal_argument.ensures.rule in
    IfOk-weaker c.arg-4.result _ _ (λ command adds. adds.shape c.facts_option.ensures.own ∙ ap₂ with_rule three c.facts_option.ensures.rule) c.arg-4.ensures
