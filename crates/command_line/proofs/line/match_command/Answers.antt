use Rattle.std.proofs.Common.{◌∙◌, ap₂}
use Rattle.std.proofs.lemmas.Result.{IfOk-weaker}
use Rattle.clap.specs.Words.{with_rule}
use Rattle.command_line.proofs.line.match_command.Goals as goal

pub returns : goal.returns
returns c =
    let one = c.in_ok-command.ensures.shape c.workers_option.ensures.own ∙ ap₂ with_rule c.described-command.ensures c.workers_option.ensures.rule in
    let two = c.in_ok-command-2.ensures.shape c.capacity_option.ensures.own ∙ ap₂ with_rule one c.capacity_option.ensures.rule in
    let three = c.in_ok-command-3.ensures.shape c.journal_option.ensures.own ∙ ap₂ with_rule two c.journal_option.ensures.rule in
    IfOk-weaker c.arg-4.result _ _ (λ command adds. adds.shape c.by_worker_option.ensures.own ∙ ap₂ with_rule three c.by_worker_option.ensures.rule) c.arg-4.ensures
