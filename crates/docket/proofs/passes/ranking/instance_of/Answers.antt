use Rattle.std.proofs.Common.{◌∙◌}
use Rattle.std.proofs.lemmas.Result.{IfOk-weaker}
use Rattle.docket.proofs.RankedFacts.{none_given}
use Rattle.docket.proofs.passes.ranking.instance_of.Goals as goal

pub returns-clause-lists : goal.returns-clause-lists
returns-clause-lists c =
    IfOk-weaker c.finished.result _ _ (λ made lists texts rows are known start count. lists rows (c.in_ok-rank.ensures.ranked texts rows are known start)
    (λ keeps. c.in_ok-rank.ensures.given (c.in_ok-programme_lists.ensures keeps ∙ none_given texts c.args.programmes.now c.args.builder rows known.programmes_are start))) c.finished.ensures.lists
