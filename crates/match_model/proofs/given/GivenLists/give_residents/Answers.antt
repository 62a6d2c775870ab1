use Rattle.std.proofs.Common.{ℕ, List, Option, Some, set, ap, ◌∙◌, arith}
use Rattle.match_model.proofs.GivenLists.{list_given}
use Rattle.match_model.proofs.given.GivenLists.give_residents.Goals as goal

pub returns-in-Ok-clause-given : goal.returns-in-Ok-clause-given
returns-in-Ok-clause-given c =
    list_given c.self.inside.items.items c.args.residents.now c.push_residents.new.items.items c.self.inside.spans.items c.args.owner c.len-start.result c.len.result
    c.in_ok-push_residents.ensures.pushed (omega arith) (omega arith) c.self.invariant
    ∙ ap (λ (lists : List (Option (List ℕ))). set lists c.args.owner (Some c.args.residents.now)) c.self.view_is
