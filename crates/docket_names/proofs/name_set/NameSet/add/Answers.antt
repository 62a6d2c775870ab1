use Rattle.std.proofs.Common.{ap, ◌∙◌, get_or, false}
use Rattle.std.specs.Prelude.{◌||◌, nat_eq}
use Rattle.docket_names.proofs.MemberFacts.{noted_set}
use Rattle.docket_names.proofs.name_set.NameSet.add.Goals as goal

pub returns-clause-added : goal.returns-clause-added
returns-clause-added c = λ n.
    noted_set c.reach.new.by_text.items c.args.text n c.in_ok-reach.ensures.within ∙ ap (λ b. nat_eq n c.args.text || b) (c.reach.ensures.kept n ∙ ap (λ xs. get_or xs n false) c.self.view_is)
