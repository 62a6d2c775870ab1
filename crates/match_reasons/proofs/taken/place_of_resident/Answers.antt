use Rattle.std.proofs.Common.{sym, ◌∙◌}
use Rattle.match_model.specs.Instance.{list_at}
use Rattle.match_reasons.proofs.Ranks.{place_unranked}
use Rattle.match_reasons.proofs.taken.place_of_resident.Goals as goal

pub returns-in-None : goal.returns-in-None
returns-in-None c = c.listed_by_programme.ensures ∙ sym (place_unranked (list_at c.args.written.now.programme_lists c.args.programme) c.args.resident (sym c.in-None.is ∙ c.rank_of_resident.ensures))
