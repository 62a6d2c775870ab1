use Rattle.std.proofs.Common.{is_some, ap, ◌∙◌}
use Rattle.match_model.proofs.Noted.{is_some-rank}
use Rattle.match_model.proofs.places.stands_in.Goals as goal

pub returns : goal.returns
returns c = c.is_some.ensures ∙ ap is_some c.place_in.ensures ∙ is_some-rank c.args.list.now c.args.number
