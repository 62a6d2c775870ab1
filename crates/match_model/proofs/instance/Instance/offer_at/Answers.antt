use Rattle.std.proofs.Common.{◌≡◌, ◌∙◌, Some, subst, sym}
use Rattle.std.specs.Prelude.{slice_get}
use Rattle.match_model.specs.Instance.{IsInstance, list_of_programme}
use Rattle.match_model.proofs.Instances.{ranking_resident}
use Rattle.match_model.proofs.Guessed.{listed_back, rank_there}
use Rattle.match_model.proofs.instance.Instance.offer_at.Goals as goal

pub rank_by_guess-requires : goal.rank_by_guess-requires
rank_by_guess-requires c =
    let is : IsInstance c.args.self.now = subst IsInstance c.self.view_is c.self.invariant.rankings.is_instance in
    let at : slice_get (list_of_programme c.args.self.now c.args.programme) c.args.place ≡ Some c.in_ok-resident.resident = sym c.listed_at.ensures ∙ c.in_ok-resident.was in
    ranking_resident c.args.self.now c.in_ok-resident.resident c.args.programme (listed_back c.args.self.now is c.args.programme c.in_ok-resident.resident c.args.place at)

pub returns-in_err-rank-clause-offer : goal.returns-in_err-rank-clause-offer
returns-in_err-rank-clause-offer c =
    let is : IsInstance c.args.self.now = subst IsInstance c.self.view_is c.self.invariant.rankings.is_instance in
    let at : slice_get (list_of_programme c.args.self.now c.args.programme) c.args.place ≡ Some c.in_ok-resident.resident = sym c.listed_at.ensures ∙ c.in_ok-resident.was in
    absurd (rank_there c.args.self.now is c.args.programme c.in_ok-resident.resident c.args.place at (sym c.in_err-rank.was ∙ c.rank_by_guess.ensures))
