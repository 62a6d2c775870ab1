use Rattle.std.proofs.Common.{◌≡◌, ◌<◌, ◌∙◌, ℕ, List, get_or, length, subst, sym, ap}
use Rattle.std.proofs.lemmas.Bool.{eqb-true}
use Rattle.match_model.specs.Instance.{Instance as Rankings, list_at, list_of_programme, rank}
use Rattle.match_model.proofs.Rankings.{rank_at_place}
use Rattle.match_model.proofs.instance.Instance.rank_at_programme.Goals as goal

pub returns-in-Some : goal.returns-in-Some
returns-in-Some c =
    let list : List ℕ = list_at c.self.inside.programme_lists.rows c.programme.inside.0 in
    let guess : ℕ = c.guess_at-guess.result in
    let here = c.in-Some.ensures.lookup.3 in
    let r : ℕ = c.in-Some.listed.now in
    let within : guess < length list = subst (λ (xs : List ℕ). guess < length xs) c.row-list.ensures here.0 in
    let at : get_or list guess 0 ≡ r = sym (here.1 0 ∙ ap (λ (xs : List ℕ). get_or xs guess 0) c.row-list.ensures) in
    let found = rank_at_place list r guess (c.self.invariant.rankings.is_instance.programmes_rank_strictly c.programme.inside.0) within at in
    let all = ap (λ (i : Rankings). rank (list_of_programme i c.programme.inside.0) r) c.self.view_is ∙ ap (λ (n : ℕ). rank (list_of_programme c.args.self.now n) r) c.programme.view_is in
    let same : r ≡ c.args.resident = eqb-true _ _ (sym c.eq.ensures ∙ c.if-eq.true) in
    found ∙ all ∙ ap (λ (n : ℕ). rank (list_of_programme c.args.self.now c.args.programme) n) same
