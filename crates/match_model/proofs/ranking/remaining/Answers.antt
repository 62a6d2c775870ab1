use Rattle.std.proofs.Common.{◌≡◌, ◌∙◌, true, false, sym}
use Rattle.match_model.specs.Instance.{is_withdrawn}
use Rattle.match_model.specs.Draft.{given_lists}
use Rattle.match_model.proofs.Mutual.{given_at}
use Rattle.match_model.proofs.Remaining.{remaining_withdrawn, remaining_here}
use Rattle.match_model.proofs.ranking.remaining.Goals as goal

pub returns-then-withdrawn-owner : goal.returns-then-withdrawn-owner
returns-then-withdrawn-owner c =
    let gone : is_withdrawn c.args.withdrawn.now c.args.owner ≡ true = c.if-withdrawn-owner.true in
    sym (remaining_withdrawn (given_lists c.args.lists.now) c.args.withdrawn.now c.args.owner gone)

pub returns : goal.returns
returns c =
    let here : is_withdrawn c.args.withdrawn.now c.args.owner ≡ false = c.if-withdrawn-owner.false in
    c.items.ensures ∙ sym (given_at c.args.lists.now c.args.owner c.requires.member)
    ∙ sym (remaining_here (given_lists c.args.lists.now) c.args.withdrawn.now c.args.owner here)
