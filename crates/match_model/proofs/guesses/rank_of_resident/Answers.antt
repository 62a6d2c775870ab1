use Rattle.std.proofs.Common.{arith, sym, ◌∙◌}
use Rattle.std.proofs.lemmas.Bool.{eqb-true}
use Rattle.std.proofs.lemmas.List.{get_or_default}
use Rattle.match_model.proofs.Rankings.{rank_found, rank_none}
use Rattle.match_model.proofs.guesses.rank_of_resident.Goals as goal

pub returns-then-eq : goal.returns-then-eq
returns-then-eq c =
    let same = eqb-true c.index-list-i.result c.args.resident (sym c.eq.ensures ∙ c.if-eq.true) in
    let here = get_or_default c.args.list.now c.loop-i.i 0 c.index-list-i.result c.loop-i-test.true in
    rank_found c.args.list.now c.args.resident c.loop-i.i c.loop-i-test.true (here ∙ sym c.index-list-i.is ∙ same) c.loop-i.invariant

pub returns : goal.returns
returns c = rank_none c.args.list.now c.args.resident (λ k l. c.loop-i.invariant k (omega arith))
