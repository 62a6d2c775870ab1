use Rattle.std.proofs.Common.{ℕ, List, arith, subst}
use Rattle.std.proofs.lemmas.List.{take_all}
use Rattle.match_model.specs.Places.{ArePlaces}
use Rattle.match_model.proofs.Mutual.{list_all_at}
use Rattle.match_model.proofs.Rankings.{HasNoRepeats-from_test}
use Rattle.match_model.proofs.Noted.{ArePlaces-more}
use Rattle.match_model.proofs.places.note_places.Goals as goal

pub loop-place-preserved : goal.loop-place-preserved
loop-place-preserved c =
    let i : ℕ = c.loop-place.place in
    let list : List ℕ = c.args.list.now in
    let below = list_all_at _ list i c.requires.below c.loop-place-test.true in
    ArePlaces-more list c.loop-place.places i c.loop-place-test.true
    (λ k l. HasNoRepeats-from_test list c.requires.distinct k i 0 l c.loop-place-test.true)
    (omega (arith, c.loop-place.auto.places)) c.loop-place.invariant

pub returns-clause-noted : goal.returns-clause-noted
returns-clause-noted c = subst (λ (xs : List ℕ). ArePlaces xs c.loop-place.places) (take_all _ _ (omega arith)) c.loop-place.invariant
