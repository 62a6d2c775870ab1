use Rattle.std.proofs.Common.{arith}
use Rattle.docket_names.specs.Guesses.{AreGuesses}
use Rattle.docket_names.proofs.guesses.moved.Goals as goal
use Rattle.docket_names.proofs.guesses.moved.Goals.{then-guess-gt0, else-guess-gt0}

pub loop-guess-preserved : goal.loop-guess-preserved
loop-guess-preserved c = λ texts h.
    let there : AreGuesses texts c.deref-guess-items.result.now = rw c.deref-guess-items.ensures.value h in
    elim c.if-guess-gt0.branch [
      | then-guess-gt0 w ↦ rw w.larger_table-is (w.set_guess.ensures texts (c.loop-guess.invariant texts h) (there c.loop-guess.guess-index _ (omega arith)))
      | else-guess-gt0 w ↦ rw w.larger_table-is (c.loop-guess.invariant texts h)
    ]
