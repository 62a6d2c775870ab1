use Rattle.std.proofs.Common.{List, ℕ}
use Rattle.docket_names.specs.Guesses.{AreGuesses}
use Rattle.docket_names.proofs.guesses.moved.Given as goal

abbrev pub invariant-loop-guess : goal.invariant-loop-guess
invariant-loop-guess l = (texts : List (List ℕ)) → AreGuesses texts l.guesses.items → AreGuesses texts l.larger_table.items
