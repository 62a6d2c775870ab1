-- What a guess at a text's number says.
use Rattle.std.specs.Prelude.{◌≡◌, ◌≤◌, ◌<◌, ℕ, Some, List, length, take, slice_get}
use Rattle.std.specs.List.{All}
use Rattle.std.specs.Int.{w64, to_le_bytes}
use Rattle.docket_names.specs.NameKeys.{filled}
use Rattle.docket_names.specs.declared.guesses.Guess.{Guess}

-- a text of at most eight bytes that has this length and these bytes, filled up with zeros, has this number
pub record IsGuess (texts : List (List ℕ)) (word len number : ℕ) : Type 0 where
  pub told : (text : List ℕ) → length text ≡ len → 0 < len → length text ≤ 8 → to_le_bytes w64 word ≡ take 8 (filled text) → slice_get texts number ≡ Some text

-- each entry of the table is such a guess
abbrev pub AreGuesses : List (List ℕ) → List Guess → Type 0
AreGuesses texts guesses = All (λ guess. IsGuess texts guess.word guess.len guess.number) guesses
