-- Lists of pairs of numbers, in order.
use Rattle.std.specs.Prelude.{◌≡◌, ℕ, ◌<◌, ◌⊎◌, ◌↔◌, Option, List}
use Rattle.std.specs.List.{AllPairs, Contains}
use Rattle.std.specs.List.Sorted.{IsStrictlyIncreasing}
use Rattle.match_model.specs.Ranking.{IsListed}
use Rattle.settle_law.specs.Stable.{Prefers}

-- pair a comes before pair b: a's first number is smaller, or the first numbers are equal and a's second is smaller
abbrev pub ComesBefore : ℕ × ℕ → ℕ × ℕ → Type 0
ComesBefore a b = (a.0 < b.0) ⊎ ((a.0 ≡ b.0) × (a.1 < b.1))

-- the list has exactly the pairs for which R holds, each once and in rising order
pub record Lists (R : ℕ → ℕ → Type 0) (pairs : List (ℕ × ℕ)) : Type 0 where
  pub each : (a b : ℕ) → Contains pairs (a, b) ↔ R a b
  pub rising : AllPairs ComesBefore pairs

-- the list has exactly the numbers for which R holds, each once and in rising order
abbrev pub ListsNumbers : (ℕ → Type 0) → List ℕ → Type 0
ListsNumbers R numbers = IsStrictlyIncreasing numbers × ((n : ℕ) → Contains numbers n ↔ R n)

-- the list has those members of the owner's ranking that the owner would rather have than the held programme
abbrev pub IsPreferredFront : List ℕ → Option ℕ → List ℕ → Type 0
IsPreferredFront ranking held front = (p : ℕ) → IsListed front p ↔ (IsListed ranking p × Prefers ranking p held)
