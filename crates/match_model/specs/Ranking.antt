-- A ranking: a list of members' numbers, best first, without repeats.
use Rattle.std.specs.Prelude.{◌≢◌, ℕ, ◌+◌, ◌<◌, ◌==◌, nat_lt, Bool, if◌then◌else◌, List, [], ◌∷◌, length}
use Rattle.std.specs.List.{AllPairs}

-- the place of x in the list, from 0; the list's length if x isn't listed
abbrev pub place : List ℕ → ℕ → ℕ
place [] x = 0
place (y ∷ ys) x = if y == x then 0 else (1 + place ys x)

-- x stands in the list
abbrev pub IsListed : List ℕ → ℕ → Type 0
IsListed xs x = place xs x < length xs

-- whether x stands in the list
abbrev pub is_listed : List ℕ → ℕ → Bool
is_listed xs x = nat_lt (place xs x) (length xs)

-- x stands before y in the list; who isn't listed comes last
abbrev pub IsBefore : List ℕ → ℕ → ℕ → Type 0
IsBefore xs x y = place xs x < place xs y

-- nobody stands in the list twice
abbrev pub HasNoRepeats : List ℕ → Type 0
HasNoRepeats xs = AllPairs (λ x y. x ≢ y) xs
