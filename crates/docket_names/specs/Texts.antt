-- The different texts of a docket, each with a number, and names that are kept by such a number.
use Rattle.std.specs.Prelude.{◌≡◌, ◌⊎◌, ◌<◌, ◌∷◌, ◌++◌, ℕ, Bool, true, false, Option, None, is_some, List, [], length, take, map, nat_eq, position, bytes_eq, slice_index_or}
use Rattle.std.specs.List.{All, list_all}
use Rattle.docket_names.specs.Words.{is_name}

-- the number of a name, if it stands in the list of names
unfoldable pub number_in : List (List ℕ) → List ℕ → Option ℕ
number_in names name = position (bytes_eq name) names

-- whether the name stands in the list of names
abbrev pub is_declared : List (List ℕ) → List ℕ → Bool
is_declared names name = is_some (number_in names name)

-- the texts with these numbers
unfoldable pub texts_at : List (List ℕ) → List ℕ → List (List ℕ)
texts_at texts numbers = map (λ n. slice_index_or texts n []) numbers

-- each of these numbers belongs to a text of the list
abbrev pub AreNumbersOf : List (List ℕ) → List ℕ → Type 0
AreNumbersOf texts numbers = All (λ n. n < length texts) numbers

-- the second list begins with all texts of the first one
abbrev pub StartsWith : List (List ℕ) → List (List ℕ) → Type 0
StartsWith first texts = take (length first) texts ≡ first

-- the list of texts after one text was looked up: unchanged, or with this text added at the end
abbrev pub IsJoined : List (List ℕ) → List (List ℕ) → List ℕ → Type 0
IsJoined texts more text = (more ≡ texts) ⊎ (more ≡ texts ++ text ∷ [])

-- these are the numbers of the names among the texts, and each of the names is a name as a docket
-- may have it
pub record AreNames (texts : List (List ℕ)) (numbers : List ℕ) (names : List (List ℕ)) : Type 0 where
  pub within : AreNumbersOf texts numbers
  pub texts_are : texts_at texts numbers ≡ names
  pub named : list_all is_name names ≡ true

-- entry n is the position of number n in the list, or none if the list lacks it
pub record AreFoundBy (by_text : List (Option ℕ)) (texts : List ℕ) : Type 0 where
  pub found : (text : ℕ) → slice_index_or by_text text None ≡ position (nat_eq text) texts

-- entry n says whether the text with number n is one of these names
pub record AreNoted (texts : List (List ℕ)) (noted : List Bool) (names : List (List ℕ)) : Type 0 where
  pub numbers : List ℕ
  pub names_are : AreNames texts numbers names
  pub noted_are : (text : ℕ) → slice_index_or noted text false ≡ is_some (position (nat_eq text) numbers)

-- the names of the programmes and of the residents
pub record NamesBySide : Type 0 where
  pub programmes : List (List ℕ)
  pub residents : List (List ℕ)
