-- For each number, the owners of the lists that have this number.
use Rattle.std.specs.Prelude.{◌≡◌, ℕ, ◌<◌, nat_lt, Bool, true, false, List, length, map, take, slice_index, slice_index_or}
use Rattle.std.specs.List.{filter, range_with_len, enumerate_from, All, list_all}
use Rattle.std.specs.List.Sorted.{IsNonDecreasing}
use Rattle.match_model.specs.Ranking.{is_listed}
use Rattle.match_model.specs.Instance.{list_at}
use Rattle.match_model.specs.Draft.{has_no_repeats}

-- the owners with numbers below n whose lists have x, in rising order
abbrev pub owners_below : ℕ → List (List ℕ) → ℕ → List ℕ
owners_below n lists x = filter (λ owner. is_listed (list_at lists owner) x) (range_with_len 0 n)

-- for each number x below `count`, row x has the owners with numbers below n whose lists have x
pub record AreOwners (count n : ℕ) (lists rows : List (List ℕ)) : Type 0 where
  pub one_each : length rows ≡ count
  pub row : (x : ℕ) → x < count → list_at rows x ≡ owners_below n lists x

-- the item after the step if the test is true, else the item as it was
abbrev pub stepped : {T : Type 0} → (T → T) → Bool → T → T
stepped step true item = step item
stepped step false item = item

-- `step` is applied to each item whose position, from 0, stands in the list; every other item is unchanged
pub record AreStepped {T : Type 0} (none : T) (step : ℕ → T → T) (list : List ℕ) (before after : List T) : Type 0 where
  pub one_each : length after ≡ length before
  pub item : (x : ℕ) → x < length before → slice_index_or after x none ≡ stepped (step x) (is_listed list x) (slice_index_or before x none)

-- for each number x below `count`, how many owners with numbers below n have x in their lists
pub record AreCounts (count n : ℕ) (lists : List (List ℕ)) (counts : List ℕ) : Type 0 where
  pub one_each : length counts ≡ count
  pub number : (x : ℕ) → x < count → slice_index counts x ≡ length (owners_below n lists x)

-- Each number x has a row, with room for all owners whose lists have x. Those of these owners whose numbers are below n
-- are entered in the row. The count of x says how many owners are entered.
pub record AreBegun (count all n : ℕ) (lists rows : List (List ℕ)) (counts : List ℕ) : Type 0 where
  pub one_each : length rows ≡ count
  pub counted : AreCounts count n lists counts
  pub room : (x : ℕ) → x < count → length (list_at rows x) ≡ length (owners_below all lists x)
  pub first : (x : ℕ) → x < count → take (length (owners_below n lists x)) (list_at rows x) ≡ owners_below n lists x

-- each list, with only those items that also stand in the row of the list's owner
unfoldable pub kept_lists : List (List ℕ) → List (List ℕ) → List (List ℕ)
kept_lists lists rows = map (λ (owned : ℕ × List ℕ). filter (λ x. is_listed (list_at rows owned.0) x) owned.1) (enumerate_from 0 lists)

-- there are `count` rows; each row has numbers below n in rising order, without repeats
pub record AreRows (count n : ℕ) (rows : List (List ℕ)) : Type 0 where
  pub one_each : length rows ≡ count
  pub below : All (λ row. list_all (λ x. nat_lt x n) row ≡ true) rows
  pub distinct : All (λ row. has_no_repeats row ≡ true) rows
  pub rising : All IsNonDecreasing rows

-- every item of list i also stands in row i
abbrev pub AreCovered : List (List ℕ) → List (List ℕ) → Type 0
AreCovered lists rows = (i x : ℕ) → is_listed (list_at lists i) x ≡ true → is_listed (list_at rows i) x ≡ true

-- each list has a row with all of the list's items, sorted by number
pub record AreChoices (lists rows : List (List ℕ)) : Type 0 where
  pub one_row_each : length rows ≡ length lists
  pub covered : AreCovered lists rows
  pub rising : All IsNonDecreasing rows
