-- Tables that say at which position each number stands in a list.
use Rattle.std.specs.Prelude.{◌≡◌, ℕ, ◌<◌, List, length, slice_index}

-- for each item of the list, the table has the item's position; for other numbers the table may have anything
abbrev pub ArePlaces : List ℕ → List ℕ → Type 0
ArePlaces list places = (k : ℕ) → k < length list → slice_index places (slice_index list k) ≡ k
