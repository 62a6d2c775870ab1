-- Rows of items. All items stand one after another in one list, and a second list says where each row ends.
use Rattle.std.specs.Prelude.{ℕ, ◌≤◌, List, [], ◌∷◌}
use Rattle.std.specs.List.{slice_range}

-- the finished rows, and the items of the row that is not finished yet
pub record RowLists (T : Type 0) : Type 0 where
  pub rows : List (List T)
  pub begun : List T

-- the rows into which these ends part a list; the first row starts at `start`
abbrev pub parted : {T : Type 0} → ℕ → List ℕ → List T → List (List T)
parted start [] items = []
parted start (end ∷ ends) items = slice_range items start end ∷ parted end ends items

-- the end of the last row; `start` if there is no row
abbrev pub last_end : ℕ → List ℕ → ℕ
last_end start [] = start
last_end start (end ∷ ends) = last_end end ends

-- no row ends before its start, and no row ends after n
abbrev pub AreEnds : ℕ → List ℕ → ℕ → Type 0
AreEnds start [] n = start ≤ n
AreEnds start (end ∷ ends) n = (start ≤ end) × AreEnds end ends n
