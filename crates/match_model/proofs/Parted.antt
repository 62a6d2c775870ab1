-- Rows that stand one after another in one list, and the ends of these rows.
use Rattle.std.proofs.Common.{◌≡◌, ℕ, ◌+◌, ◌-◌, ◌<◌, ◌≤◌, List, [], ◌∷◌, ◌++◌, length, get_or, set, take, drop, refl, ap, ◌∙◌, suc, zero, arith}
use Rattle.std.specs.List.{slice_range, sum_by}
use Rattle.std.proofs.lemmas.List.{take_all, length-drop, length-take, take-append-le, drop-append-le, take-set-le, drop-set-lt, drop-set-add}
use Rattle.std.proofs.lemmas.List.Sums.{sum_by-cons}
use Rattle.match_model.specs.Rows.{parted, last_end, AreEnds}

-- the last row ends within the list
pub last_within : (start : ℕ) (ends : List ℕ) (n : ℕ) → AreEnds start ends n → last_end start ends ≤ n
last_within start [] n h = h
last_within start (e ∷ es) n h = last_within e es n h.1

-- the first row starts within the list: its start is at most the list's length
pub start_within : (start : ℕ) (ends : List ℕ) (n : ℕ) → AreEnds start ends n → start ≤ n
start_within start [] n h = h
start_within start (e ∷ es) n h = let rest = start_within e es n h.1 in let first = h.0 in omega arith

-- the ends of rows are still right after items are added behind the list
pub AreEnds-weaker : (start : ℕ) (ends : List ℕ) (n m : ℕ) → n ≤ m → AreEnds start ends n → AreEnds start ends m
AreEnds-weaker start [] n m l h = omega arith
AreEnds-weaker start (e ∷ es) n m l h = (h.0, AreEnds-weaker e es n m l h.1)

-- the ends of rows are still right after one more row, which has all remaining items
pub AreEnds-push : (start : ℕ) (ends : List ℕ) (n : ℕ) → AreEnds start ends n → AreEnds start (ends ++ n ∷ []) n
AreEnds-push start [] n h = (h, omega arith)
AreEnds-push start (e ∷ es) n h = (h.0, AreEnds-push e es n h.1)

pub last_end-push : (start : ℕ) (ends : List ℕ) (n : ℕ) → last_end start (ends ++ n ∷ []) ≡ n
last_end-push start [] n = refl
last_end-push start (e ∷ es) n = last_end-push e es n

-- row i starts at the end of the row before, and ends within the list
pub ends_at : (start : ℕ) (ends : List ℕ) (n i : ℕ) → AreEnds start ends n → i < length ends → (get_or (start ∷ ends) i 0 ≤ get_or ends i 0) × (get_or ends i 0 ≤ n)
ends_at start [] n i h l = absurd (omega arith)
ends_at start (e ∷ es) n zero h l = (h.0, start_within e es n h.1)
ends_at start (e ∷ es) n (suc i) h l = ends_at e es n i h.1 (omega arith)

-- row i does not start before the first row
pub start_before : (start : ℕ) (ends : List ℕ) (n i : ℕ) → AreEnds start ends n → i < length ends → start ≤ get_or (start ∷ ends) i 0
start_before start [] n i h l = absurd (omega arith)
start_before start (e ∷ es) n zero h l = omega arith
start_before start (e ∷ es) n (suc i) h l = let first = h.0 in let rest = start_before e es n i h.1 (omega arith) in omega arith

-- the last row does not end before the first row starts
last_behind : (start : ℕ) (ends : List ℕ) (n : ℕ) → AreEnds start ends n → start ≤ last_end start ends
last_behind start [] n h = omega arith
last_behind start (e ∷ es) n h = let first = h.0 in let rest = last_behind e es n h.1 in omega arith

pub end_before : (start : ℕ) (ends : List ℕ) (n i : ℕ) → AreEnds start ends n → i < length ends → get_or ends i 0 ≤ last_end start ends
end_before start [] n i h l = absurd (omega arith)
end_before start (e ∷ es) n zero h l = last_behind e es n h.1
end_before start (e ∷ es) n (suc i) h l = end_before e es n i h.1 (omega arith)

module _ {T : Type 0} where
  -- if row i has an item, i is below the number of rows
  pub row_there : (rows : List (List T)) (i k : ℕ) → k < length (get_or rows i []) → i < length rows
  row_there [] i k h = absurd (omega arith)
  row_there (r ∷ rs) zero k h = omega arith
  row_there (r ∷ rs) (suc i) k h = let rest = row_there rs i k h in omega arith

  -- to overwrite item k of a list and take its first n items is to take these and overwrite item k
  -- among them
  take_set : (n : ℕ) (xs : List T) (k : ℕ) (y : T) → take n (set xs k y) ≡ set (take n xs) k y
  take_set zero xs k y = refl
  take_set (suc n) [] k y = refl
  take_set (suc n) (x ∷ xs) zero y = refl
  take_set (suc n) (x ∷ xs) (suc k) y = ap (λ (ys : List T). x ∷ ys) (take_set n xs k y)

  -- there is one row for each end
  pub length-parted : (start : ℕ) (ends : List ℕ) (items : List T) → length (parted start ends items) ≡ length ends
  length-parted start [] items = refl
  length-parted start (e ∷ es) items = ap suc (length-parted e es items)

  -- row i has the items between its start and its end
  pub get_or-parted : (start : ℕ) (ends : List ℕ) (items : List T) (i : ℕ) → i < length ends → get_or (parted start ends items) i [] ≡ slice_range items (get_or (start ∷ ends) i 0) (get_or ends i 0)
  get_or-parted start [] items i l = absurd (omega arith)
  get_or-parted start (e ∷ es) items zero l = refl
  get_or-parted start (e ∷ es) items (suc i) l = get_or-parted e es items i (omega arith)

  -- a part of a list stays the same if items are added behind the list
  slice_range-append : (items more : List T) (a b : ℕ) → a ≤ b → b ≤ length items → slice_range (items ++ more) a b ≡ slice_range items a b
  slice_range-append items more a b l h =
      ap (take (b - a)) (drop-append-le a items more (omega arith)) ∙ take-append-le (b - a) (drop a items) more (omega (arith, length-drop a items))

  -- items that are added behind the last row change no row
  pub parted-append : (start : ℕ) (ends : List ℕ) (items more : List T) → AreEnds start ends (length items) → parted start ends (items ++ more) ≡ parted start ends items
  parted-append start [] items more h = refl
  parted-append start (e ∷ es) items more h =
      let first = slice_range-append items more start e h.0 (start_within e es (length items) h.1) in
      let rest = parted-append e es items more h.1 in
      λ i. first i ∷ rest i

  -- one more end adds one row, with all items behind the last row
  pub parted-push : (start : ℕ) (ends : List ℕ) (items : List T) → AreEnds start ends (length items) → parted start (ends ++ length items ∷ []) items ≡ parted start ends items ++ drop (last_end start ends) items ∷ []
  parted-push start [] items h = ap (λ (row : List T). row ∷ []) (take_all (length items - start) (drop start items) (omega (arith, length-drop start items)))
  parted-push start (e ∷ es) items h = ap (λ (rows : List (List T)). slice_range items start e ∷ rows) (parted-push e es items h.1)

  -- an item that is overwritten before the first row changes no row
  parted-set_before : (start : ℕ) (ends : List ℕ) (items : List T) (j : ℕ) (y : T) → j < start → AreEnds start ends (length items) → parted start ends (set items j y) ≡ parted start ends items
  parted-set_before start [] items j y l h = refl
  parted-set_before start (e ∷ es) items j y l h =
      let first = ap (take (e - start)) (drop-set-lt start items j y l) in
      let rest = parted-set_before e es items j y (let order = h.0 in omega arith) h.1 in
      λ i. first i ∷ rest i

  -- an item of row i is overwritten, and no other row changes
  pub parted-set : (start : ℕ) (ends : List ℕ) (items : List T) (i k : ℕ) (y : T) → AreEnds start ends (length items) → i < length ends → get_or (start ∷ ends) i 0 + k < get_or ends i 0 →
      parted start ends (set items (get_or (start ∷ ends) i 0 + k) y) ≡ set (parted start ends items) i (set (get_or (parted start ends items) i []) k y)
  parted-set start [] items i k y h l w = absurd (omega arith)
  parted-set start (e ∷ es) items zero k y h l w =
      let first = ap (take (e - start)) (drop-set-add start items k y) ∙ take_set (e - start) (drop start items) k y in
      let rest = parted-set_before e es items (start + k) y w h.1 in
      λ i. first i ∷ rest i
  parted-set start (e ∷ es) items (suc i) k y h l w =
      let behind = start_before e es (length items) i h.1 (omega arith) in
      let order = h.0 in
      let j : ℕ = get_or (e ∷ es) i 0 + k in
      let on : j ≡ start + (j - start) = omega arith in
      let first = ap (λ (m : ℕ). slice_range (set items m y) start e) on ∙ ap (take (e - start)) (drop-set-add start items (j - start) y) ∙ take-set-le (e - start) (drop start items) (j - start) y (omega arith) in
      let rest = parted-set e es items i k y h.1 (omega arith) w in
      λ m. first m ∷ rest m

  -- index k of a row lies before the row's end
  pub within_row : (items : List T) (start end k : ℕ) → k < length (slice_range items start end) → start + k < end
  within_row items start end k h = let n = length-take (end - start) (drop start items) in omega arith

  -- the rows and the items behind the last row are together all items
  pub length-all_parts : (start : ℕ) (ends : List ℕ) (items : List T) → AreEnds start ends (length items) →
      start + (sum_by length (parted start ends items) + length (drop (last_end start ends) items)) ≡ length items
  length-all_parts start [] items h = omega (arith, length-drop start items, h)
  length-all_parts start (e ∷ es) items h =
      let here = sum_by-cons (length {A = T}) (slice_range items start e) (parted e es items) in
      let many = length-take (e - start) (drop start items) in
      let behind = length-drop start items in
      let rest = length-all_parts e es items h.1 in
      let order = h.0 in
      let within = start_within e es (length items) h.1 in
      omega arith
