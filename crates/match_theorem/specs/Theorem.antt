-- The result of a docket from its bytes, and the sheet of the result.
use Rattle.std.specs.Prelude.{◌≡◌, ◌≤◌, ℕ, Option, Some, None, List, [], ◌∷◌, ◌++◌, length, codes, decimal, slice_index_or}
use Rattle.std.specs.List.{flat_map, range_with_len}
use Rattle.std.specs.Io.KnownBytes.{Appends}
use Rattle.match_model.specs.Instance.{Instance, IsInstance, pair_count, quota}
use Rattle.match_model.specs.Draft.{instance_of}
use Rattle.match_model.specs.Placement.{programme_of, member_count}
use Rattle.settle_law.specs.Stable.{IsStable, IsSettled}
use Rattle.records.specs.RowText.{row}
use Rattle.docket.specs.Contents.{programmes_of, residents_of, draft_of}
use Rattle.records.specs.Reading.{rows_of}

-- the names of both sides in the order of their numbers, and the instance
pub record Market : Type 0 where
  pub programmes : List (List ℕ)
  pub residents : List (List ℕ)
  pub instance : Instance

-- the market that the bytes of a docket describe
abbrev pub market_of : List ℕ → Market
market_of bytes = record {
  programmes = programmes_of (rows_of bytes);
  residents = residents_of (rows_of bytes);
  instance = instance_of (draft_of (rows_of bytes));
}

-- the row of a resident: `M,resident,programme` with a programme, `U,resident` without
abbrev pub place_row : Market → ℕ → Option ℕ → List ℕ
place_row k r (Some p) = row (codes "M" ∷ slice_index_or k.residents r [] ∷ slice_index_or k.programmes p [] ∷ [])
place_row k r None = row (codes "U" ∷ slice_index_or k.residents r [] ∷ [])

-- the row of a programme: `F,programme,filled,quota`
abbrev pub count_row : Market → ℕ → ℕ → List ℕ
count_row k p filled = row (codes "F" ∷ slice_index_or k.programmes p [] ∷ decimal filled ∷ decimal (quota k.instance p) ∷ [])

-- the sheet of a placement: a row for each resident, then a row for each programme
abbrev pub market_sheet : Market → List (Option ℕ) → List ℕ
market_sheet k m =
    flat_map (λ r. place_row k r (programme_of m r)) (range_with_len 0 (length k.residents))
    ++ flat_map (λ p. count_row k p (member_count m p)) (range_with_len 0 (length k.programmes))

-- the placement is stable and settled, and no other placement is settled
pub record IsResult (inst : Instance) (m : List (Option ℕ)) : Type 0 where
  pub stable : IsStable inst m
  pub settled : IsSettled inst m
  pub alone : (other : List (Option ℕ)) → IsSettled inst other → other ≡ m

-- The market's lists are strict and mutual, and its numbers are within the standard limits. The sheet of its result was
-- appended, and then this journal.
pub record WritesResult (k : Market) (journal : List ℕ) (old new : Option (List ℕ)) : Type 0 where
  pub lists : IsInstance k.instance
  pub few_programmes : length k.instance.quotas ≤ 2000
  pub few_residents : length k.instance.resident_lists ≤ 20000
  pub few_pairs : pair_count k.instance ≤ 200000
  pub placement : List (Option ℕ)
  pub result : IsResult k.instance placement
  pub appended : Appends old new (market_sheet k placement ++ journal)

-- The market's lists are strict and mutual, and its numbers are within the national limits. The sheet of its result
-- was appended, and then this journal.
pub record WritesNationalResult (k : Market) (journal : List ℕ) (old new : Option (List ℕ)) : Type 0 where
  pub lists : IsInstance k.instance
  pub few_programmes : length k.instance.quotas ≤ 10000
  pub few_residents : length k.instance.resident_lists ≤ 100000
  pub few_pairs : pair_count k.instance ≤ 2000000
  pub placement : List (Option ℕ)
  pub result : IsResult k.instance placement
  pub appended : Appends old new (market_sheet k placement ++ journal)
