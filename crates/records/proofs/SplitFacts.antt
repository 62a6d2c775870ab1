-- The records of a source are the records that were read, followed by the records left.
use Rattle.std.proofs.Common.{◌≡◌, ◌∷◌, [], ℕ, List, ◌++◌, true, false, refl, sym, ap, ◌∙◌, append_assoc, append-nil, Option, Some, None}
use Rattle.records.specs.Reading.{AreAll, Fields, GivesRow, IsSplit}

-- before the first record is read, all records remain
pub split_start : (all : Option (List Fields)) → IsSplit all [] all
split_start None = tt
split_start (Some rows) = (rows, refl, refl)

-- after one more record was read, all records are still the records read, followed by the records
-- left
pub split_more : (all : Option (List Fields)) (done : List Fields) (left after : Option (List Fields)) (row : Fields)
    → IsSplit all done left → GivesRow left after true row → IsSplit all (done ++ row ∷ []) after
split_more None done left after row s g = tt
split_more (Some rows) done None after row s g = cc s.1
split_more (Some rows) done (Some l) after row s g =
    let same : l ≡ s.0 = cc s.1 in
    (g.0, g.1, s.2 ∙ ap (λ (r : List Fields). done ++ r) (sym same ∙ g.2) ∙ sym (append_assoc done (row ∷ []) g.0))

-- once no record is left, those that were read are all records
pub split_end : (all : Option (List Fields)) (done : List Fields) (left after : Option (List Fields)) (row : Fields)
    → IsSplit all done left → GivesRow left after false row → AreAll all done
split_end None done left after row s g = tt
split_end (Some rows) done None after row s g = cc s.1
split_end (Some rows) done (Some l) after row s g =
    let same : l ≡ s.0 = cc s.1 in
    s.2 ∙ ap (λ (r : List Fields). done ++ r) (sym same ∙ g) ∙ append-nil done
