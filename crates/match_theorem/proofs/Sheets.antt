-- The text of a sheet is the same by the definitions of a docket and by those of a market.
use Rattle.std.proofs.Common.{◌≡◌, ℕ, List, [], ◌∷◌, ◌++◌, Option, Some, None, refl, ap, ◌∙◌}
use Rattle.std.specs.Prelude.{length}
use Rattle.std.specs.List.{flat_map, range_with_len}
use Rattle.match_model.specs.Placement.{programme_of}
use Rattle.docket.specs.Contents.{residents_of}
use Rattle.docket.specs.Passes.{docket_of}
use Rattle.records.specs.Reading.{rows_of}
use Rattle.docket.specs.Texts.{programme_name, resident_name, mark_row, programme_row, resident_row, filled_rows, sheet_text}
use Rattle.match_theorem.specs.Theorem.{market_of, place_row, market_sheet}

-- two functions with the same values give the same text for a list
flat_map_same : (f g : ℕ → List ℕ) (xs : List ℕ) → ((x : ℕ) → f x ≡ g x) → flat_map f xs ≡ flat_map g xs
flat_map_same f g [] h = refl
flat_map_same f g (x ∷ xs) h = ap (λ (t : List ℕ). t ++ flat_map f xs) (h x) ∙ ap (λ (t : List ℕ). g x ++ t) (flat_map_same f g xs h)

-- a resident's row in the sheet of the docket is the resident's row in the sheet of the market
same_row : (bytes : List ℕ) (r : ℕ) (o : Option ℕ) → mark_row (docket_of bytes) r o ≡ place_row (market_of bytes) r o
unfolding mark_row resident_name programme_name
same_row bytes r None = refl
same_row bytes r (Some p) = refl

-- the sheet of the docket is the sheet of the market
pub same_sheet : (bytes : List ℕ) (m : List (Option ℕ)) → sheet_text (docket_of bytes) m ≡ market_sheet (market_of bytes) m
unfolding sheet_text programme_row programme_name
same_sheet bytes m =
    ap (λ (t : List ℕ). t ++ filled_rows (docket_of bytes) m)
    (flat_map_same (resident_row (docket_of bytes) m) (λ r. place_row (market_of bytes) r (programme_of m r)) (range_with_len 0 (length (residents_of (rows_of bytes))))
    (λ r. same_row bytes r (programme_of m r)))
