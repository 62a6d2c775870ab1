-- What the V and W rows of a version 2 docket declare, and which members they withdraw.
use Rattle.std.proofs.Common.{◌≡◌, ℕ, List, [], ◌∷◌, ◌++◌, Bool, true, false, map, filter, ◌∙◌, refl, ap, append-nil}
use Rattle.std.specs.Prelude.{◌&&◌, ◌||◌, if◌then◌else◌, bytes_eq}
use Rattle.std.specs.List.{list_any}
use Rattle.std.proofs.lemmas.List.{map-append}
use Rattle.std.proofs.lemmas.List.Elements.{filter-append}
use Rattle.std.proofs.lemmas.List.Folds.{list_any-append}
use Rattle.docket.specs.Fields.{is_kind, is_row_of, version_kind, withdrawal_kind}
use Rattle.records.specs.Reading.{Fields, field}
use Rattle.docket.specs.Contents.{is_withdrawal_of, withdrawn_of}
use Rattle.docket_names.specs.Texts.{is_declared}
use Rattle.docket.specs.Passes.{is_version_2}
use Rattle.docket.specs.Declarations.{names_withdrawn}
use Rattle.docket_names.proofs.NameFacts.{is_declared-map}

-- one more row adds its name to the names that a side's W rows withdraw, if it is a W row of this
-- side
pub names_withdrawn-if : (side : List ℕ) (rows : List Fields) (row : Fields)
    → names_withdrawn side (rows ++ row ∷ []) ≡ (if is_row_of withdrawal_kind side row then names_withdrawn side rows ++ field row 2 ∷ [] else names_withdrawn side rows)
names_withdrawn-if side rows row =
    ap (map second) (filter-append (is_row_of withdrawal_kind side) rows (row ∷ [])) ∙ map-append second kept (filter (is_row_of withdrawal_kind side) (row ∷ [])) ∙ by (is_row_of withdrawal_kind side row)
  where
    second : Fields → List ℕ
    second r = field r 2

    kept : List Fields
    kept = filter (is_row_of withdrawal_kind side) rows

    by : (b : Bool) → map second kept ++ map second (if b then row ∷ [] else []) ≡ (if b then map second kept ++ second row ∷ [] else map second kept)
    by true = refl
    by false = append-nil (map second kept)

-- a name is withdrawn on a side exactly if some W row of this side has the name
pub is_declared-withdrawn : (side : List ℕ) (rows : List Fields) (name : List ℕ) → is_declared (names_withdrawn side rows) name ≡ list_any (is_withdrawal_of side name) rows
is_declared-withdrawn side rows name = is_declared-map (λ (r : Fields). field r 2) (filter (is_row_of withdrawal_kind side) rows) name ∙ kept rows
  where
    kept : (rs : List Fields) → list_any (λ (r : Fields). bytes_eq name (field r 2)) (filter (is_row_of withdrawal_kind side) rs) ≡ list_any (is_withdrawal_of side name) rs
    kept [] = refl
    kept (r ∷ rs) = by (is_row_of withdrawal_kind side r) (kept rs)
      where
        by : (b : Bool) → list_any (λ (r : Fields). bytes_eq name (field r 2)) (filter (is_row_of withdrawal_kind side) rs) ≡ list_any (is_withdrawal_of side name) rs
            → list_any (λ (r : Fields). bytes_eq name (field r 2)) (if b then r ∷ filter (is_row_of withdrawal_kind side) rs else filter (is_row_of withdrawal_kind side) rs)
            ≡ ((b && bytes_eq name (field r 2)) || list_any (is_withdrawal_of side name) rs)
        by true e = ap (λ x. bytes_eq name (field r 2) || x) e
        by false e = e

-- a row other than a V row does not change the version
pub is_version_2-other : (rows : List Fields) (row : Fields) → is_kind version_kind row ≡ false → is_version_2 (rows ++ row ∷ []) ≡ is_version_2 rows
unfolding is_version_2
is_version_2-other [] row other = rw other refl
is_version_2-other (r ∷ rows) row other = refl

-- a row that withdraws nobody of a side changes none of this side's flags
pub withdrawn_of-other : (side : List ℕ) (names : List (List ℕ)) (before : List Fields) (row : Fields) → is_row_of withdrawal_kind side row ≡ false
    → withdrawn_of side names (before ++ row ∷ []) ≡ withdrawn_of side names before
unfolding withdrawn_of
withdrawn_of-other side [] before row off = refl
withdrawn_of-other side (x ∷ names) before row off =
    rw (here, withdrawn_of-other side names before row off) refl
  where
    no : (a : Bool) → (a || false) ≡ a
    no true = refl
    no false = refl

    here : list_any (is_withdrawal_of side x) (before ++ row ∷ []) ≡ list_any (is_withdrawal_of side x) before
    here = rw (list_any-append (is_withdrawal_of side x) before (row ∷ []), off) (no (list_any (is_withdrawal_of side x) before))

-- before the first row nobody is withdrawn
pub withdrawn_of-none : (side : List ℕ) (names : List (List ℕ)) → withdrawn_of side names [] ≡ map (λ name. false) names
unfolding withdrawn_of
withdrawn_of-none side names = refl
