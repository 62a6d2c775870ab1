-- The texts that are sealed for each member: the texts of the leaves.
use Rattle.std.specs.Prelude.{◌≡◌, ℕ, Bool, if◌then◌else◌, Option, Some, None, List, [], ◌∷◌, ◌++◌, length, codes, decimal, map, option_map, nat_lt, ◌<◌, slice_get, slice_index_or, true}
use Rattle.std.specs.List.{flat_map, list_all, range_with_len}
use Rattle.csv.specs.Records.{Row, fields_of, partial_of}
use Rattle.match_model.specs.Draft.{Draft, given_lists}
use Rattle.match_model.specs.Instance.{is_withdrawn, list_at, quota}
use Rattle.match_model.specs.Placement.{holds, programme_of}
use Rattle.match_model.specs.Written.{Written, written_of}
use Rattle.records.specs.RowText.{Adds, row}
use Rattle.records.specs.declared.writer.RowWriter.{RowWriter}
use Rattle.docket.specs.Contents.{Contents}
use Rattle.docket.specs.Whole.{IsSheetOf, IsWhole}
use Rattle.docket.specs.Texts.{programme_name, resident_name, filled_row, mark_row, resident_row}
use Rattle.records.specs.Reading.{Fields}
use Rattle.records.specs.Lines.{line}
use Rattle.reasons_text.specs.Answers.{CaseParts}
use Rattle.reasons_text.specs.Naming.{own_names}
use Rattle.reasons_text.specs.RealNames.{Real}
use Rattle.reasons_text.specs.Texts.{AreRowsOn}

-- the line of a record, if there is one
abbrev pub line_if : Option Fields → List ℕ
line_if None = []
line_if (Some row) = line row

-- the row that withdraws a member, if it is withdrawn
abbrev pub withdrawal_if : Bool → List ℕ → List ℕ → List ℕ
withdrawal_if gone side name = if gone then row (codes "W" ∷ side ∷ name ∷ []) else []

-- the names on programme p's list as p wrote it, best first, if p has a list
abbrev pub list_of_programme : Contents → Draft → ℕ → Option (List (List ℕ))
list_of_programme d draft p = option_map (map (resident_name d)) (slice_index_or draft.programme_lists p None)

-- the names on resident r's list as r wrote it, best first
abbrev pub list_of_resident : Contents → Draft → ℕ → List (List ℕ)
list_of_resident d draft r = map (programme_name d) (list_at (given_lists draft.resident_lists) r)

-- a record with a member's list: the letter of the side, the member's name, and the names on the list
abbrev pub list_record : List ℕ → List ℕ → List (List ℕ) → Fields
list_record letter owner names = letter ∷ owner ∷ names

-- the row of a programme's name and quota
abbrev pub quota_row : List ℕ → ℕ → List ℕ
quota_row name places = row (codes "Q" ∷ name ∷ decimal places ∷ [])

-- the record of a real name and its ID, if there is one
abbrev pub name_record : Option Fields → Option Fields
name_record real = option_map (λ fields. codes "N" ∷ fields) real

-- The text sealed for programme p before the match: p's name and quota, p's list, whether p is withdrawn, and p's real
-- name, if it is known. The draft has the lists as they were written.
unfoldable pub programme_lists : Contents → Draft → Real → ℕ → List ℕ
programme_lists d draft real p =
    quota_row (programme_name d p) (quota d.instance p)
    ++ (line_if (option_map (list_record (codes "P") (programme_name d p)) (list_of_programme d draft p))
    ++ (withdrawal_if (is_withdrawn d.instance.programmes_withdrawn p) (codes "P") (programme_name d p)
    ++ line_if (name_record (slice_index_or real.programmes p None))))

-- the text sealed for resident r before the match: r's name and list, whether r is withdrawn, and r's real name, if it
-- is known
unfoldable pub resident_lists : Contents → Draft → Real → ℕ → List ℕ
resident_lists d draft real r =
    line (list_record (codes "R") (resident_name d r) (list_of_resident d draft r))
    ++ (withdrawal_if (is_withdrawn d.instance.residents_withdrawn r) (codes "R") (resident_name d r)
    ++ line_if (name_record (slice_index_or real.residents r None)))

-- the texts of all members before the match: the programmes first
abbrev pub lists_texts : Contents → Draft → Real → List (List ℕ)
lists_texts d draft real =
    map (programme_lists d draft real) (range_with_len 0 (length d.instance.quotas))
    ++ map (resident_lists d draft real) (range_with_len 0 (length d.instance.resident_lists))

-- `given` has the lists of the draft's programmes, and `written` the lists of both sides
pub record AreListsOf (draft : Draft) (given : List (Option (List ℕ))) (written : Written) : Type 0 where
  pub given_are : given ≡ draft.programme_lists
  pub written_are : written ≡ written_of draft

-- the lists are those of some draft, and name only members of the docket
pub record NameMembers (d : Contents) (given : List (Option (List ℕ))) (written : Written) : Type 0 where
  pub draft : Draft
  pub are_of : AreListsOf draft given written
  pub residents : (p : ℕ) (list : List ℕ) → slice_index_or given p None ≡ Some list → list_all (λ r. nat_lt r (length d.residents)) list ≡ true
  pub programmes : (r : ℕ) → r < length d.residents → list_all (λ p. nat_lt p (length d.programmes)) (list_at written.resident_lists r) ≡ true

-- exactly these fields were added to a record, and the record has no unfinished field
pub record Extends (old new : Row) (fields : Fields) : Type 0 where
  pub added : fields_of new ≡ fields_of old ++ fields
  pub whole : partial_of new ≡ []

-- the `M` row of resident r, if r has programme p
abbrev pub member_row : Contents → List (Option ℕ) → ℕ → ℕ → List ℕ
member_row d m p r = if holds p (programme_of m r) then mark_row d r (Some p) else []

-- the `M` rows of those of the first n residents who have programme p
abbrev pub member_rows : Contents → List (Option ℕ) → ℕ → ℕ → List ℕ
member_rows d m p n = flat_map (member_row d m p) (range_with_len 0 n)

-- the text sealed for programme p after the match: how many places are filled, and by whom
unfoldable pub programme_result : Contents → List (Option ℕ) → ℕ → List ℕ
programme_result d m p = filled_row d m p ++ member_rows d m p (length d.instance.resident_lists)

-- the docket has what every docket has, and the sheet is a sheet of this docket
pub record HasSheet (c : CaseParts) : Type 0 where
  pub whole : IsWhole c.docket
  pub sheet_of : IsSheetOf c.docket c.sheet

-- the text sealed for resident r after the match: where r is placed, and r's rows of the table of reasons
pub record IsResidentResult (c : CaseParts) (r : ℕ) (text : List ℕ) : Type 0 where
  pub reasons : List ℕ
  pub rows : AreRowsOn c (own_names c.docket) Bool.false r reasons
  pub text_is : text ≡ resident_row c.docket c.sheet r ++ reasons

-- the texts of the first n residents after the match
pub record AreResidentResults (c : CaseParts) (n : ℕ) (texts : List (List ℕ)) : Type 0 where
  pub each : length texts ≡ n
  pub are : (r : ℕ) (text : List ℕ) → slice_get texts r ≡ Some text → IsResidentResult c r text

-- the texts of the first n residents after the match were added at the end
pub record PushesResults (c : CaseParts) (n : ℕ) (old new : List (List ℕ)) : Type 0 where
  pub texts : List (List ℕ)
  pub are : AreResidentResults c n texts
  pub pushed : new ≡ old ++ texts

-- the text sealed for resident r after the match was added
pub record AddsResidentResult {W : Type 0} (contents : W → Option (List ℕ)) (c : CaseParts) (r : ℕ) (old new : RowWriter W) : Type 0 where
  pub text : List ℕ
  pub is : IsResidentResult c r text
  pub added : Adds contents old new text

-- the texts of all members after the match: the programmes first
pub record AreResultTexts (c : CaseParts) (texts : List (List ℕ)) : Type 0 where
  pub residents : List (List ℕ)
  pub are : AreResidentResults c (length c.docket.instance.resident_lists) residents
  pub texts_are : texts ≡ map (programme_result c.docket c.sheet) (range_with_len 0 (length c.docket.instance.quotas)) ++ residents
