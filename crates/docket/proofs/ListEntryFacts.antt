-- The entry of a rank list or a withdrawal, and that the second pass can test the entry in place of
-- the row.
use Rattle.std.proofs.Common.{◌≡◌, ◌⊎◌, ◌≤◌, ℕ, List, [], ◌∷◌, ◌++◌, Bool, true, false, length, drop, refl, rules, Some, None, inl, inr}
use Rattle.std.specs.Prelude.{◌||◌, bytes_eq, codes, not}
use Rattle.std.specs.List.{list_any}
use Rattle.std.specs.Option.{option_or}
use Rattle.docket.specs.Contents.{is_withdrawal_of}
use Rattle.docket.specs.Fields.{kind_of, is_kind, is_side, unless, withdrawal_kind, withdrawal_row_fault, counted}
use Rattle.records.specs.Reading.{Fields, field}
use Rattle.docket.specs.Limits.{widest}
use Rattle.docket.specs.ListPass.{ShowList, ShowsRow}
use Rattle.docket.specs.Lists.{ListEntry, is_ranking_row, list_entry, gone_entry, entry_in}
use Rattle.docket.specs.Passes.{first_from, reading_fault, repeat_fault, is_version_2, next_place}
use Rattle.docket.specs.Words.{side_of}
use Rattle.docket.specs.declared.fault.DocketFault.TheVariants.{UnknownKind, DeclaredTwice, BadWithdrawal, BadName}
use Rattle.docket.specs.declared.vocabulary.Side.{Side}
use Rattle.docket.specs.declared.vocabulary.Side.TheVariants.{Programmes, Residents}
use Rattle.docket.specs.declared.vocabulary.TheConstants.{PROGRAMME_LIST, RESIDENT_LIST, MAX_RECORDS}
use Rattle.docket_names.specs.Words.{is_name}
use Rattle.docket.proofs.RankingFacts.{sound_row}
use Rattle.docket.proofs.SoundFacts.{both_none, unless_none}
use Rattle.docket.proofs.ListLeftFacts.{IsAmid, amid}
use Rattle.docket.proofs.ListRecordFacts.{list_entry_in, gone_entry_in, side_is}

-- a row of the second pass is a P, an R or a W row
pub ranking_kind : (row : Fields) → is_ranking_row row ≡ true → (kind_of row ≡ PROGRAMME_LIST) ⊎ ((kind_of row ≡ RESIDENT_LIST) ⊎ (kind_of row ≡ withdrawal_kind))
ranking_kind row h = by (is_kind PROGRAMME_LIST row) refl (is_kind RESIDENT_LIST row) refl (is_kind withdrawal_kind row) refl h
  where
    by : (a : Bool) → is_kind PROGRAMME_LIST row ≡ a → (b : Bool) → is_kind RESIDENT_LIST row ≡ b → (c : Bool) → is_kind withdrawal_kind row ≡ c → ((a || b) || c) ≡ true
        → (kind_of row ≡ PROGRAMME_LIST) ⊎ ((kind_of row ≡ RESIDENT_LIST) ⊎ (kind_of row ≡ withdrawal_kind))
    by true e b f c g h = inl (search (rules, e))
    by false e true f c g h = inr (inl (search (rules, f)))
    by false e false f true g h = inr (inr (search (rules, g)))
    by false e false f false g h = absurd (cc h)

-- the text stands for a side: programmes or residents
pub record HasSide (text : List ℕ) : Type 0 where
  pub side : Side
  pub is : side_of text ≡ Some side

side_there : (text : List ℕ) → is_side text ≡ true → HasSide text
unfolding side_of
side_there text h = by (bytes_eq text (codes "P")) refl (bytes_eq text (codes "R")) refl h
  where
    by : (a : Bool) → bytes_eq text (codes "P") ≡ a → (b : Bool) → bytes_eq text (codes "R") ≡ b → (a || b) ≡ true → HasSide text
    by true e b f h = record { side = Programmes; is = rw e refl }
    by false e true f h = record { side = Residents; is = rw (e, f) refl }
    by false e false f h = absurd (cc h)

sound_side : (before : List Fields) (row : Fields) → kind_of row ≡ withdrawal_kind → repeat_fault before row ≡ None → is_side (field row 1) ≡ true
unfolding repeat_fault
sound_side before row kind none =
    let known = unless (is_version_2 before) (UnknownKind (next_place before)) in
    let fresh = unless (not (list_any (is_withdrawal_of (field row 1) (field row 2)) before)) (DeclaredTwice (next_place before)) in
    let asked : option_or known (option_or (withdrawal_row_fault (next_place before) row) fresh) ≡ None = rw kind at none in
    let own = (both_none known (option_or (withdrawal_row_fault (next_place before) row) fresh) asked).1 in
    let whole = (both_none (withdrawal_row_fault (next_place before) row) fresh own).0 in
    let sided = (both_none (counted (next_place before) 3 row) (option_or (unless (is_side (field row 1)) (BadWithdrawal (next_place before))) (unless (is_name (field row 2)) (BadName (next_place before)))) whole).1 in
    unless_none (is_side (field row 1)) (BadWithdrawal (next_place before)) (both_none (unless (is_side (field row 1)) (BadWithdrawal (next_place before))) (unless (is_name (field row 2)) (BadName (next_place before))) sided).0

-- the row has an entry, and the second pass can test this entry in place of the row
pub record HasShown (rows : List Fields) (n : ℕ) (row : Fields) : Type 0 where
  pub entry : ListEntry
  pub is : entry_in n row ≡ entry ∷ []
  pub record_no : entry.record_no ≡ n
  pub shown : ShowsRow rows row entry.kind entry.owner entry.listed

whole_list : (others : List (List ℕ)) (row : Fields) → ShowList others row (drop 2 row)
whole_list others row = record { same = refl; whole = λ h. refl }

pub has_shown : (rows done rest : List Fields) (n : ℕ) (row : Fields) → first_from (reading_fault widest) [] rows ≡ None → length rows ≤ MAX_RECORDS → rows ≡ done ++ row ∷ rest → is_ranking_row row ≡ true
    → HasShown rows n row
has_shown rows done rest n row sound few is ranking = by (ranking_kind row ranking)
  where
    a : IsAmid rows done row
    a = amid rows done rest row is

    by : (kind_of row ≡ PROGRAMME_LIST) ⊎ ((kind_of row ≡ RESIDENT_LIST) ⊎ (kind_of row ≡ withdrawal_kind)) → HasShown rows n row
    by (inl kind) = record {
      entry = list_entry n Programmes row;
      is = list_entry_in n n Programmes row kind refl;
      record_no = refl;
      shown = (kind, refl, λ known. whole_list _ row);
    }
    by (inr (inl kind)) = record {
      entry = list_entry n Residents row;
      is = list_entry_in n n Residents row kind refl;
      record_no = refl;
      shown = (kind, refl, whole_list _ row);
    }
    by (inr (inr kind)) =
        let none = rw (a.before, a.here) at (sound_row rows (length done) sound few a.there).1 in
        let there = side_there (field row 1) (sound_side done row kind none) in
        record {
          entry = gone_entry n there.side row;
          is = gone_entry_in n n there.side row kind there.is refl;
          record_no = refl;
          shown = (kind, (side_is (field row 1) there.side there.is).0, refl, refl);
        }
