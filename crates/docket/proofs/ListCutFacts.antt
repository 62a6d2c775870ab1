-- If the store does not keep all entries, some kept name is no member's. So the second pass ends within the kept
-- entries, with the same fault.
use Rattle.std.proofs.Common.{◌≡◌, ◌≤◌, ◌<◌, ◌+◌, ℕ, List, [], ◌∷◌, ◌++◌, Bool, true, false, length, count_by, sym, ◌∙◌, refl, ap, subst, arith, Option, Some, None, append_assoc, append-nil, is_some}
use Rattle.std.specs.Prelude.{◌||◌, bytes_eq}
use Rattle.std.specs.List.{list_any, list_all, IsDistinct}
use Rattle.std.specs.Option.{option_or}
use Rattle.std.proofs.lemmas.Bool.{and_parts, and_from}
use Rattle.std.proofs.lemmas.List.{length-append}
use Rattle.std.proofs.lemmas.Grind.{flat_map-append}
use Rattle.std.proofs.lemmas.List.Folds.{list_any-append, list_all-append}
use Rattle.docket.specs.Contents.{programmes_of, residents_of}
use Rattle.docket.specs.Fields.{kind_of, unless}
use Rattle.records.specs.Reading.{Fields, field}
use Rattle.docket.specs.Limits.{widest}
use Rattle.docket.specs.ListPass.{ShowList, ShowsRow}
use Rattle.docket.specs.Lists.{is_among, ListEntry, AreFront, is_ranking_row, entry_in, entries_from, entries_of, entry_names, names_in}
use Rattle.docket.specs.Passes.{first_from, reading_fault, ranking_fault, unknown_fault, names_on, next_place}
use Rattle.docket.specs.declared.fault.DocketFault.TheVariants.{UnknownName}
use Rattle.docket.specs.declared.store.lists.ListKind.{ListKind}
use Rattle.docket.specs.declared.store.lists.ListKind.TheVariants.{Ranking, Withdrawal}
use Rattle.docket.specs.declared.vocabulary.Side.TheVariants.{Programmes, Residents}
use Rattle.docket.specs.declared.vocabulary.TheConstants.{RESIDENT_LIST, MAX_RECORDS, MOST_NAMES}
use Rattle.docket_names.specs.Texts.{number_in, is_declared}
use Rattle.docket_names.proofs.NameFacts.{is_declared-any, same_bytes}
use Rattle.docket.proofs.AmongFacts.{or_left, or_right, few_among, count_wider}
use Rattle.docket.proofs.FewFacts.{AreFew}
use Rattle.docket.proofs.RankingFacts.{resident_declared}
use Rattle.docket.proofs.SoundFacts.{both_none, unless_none}
use Rattle.docket.proofs.ListFacts.{no_entry, entries_push, names_push}
use Rattle.docket.proofs.ListEntryFacts.{HasShown, has_shown}
use Rattle.docket.proofs.ListLeftFacts.{AreLeft, AtRow, FirstLeft, amid}
use Rattle.docket.proofs.ListStartFacts.{done_more}
use Rattle.docket.proofs.ListWalkFacts.{all_wider}

-- all members' names
abbrev pub members_of : List Fields → List (List ℕ)
members_of rows = programmes_of rows ++ residents_of rows

-- each of these names is a member's
abbrev pub AreKnownNames : List Fields → List (List ℕ) → Type 0
AreKnownNames rows names = list_all (is_among (members_of rows)) names ≡ true

programme_among : (rows : List Fields) (text : List ℕ) → is_declared (programmes_of rows) text ≡ true → is_among (members_of rows) text ≡ true
programme_among rows text e = list_any-append (bytes_eq text) (programmes_of rows) (residents_of rows) ∙ or_left _ (list_any (bytes_eq text) (residents_of rows)) (sym (is_declared-any (programmes_of rows) text) ∙ e)

resident_among : (rows : List Fields) (text : List ℕ) → is_declared (residents_of rows) text ≡ true → is_among (members_of rows) text ≡ true
resident_among rows text e = list_any-append (bytes_eq text) (programmes_of rows) (residents_of rows) ∙ or_right (list_any (bytes_eq text) (programmes_of rows)) _ (sym (is_declared-any (residents_of rows) text) ∙ e)

-- if all names of two lists are members' names, all names of the joined lists are
known_both : (rows : List Fields) (xs ys : List (List ℕ)) → AreKnownNames rows xs → AreKnownNames rows ys → AreKnownNames rows (xs ++ ys)
known_both rows xs ys h i = list_all-append (is_among (members_of rows)) xs ys ∙ and_from _ _ h i

known_parts : (rows : List Fields) (xs ys : List (List ℕ)) → AreKnownNames rows (xs ++ ys) → AreKnownNames rows xs × AreKnownNames rows ys
known_parts rows xs ys h = and_parts (list_all (is_among (members_of rows)) xs) (list_all (is_among (members_of rows)) ys) (sym (list_all-append (is_among (members_of rows)) xs ys) ∙ h)

-- if all names of a list pass a test, a text that stands in the list passes it
among_known : (p : List ℕ → Bool) (names : List (List ℕ)) (text : List ℕ) → list_all p names ≡ true → is_among names text ≡ true → p text ≡ true
among_known p [] text all there = absurd (cc there)
among_known p (x ∷ xs) text all there =
    let parts = and_parts (p x) (list_all p xs) all in
    by (bytes_eq text x) refl parts.0 (among_known p xs text parts.1) there
  where
    by : (b : Bool) → bytes_eq text x ≡ b → p x ≡ true → (is_among xs text ≡ true → p text ≡ true) → (b || is_among xs text) ≡ true → p text ≡ true
    by true e own more h = ap p (same_bytes text x e) ∙ own
    by false e own more h = more h

-- if there are more different names than there can be members, some name is no member's
pub too_many : (texts : List (List ℕ)) (rows : List Fields) (names : List (List ℕ)) (brought : ℕ) → AreFew rows → IsDistinct bytes_eq texts → MOST_NAMES < brought
    → brought ≤ count_by (is_among names) texts → AreKnownNames rows names → ⊥
too_many texts rows names brought few distinct over counted known =
    let wider = count_wider (is_among names) (is_among (members_of rows)) (λ t there. among_known (is_among (members_of rows)) names t known there) texts in
    let most = few_among (members_of rows) texts distinct in
    let size = length-append (programmes_of rows) (residents_of rows) in
    let p = few.programmes in
    let r = few.residents in
    omega (arith, wider, most, size, p, r, over, counted)

-- the owner of an R row is a declared resident, if the second pass finds no fault in the row
owner_among : (rows done rest : List Fields) (row : Fields) → rows ≡ done ++ row ∷ rest → kind_of row ≡ RESIDENT_LIST → is_declared (residents_of rows) (field row 1) ≡ true
owner_among rows done rest row is kind = by (number_in (residents_of rows) (field row 1)) refl
  where
    by : (o : Option ℕ) → number_in (residents_of rows) (field row 1) ≡ o → is_declared (residents_of rows) (field row 1) ≡ true
    by (Some i) e = ap is_some e
    by None e = let a = amid rows done rest row is in absurd (resident_declared rows (length done) a.there (rw a.here kind) (rw a.here e))

-- all names in a row without a fault in the second pass are members'
row_known : (rows done rest : List Fields) (row : Fields) (kind : ListKind) (owner : List ℕ) (listed : List (List ℕ)) → rows ≡ done ++ row ∷ rest → ranking_fault rows done row ≡ None
    → ShowsRow rows row kind owner listed → AreKnownNames rows (owner ∷ listed)
unfolding ranking_fault
row_known rows done rest row (Ranking Programmes) owner listed is none shown =
    let n = next_place done in
    let own : option_or (unless (is_declared (programmes_of rows) (field row 1)) (UnknownName n)) (option_or (unknown_fault n (residents_of rows) row) _) ≡ None = rw shown.0 at none in
    let first = both_none (unless (is_declared (programmes_of rows) (field row 1)) (UnknownName n)) _ own in
    let second = both_none (unknown_fault n (residents_of rows) row) _ first.1 in
    let declared = ap (is_declared (programmes_of rows)) shown.1 ∙ unless_none _ (UnknownName n) first.0 in
    and_from _ _ (programme_among rows owner declared)
    (all_wider (is_declared (residents_of rows)) (is_among (members_of rows)) (resident_among rows) listed ((shown.2 declared).same ∙ unless_none _ (UnknownName n) second.0))
row_known rows done rest row (Ranking Residents) owner listed is none shown =
    let n = next_place done in
    let own : option_or (unknown_fault n (programmes_of rows) row) _ ≡ None = rw shown.0 at none in
    let second = both_none (unknown_fault n (programmes_of rows) row) _ own in
    and_from _ _ (resident_among rows owner (ap (is_declared (residents_of rows)) shown.1 ∙ owner_among rows done rest row is shown.0))
    (all_wider (is_declared (programmes_of rows)) (is_among (members_of rows)) (programme_among rows) listed (shown.2.same ∙ unless_none _ (UnknownName n) second.0))
row_known rows done rest row (Withdrawal Programmes) owner listed is none shown =
    let own : unless (is_declared (names_on (field row 1) rows) (field row 2)) (UnknownName (next_place done)) ≡ None = rw shown.0 at none in
    let declared : is_declared (programmes_of rows) (field row 2) ≡ true = rw shown.1 at (unless_none (is_declared (names_on (field row 1) rows) (field row 2)) (UnknownName (next_place done)) own) in
    and_from _ _ (programme_among rows owner (ap (is_declared (programmes_of rows)) shown.2 ∙ declared)) (ap (list_all (is_among (members_of rows))) shown.3)
row_known rows done rest row (Withdrawal Residents) owner listed is none shown =
    let own : unless (is_declared (names_on (field row 1) rows) (field row 2)) (UnknownName (next_place done)) ≡ None = rw shown.0 at none in
    let declared : is_declared (residents_of rows) (field row 2) ≡ true = rw shown.1 at (unless_none (is_declared (names_on (field row 1) rows) (field row 2)) (UnknownName (next_place done)) own) in
    and_from _ _ (resident_among rows owner (ap (is_declared (residents_of rows)) shown.2 ∙ declared)) (ap (list_all (is_among (members_of rows))) shown.3)

-- the first pass finds no fault in the rows, and there are at most MAX_RECORDS of them
pub record IsSound (rows : List Fields) : Type 0 where
  pub none : first_from (reading_fault widest) [] rows ≡ None
  pub few : length rows ≤ MAX_RECORDS

-- all names in the entry of a row without a fault are members'
entry_known : (rows done rest : List Fields) (row : Fields) → IsSound rows → rows ≡ done ++ row ∷ rest → ranking_fault rows done row ≡ None → AreKnownNames rows (names_in (entry_in (length done + 1) row))
entry_known rows done rest row sound is none = by (is_ranking_row row) refl
  where
    by : (t : Bool) → is_ranking_row row ≡ t → AreKnownNames rows (names_in (entry_in (length done + 1) row))
    by false e = rw (no_entry (length done + 1) row e) refl
    by true e =
        let s = has_shown rows done rest (length done + 1) row sound.none sound.few is e in
        rw s.is (names_one s.entry (row_known rows done rest row s.entry.kind s.entry.owner s.entry.listed is none s.shown))
      where
        names_one : (e : ListEntry) → AreKnownNames rows (entry_names e) → AreKnownNames rows (names_in (e ∷ []))
        names_one e h = ap (list_all (is_among (members_of rows))) (append-nil (entry_names e)) ∙ h

-- all names in rows without a fault are members'
done_known : (rows before front after : List Fields) → IsSound rows → rows ≡ (before ++ front) ++ after → first_from (ranking_fault rows) before front ≡ None
    → AreKnownNames rows (names_in (entries_from (length before) front))
unfolding first_from entries_from
done_known rows before [] after sound is none = refl
done_known rows before (row ∷ front) after sound is none =
    let parts = both_none (ranking_fault rows before row) (first_from (ranking_fault rows) (before ++ row ∷ []) front) none in
    let here = entry_known rows before (front ++ after) row sound (is ∙ append_assoc before (row ∷ front) after) parts.0 in
    let rest = done_known rows (before ++ row ∷ []) front after sound (is ∙ ap (λ (l : List Fields). l ++ after) (sym (append_assoc before (row ∷ []) front))) parts.1 in
    let next : AreKnownNames rows (names_in (entries_from (length before + 1) front)) = subst (λ (n : ℕ). AreKnownNames rows (names_in (entries_from n front))) (done_more before row) rest in
    ap (list_all (is_among (members_of rows))) (flat_map-append entry_names (entry_in (length before + 1) row) (entries_from (length before + 1) front))
    ∙ known_both rows (names_in (entry_in (length before + 1) row)) (names_in (entries_from (length before + 1) front)) here next

-- the second pass can test a cut list that has an unknown name in place of the whole list
show_cut : (others : List (List ℕ)) (row : Fields) (short rest listed : List (List ℕ)) → listed ≡ short ++ rest → ShowList others row listed
    → (list_all (is_declared others) short ≡ true → ⊥) → ShowList others row short
show_cut others row short rest listed is show unknown = by (list_all (is_declared others) short) refl
  where
    by : (b : Bool) → list_all (is_declared others) short ≡ b → ShowList others row short
    by true e = absurd (unknown e)
    by false e =
        let whole : list_all (is_declared others) listed ≡ false = ap (list_all (is_declared others)) is ∙ list_all-append (is_declared others) short rest ∙ rw e refl in
        record { same = e ∙ sym whole ∙ show.same; whole = λ h. absurd (unknown h) }

-- the second pass can test a cut entry with a name that is no member's in place of its row
row_cut : (rows done after : List Fields) (row : Fields) (kind : ListKind) (owner : List ℕ) (short rest listed : List (List ℕ)) → rows ≡ done ++ row ∷ after → listed ≡ short ++ rest
    → ShowsRow rows row kind owner listed → (AreKnownNames rows (owner ∷ short) → ⊥) → ShowsRow rows row kind owner short
row_cut rows done after row (Ranking Programmes) owner short rest listed is cut shown unknown = (
  shown.0,
  shown.1,
  λ declared. show_cut (residents_of rows) row short rest listed cut (shown.2 declared)
      (λ all. unknown (and_from _ _ (programme_among rows owner declared) (all_wider (is_declared (residents_of rows)) (is_among (members_of rows)) (resident_among rows) short all))),
)
row_cut rows done after row (Ranking Residents) owner short rest listed is cut shown unknown =
    let declared = ap (is_declared (residents_of rows)) shown.1 ∙ owner_among rows done after row is shown.0 in (
      shown.0,
      shown.1,
      show_cut (programmes_of rows) row short rest listed cut shown.2
          (λ all. unknown (and_from _ _ (resident_among rows owner declared) (all_wider (is_declared (programmes_of rows)) (is_among (members_of rows)) (programme_among rows) short all))),
    )
row_cut rows done after row (Withdrawal side) owner short rest listed is cut shown unknown =
    (shown.0, shown.1, shown.2, nil short (sym cut ∙ shown.3))
  where
    nil : (xs : List (List ℕ)) → xs ++ rest ≡ [] → xs ≡ []
    nil [] e = refl
    nil (x ∷ xs) e = absurd (cc e)

-- the second pass can go over the first entries alone, whose last one may be cut, if some name in
-- them is no member's
pub left_cut : (rows done rest : List Fields) (left : List ListEntry) → IsSound rows → rows ≡ done ++ rest → AreFront left (entries_from (length done) rest)
    → (AreKnownNames rows (names_in (entries_of done ++ left)) → ⊥) → AreLeft rows done rest left
unfolding AreLeft AreFront entries_from
left_cut rows done [] [] sound is front unknown = refl
left_cut rows done [] (e ∷ kept) sound is front unknown = absurd front
left_cut rows done (row ∷ rest) left sound is front unknown =
    at_row (is_ranking_row row) refl front
    (λ l front unknown. left_cut rows (done ++ row ∷ []) rest l sound (is ∙ sym (append_assoc done (row ∷ []) rest)) (subst (λ (n : ℕ). AreFront l (entries_from n rest)) (sym (done_more done row)) front) unknown)
  where
    Go : Type 0
    Go = (l : List ListEntry) → AreFront l (entries_from (length done + 1) rest) → (AreKnownNames rows (names_in (entries_of (done ++ row ∷ []) ++ l)) → ⊥) → AreLeft rows (done ++ row ∷ []) rest l

    before : first_from (ranking_fault rows) [] done ≡ None → AreKnownNames rows (names_in (entries_of done))
    before none = done_known rows [] done (row ∷ rest) sound is none

    with_row : (a : ListEntry) → entry_in (length done + 1) row ≡ a ∷ [] → entries_of (done ++ row ∷ []) ≡ entries_of done ++ a ∷ []
    with_row a e = entries_push done row ∙ ap (λ (l : List ListEntry). entries_of done ++ l) e

    first : (left : List ListEntry) (s : HasShown rows (length done + 1) row) → AreFront left (s.entry ∷ entries_from (length done + 1) rest) → (AreKnownNames rows (names_in (entries_of done ++ left)) → ⊥) → Go
        → first_from (ranking_fault rows) [] done ≡ None → FirstLeft rows done row left (λ more. AreLeft rows (done ++ row ∷ []) rest more)
    first [] s front unknown go none = absurd (unknown (ap (λ (l : List ListEntry). list_all (is_among (members_of rows)) (names_in l)) (append-nil (entries_of done)) ∙ before none))
    first (e ∷ []) s front unknown go none =
        let one : AreKnownNames rows (entry_names e) → ⊥ = λ h. unknown (ap (list_all (is_among (members_of rows))) (names_push (entries_of done) e) ∙ known_both rows (names_in (entries_of done)) (entry_names e) (before none) h) in
        record {
          entry = e;
          more = [];
          left_is = refl;
          record_no = front.record_no ∙ s.record_no;
          shown = subst (λ (k : ListKind). ShowsRow rows row k e.owner e.listed) (sym front.kind)
              (row_cut rows done rest row s.entry.kind e.owner e.listed front.rest s.entry.listed is front.listed
              (subst (λ (o : List ℕ). ShowsRow rows row s.entry.kind o s.entry.listed) (sym front.owner) s.shown) one);
          after = λ fine.
              let all : AreKnownNames rows (names_in (entries_of (done ++ row ∷ []))) = done_known rows [] (done ++ row ∷ []) rest sound (is ∙ sym (append_assoc done (row ∷ []) rest)) fine in
              let parts = known_parts rows (names_in (entries_of done)) (entry_names s.entry) (sym (ap (list_all (is_among (members_of rows))) (ap names_in (with_row s.entry s.is) ∙ names_push (entries_of done) s.entry)) ∙ all) in
              let names : entry_names s.entry ≡ entry_names e ++ front.rest = (λ i. sym front.owner i ∷ front.listed i) in
              absurd (one (known_parts rows (entry_names e) front.rest (sym (ap (list_all (is_among (members_of rows))) names) ∙ parts.1)).0);
        }
    first (e ∷ f ∷ kept) s front unknown go none = record {
      entry = e;
      more = f ∷ kept;
      left_is = refl;
      record_no = ap (λ (a : ListEntry). a.record_no) front.0 ∙ s.record_no;
      shown = subst (λ (a : ListEntry). ShowsRow rows row a.kind a.owner a.listed) (sym front.0) s.shown;
      after = λ fine. go (f ∷ kept) front.1 (λ known. unknown (ap (λ (l : List ListEntry). list_all (is_among (members_of rows)) (names_in l)) (moved e s front.0) ∙ known));
    }
      where
        moved : (e : ListEntry) (s : HasShown rows (length done + 1) row) → e ≡ s.entry → entries_of done ++ e ∷ f ∷ kept ≡ entries_of (done ++ row ∷ []) ++ f ∷ kept
        moved e s same = sym (append_assoc (entries_of done) (e ∷ []) (f ∷ kept)) ∙ ap (λ (a : ListEntry). (entries_of done ++ a ∷ []) ++ f ∷ kept) same ∙ ap (λ (l : List ListEntry). l ++ f ∷ kept) (sym (with_row s.entry s.is))

    at_row : (t : Bool) → is_ranking_row row ≡ t → AreFront left (entry_in (length done + 1) row ++ entries_from (length done + 1) rest) → Go
        → AtRow t rows done row left (λ more. AreLeft rows (done ++ row ∷ []) rest more)
    at_row false e front go =
        let none = no_entry (length done + 1) row e in
        let same : entries_of (done ++ row ∷ []) ≡ entries_of done = entries_push done row ∙ ap (λ (l : List ListEntry). entries_of done ++ l) none ∙ append-nil (entries_of done) in
        go left (subst (λ (l : List ListEntry). AreFront left (l ++ entries_from (length done + 1) rest)) none front)
        (λ known. unknown (sym (ap (λ (l : List ListEntry). list_all (is_among (members_of rows)) (names_in (l ++ left))) same) ∙ known))
    at_row true e front go = λ none.
        let s = has_shown rows done rest (length done + 1) row sound.none sound.few is e in
        first left s (subst (λ (l : List ListEntry). AreFront left (l ++ entries_from (length done + 1) rest)) s.is front) unknown go none

-- before the first record there is no entry
pub no_entries : (rows : List Fields) (left : List ListEntry) → AreKnownNames rows (names_in (entries_of [] ++ left)) → AreKnownNames rows (names_in left)
unfolding entries_from
no_entries rows left h = h
