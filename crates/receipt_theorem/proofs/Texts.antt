-- The text that is sealed for a member after the match is the text after the match of a receipt
-- with the member's content.
use Rattle.std.proofs.Common.{◌≡◌, ℕ, zero, suc, ◌+◌, ◌<◌, ◌≤◌, ◌&&◌, Bool, true, false, List, [], ◌∷◌, ◌++◌, length, map, drop, get_or, Option, Some, None, option_map, refl, sym, ap, ◌∙◌, arith, subst}
use Rattle.std.specs.Prelude.{codes, decimal, if◌then◌else◌, ⊤}
use Rattle.std.specs.List.{All, enumerate_from, filter, flat_map, list_all, range_with_len, zip}
use Rattle.std.proofs.lemmas.Bool.{and_parts}
use Rattle.std.proofs.lemmas.List.{length-map, get_or-map}
use Rattle.std.proofs.lemmas.List.Elements.{All-head, All-tail, All-from_get_or}
use Rattle.std.proofs.lemmas.List.FromFn.{fill_by_all, get_or-enumerate_from, length-enumerate_from}
use Rattle.std.proofs.lemmas.Slice.Zip.{get_or-zip, length-zip}
use Rattle.match_model.specs.Instance.{quota}
use Rattle.match_model.specs.Placement.{holds, member_count, programme_of}
use Rattle.settle_law.proofs.Placements.{members_of, length-members_of}
use Rattle.match_reasons.specs.declared.reason.Why.{Why}
use Rattle.match_reasons.specs.declared.reason.Why.TheVariants.{Withdrawn, NotListed, NotRanked, Matched, PrefersOwn, Full, Blocking}
use Rattle.records.specs.RowText.{row}
use Rattle.docket_names.specs.Words.{is_name, is_name_byte}
use Rattle.docket_names.proofs.NameFacts.{number_is_name}
use Rattle.docket.specs.Contents.{Contents}
use Rattle.docket.specs.Texts.{filled_row, mark_row, programme_name, programme_row, resident_name, resident_row}
use Rattle.reasons_text.specs.Naming.{own_names, shown, shown_programme, shown_resident, text_at as named_at}
use Rattle.reasons_text.specs.Lines.{from_one}
use Rattle.reasons_text.specs.Table.{answer_row, last_field, quota_field, rank_field, rank_text, rows_on, word}
use Rattle.seal_text.specs.Texts.{member_row as member_text, member_rows, programme_result}
use Rattle.receipt_check.specs.Rows.{Cells, line, lines, row_at, text_at}
use Rattle.receipt_check.specs.Receipt.{answer, member_row, placed_row, reason_row, result_text}
use Rattle.receipt_check.proofs.Steps.{lines_map}
use Rattle.receipt_theorem.proofs.Market.{HasPlainNames}
use Rattle.receipt_theorem.proofs.Numbers.{written}
use Rattle.receipt_theorem.proofs.Reasons.{HasRoom, next, reason_fields}
use Rattle.receipt_theorem.proofs.Rows.{ArePlain, IsPlain, plain_row}
use Rattle.receipt_theorem.proofs.Values.{Opened, members_kept, programme_content, resident_content}

-- Plain fields.

pub name_plain : (name : List ℕ) → is_name name ≡ true → IsPlain name
unfolding is_name
name_plain name h = (and_parts _ (list_all is_name_byte name) h).1

pub number_plain : (n : ℕ) → n < 1000000000 → IsPlain (decimal n)
number_plain n l = name_plain (decimal n) (number_is_name (decimal n) (written n l))

rank_plain : (rank : ℕ) → rank < 100000000 → IsPlain (decimal (from_one rank))
rank_plain rank l = rw (next rank l) (number_plain (rank + 1) (omega (arith, l)))

-- Texts of several rows.

flat_filter : (test : ℕ → Bool) (f : ℕ → List ℕ) (xs : List ℕ) → flat_map (λ x. if test x then f x else []) xs ≡ flat_map f (filter test xs)
flat_filter test f [] = refl
flat_filter test f (x ∷ xs) = by (test x) (flat_filter test f xs)
  where
    by : (b : Bool) → flat_map (λ x. if test x then f x else []) xs ≡ flat_map f (filter test xs)
        → (if b then f x else []) ++ flat_map (λ x. if test x then f x else []) xs ≡ flat_map f (if b then x ∷ filter test xs else filter test xs)
    by true h = ap (λ (rest : List ℕ). f x ++ rest) h
    by false h = h

flat_same : {A : Type 0} (P : A → Type 0) (f g : A → List ℕ) → ((x : A) → P x → f x ≡ g x) → (xs : List A) → All P xs → flat_map f xs ≡ flat_map g xs
flat_same P f g h [] all = refl
flat_same P f g h (x ∷ xs) all = rw (h x (All-head P x xs all), flat_same P f g h xs (All-tail P x xs all)) refl

-- Programmes.

-- the names of the residents whom a placement gives a programme
abbrev pub member_names : Contents → List (Option ℕ) → ℕ → Cells
member_names d m p = map (resident_name d) (members_of m p)

module _ (d : Contents) (m : List (Option ℕ)) (names : HasPlainNames d) where
  member_text_is : (p r : ℕ) → mark_row d r (Some p) ≡ line (member_row (programme_name d p) (resident_name d r))
  unfolding mark_row
  member_text_is p r = plain_row (codes "M") (resident_name d r) (programme_name d p ∷ []) (refl, ((names.residents r).plain, ((names.programmes p).plain, tt)))

  member_lines : (p : ℕ) (xs : List ℕ) → flat_map (λ r. mark_row d r (Some p)) xs ≡ lines (map (member_row (programme_name d p)) (map (resident_name d) xs))
  member_lines p [] = refl
  member_lines p (x ∷ xs) = rw (member_text_is p x, member_lines p xs) refl

  members_text : (p n : ℕ) → n ≡ length m → member_rows d m p n ≡ lines (map (member_row (programme_name d p)) (member_names d m p))
  members_text p n many =
      rw many (flat_filter (λ r. holds p (programme_of m r)) (λ r. mark_row d r (Some p)) (range_with_len 0 (length m)) ∙ member_lines p (members_of m p))

  -- the text that is sealed for a programme after the match is the text after the match in its
  -- receipt
  pub programme_text_is : (o : Opened) (p : ℕ) (list : Option Cells) (gone : Bool) → length d.instance.resident_lists ≡ length m → quota d.instance p < 1000000000 → member_count m p < 1000000000
      → programme_result d m p ≡ result_text (programme_content o (programme_name d p) (quota d.instance p) list gone (member_names d m p))
  unfolding programme_result programme_row result_text
  programme_text_is o p list gone many small few =
      let name = programme_name d p in
      let others = member_names d m p in
      let count : member_count m p ≡ length (map (member_row (programme_name d p)) (member_names d m p)) =
      sym (length-map (member_names d m p) (member_row (programme_name d p)) ∙ length-map (members_of m p) (resident_name d) ∙ length-members_of m p) in
      let first : filled_row d m p ≡ line (codes "F" ∷ programme_name d p ∷ decimal (member_count m p) ∷ decimal (quota d.instance p) ∷ []) =
      plain_row (codes "F") (programme_name d p) (decimal (member_count m p) ∷ decimal (quota d.instance p) ∷ [])
      (refl, ((names.programmes p).plain, (number_plain (member_count m p) few, (number_plain (quota d.instance p) small, tt)))) in
      ap (λ (t : List ℕ). t ++ member_rows d m p (length d.instance.resident_lists)) (first ∙ ap (λ n. line (codes "F" ∷ programme_name d p ∷ decimal n ∷ decimal (quota d.instance p) ∷ [])) count)
      ∙ ap (λ (t : List ℕ). line (codes "F" ∷ programme_name d p ∷ decimal (length (map (member_row (programme_name d p)) (member_names d m p))) ∷ decimal (quota d.instance p) ∷ []) ++ t)
      (members_text p (length d.instance.resident_lists) many ∙ ap (λ (told : Cells). lines (map (member_row (programme_name d p)) told)) (sym (members_kept (programme_name d p) (member_names d m p))))

  -- Residents.

  -- the row that tells a choice in a receipt, by the choice's number, the programme and the reason
  abbrev pub told_row : ℕ → ℕ × (ℕ × Why) → Cells
  told_row r told = resident_name d r ∷ programme_name d told.1.0 ∷ decimal told.0 ∷ reason_fields told.1.1

  abbrev pub Fits : ℕ × (ℕ × Why) → Type 0
  Fits told = (told.0 < 1000000000) × HasRoom told.1.1

  reason_plain : (why : Why) → HasRoom why → ArePlain (reason_fields why)
  unfolding word rank_field last_field quota_field
  reason_plain Withdrawn h = (refl, (refl, (refl, (refl, tt))))
  reason_plain NotListed h = (refl, (refl, (refl, (refl, tt))))
  reason_plain NotRanked h = (refl, (refl, (refl, (refl, tt))))
  reason_plain Matched h = (refl, (refl, (refl, (refl, tt))))
  reason_plain (PrefersOwn own i k) h = (refl, (refl, (refl, (refl, tt))))
  reason_plain (Full rank None places) h = (refl, (rank_plain rank h.1, (refl, (number_plain places (omega (arith, h.0)), tt))))
  reason_plain (Full rank (Some last) places) h =
      (refl, (rank_plain rank h.3, (rank_plain last (omega (arith, h.2, h.3)), (number_plain places (omega (arith, h.1, h.2, h.3)), tt))))
  reason_plain Blocking h = (refl, (refl, (refl, (refl, tt))))

  own_shown : (r : ℕ) → shown_resident (own_names d) r ≡ resident_name d r
  unfolding shown named_at
  own_shown r = refl

  other_shown : (p : ℕ) → shown_programme (own_names d) p ≡ programme_name d p
  unfolding shown named_at
  other_shown p = refl

  told_text : (r : ℕ) (told : ℕ × (ℕ × Why)) → Fits told → answer_row (own_names d) false r told.0 told.1.0 told.1.1 ≡ line (told_row r told)
  unfolding answer_row
  told_text r told h =
      rw (own_shown r, other_shown told.1.0) (plain_row (resident_name d r) (programme_name d told.1.0) (decimal told.0 ∷ reason_fields told.1.1)
      ((names.residents r).plain, ((names.programmes told.1.0).plain, (number_plain told.0 h.0, reason_plain told.1.1 h.1))))

  -- the rows that tell a resident's choices in a receipt, with numbers from a given one
  abbrev pub told_rows : ℕ → List ℕ → List Why → List Cells
  told_rows r programmes reasons = map (told_row r) (enumerate_from 1 (zip programmes reasons))

  module _ (r : ℕ) (listed : List ℕ) (reasons : List Why) (each : length reasons ≡ length listed) where
    abbrev pub both : List (ℕ × (ℕ × Why))
    both = enumerate_from 1 (zip listed reasons)

    pub many : length both ≡ length listed
    many = let m = length-zip listed reasons in let short : length (zip listed reasons) ≡ length listed = omega (arith, m, each) in length-enumerate_from 1 (zip listed reasons) ∙ short

    there : (k : ℕ) → k < length listed → get_or both k (0, (0, Matched)) ≡ (1 + k, (get_or listed k 0, get_or reasons k Matched))
    there k l =
        get_or-enumerate_from 1 (zip listed reasons) k (0, (0, Matched)) (let m = length-zip listed reasons in omega (arith, m, each, l))
        ∙ ap (λ (x : ℕ × Why). (1 + k, x)) (get_or-zip listed reasons k (0, Matched) l (subst (λ n. k < n) (sym each) l))

    -- the row at place k of these rows tells choice k + 1
    row_there : (k : ℕ) → k < length listed → row_at (told_rows r listed reasons) k ≡ told_row r (1 + k, (get_or listed k 0, get_or reasons k Matched))
    row_there k l = get_or-map (told_row r) both k (0, (0, Matched)) [] (subst (λ n. k < n) (sym many) l) ∙ ap (told_row r) (there k l)

    pub answer_there : (o : Opened) (gone : Bool) (own : Option (List ℕ)) (k : ℕ) → k < length listed
        → answer (resident_content o (resident_name d r) (map (programme_name d) listed) gone own (told_rows r listed reasons)) k ≡ reason_fields (get_or reasons k Matched)
    answer_there o gone own k l = ap (drop 3) (row_there k l)

    pub rows_same : (o : Opened) (gone : Bool) (own : Option (List ℕ))
        → told_rows r listed reasons ≡ map (reason_row (resident_content o (resident_name d r) (map (programme_name d) listed) gone own (told_rows r listed reasons))) (range_with_len 0 (length (map (programme_name d) listed)))
    rows_same o gone own =
        fill_by_all (reason_row (resident_content o (resident_name d r) (map (programme_name d) listed) gone own (told_rows r listed reasons))) (told_rows r listed reasons) (length (map (programme_name d) listed)) []
        (length-map both (told_row r) ∙ many ∙ sym (length-map listed (programme_name d)))
        (λ k l. (
        let within : k < length listed = subst (λ n. k < n) (length-map listed (programme_name d)) l in
        let name : text_at (map (programme_name d) listed) k ≡ programme_name d (get_or listed k 0) = get_or-map (programme_name d) listed k 0 [] within in
        let from_one : 1 + k ≡ k + 1 = omega arith in
        row_there k within ∙ rw (name, ap (drop 3) (row_there k within), from_one) refl))

    -- the numbers of the choices and of their reasons are small
    pub all_fit : length listed < 100000000 → ((k : ℕ) → k < length listed → HasRoom (get_or reasons k Matched)) → All Fits both
    all_fit few room = All-from_get_or Fits both (0, (0, Matched)) (λ k l. (
        let within : k < length listed = subst (λ n. k < n) many l in
        subst Fits (sym (there k within)) (omega (arith, within, few), room k within)))

    -- the text that is sealed for a resident after the match is the text after the match in the
    -- resident's receipt
    pub resident_text_is : (o : Opened) (gone : Bool) → length listed < 100000000 → ((k : ℕ) → k < length listed → HasRoom (get_or reasons k Matched))
        → resident_row d m r ++ rows_on (own_names d) false r listed reasons
        ≡ result_text (resident_content o (resident_name d r) (map (programme_name d) listed) gone (option_map (programme_name d) (programme_of m r)) (told_rows r listed reasons))
    unfolding result_text mark_row
    resident_text_is o gone few room =
        ap (λ (t : List ℕ). resident_row d m r ++ t) rows_are ∙ ap (λ (t : List ℕ). t ++ lines (told_rows r listed reasons)) (placed (programme_of m r))
        ∙ ap (λ (rows : List Cells). line (placed_row (resident_name d r) (option_map (programme_name d) (programme_of m r))) ++ lines rows) (rows_same o gone (option_map (programme_name d) (programme_of m r)))
      where
        rows_are : rows_on (own_names d) false r listed reasons ≡ lines (told_rows r listed reasons)
        rows_are = flat_same Fits (λ told. answer_row (own_names d) false r told.0 told.1.0 told.1.1) (λ told. line (told_row r told)) (told_text r) both (all_fit few room) ∙ sym (lines_map (told_row r) both)

        placed : (own : Option ℕ) → mark_row d r own ≡ line (placed_row (resident_name d r) (option_map (programme_name d) own))
        placed None = plain_row (codes "U") (resident_name d r) [] (refl, ((names.residents r).plain, tt))
        placed (Some p) = plain_row (codes "M") (resident_name d r) (programme_name d p ∷ []) (refl, ((names.residents r).plain, ((names.programmes p).plain, tt)))
