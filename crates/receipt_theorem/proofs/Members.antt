-- The texts of a member's content have no carriage return and a greatest length.
use Rattle.std.proofs.Common.{◌≡◌, ℕ, zero, suc, ◌+◌, ◌*◌, ◌<◌, ◌≤◌, Bool, true, false, List, [], ◌∷◌, ◌++◌, length, map, get_or, Option, Some, None, is_some, option_map, refl, sym, ap, ◌∙◌, arith, rules, subst}
use Rattle.std.specs.Prelude.{codes, decimal, ⊤}
use Rattle.std.specs.List.{All, range_with_len}
use Rattle.std.proofs.lemmas.List.{length-map}
use Rattle.std.proofs.lemmas.List.Elements.{All-map, All-weaker}
use Rattle.match_model.specs.Draft.{Draft, given_lists}
use Rattle.match_model.specs.Instance.{is_withdrawn, list_at, quota}
use Rattle.match_model.specs.Placement.{member_count, programme_of}
use Rattle.match_reasons.specs.declared.reason.Why.{Why}
use Rattle.match_reasons.specs.declared.reason.Why.TheVariants.{Withdrawn, NotListed, NotRanked, Matched, PrefersOwn, Full, Blocking}
use Rattle.reasons_text.specs.Lines.{from_one}
use Rattle.reasons_text.specs.Table.{last_field, quota_field, rank_field, rank_text, word}
use Rattle.docket.specs.Contents.{Contents}
use Rattle.docket.specs.Texts.{programme_name, resident_name}
use Rattle.receipt_check.specs.Rows.{Cells, line, lines}
use Rattle.receipt_check.specs.Receipt.{Receipt, last_rows, list_rows, lists_text, member_row, name_rows, placed_row, result_text}
use Rattle.receipt_theorem.proofs.Clean.{AreShortNames, IsClean, clean_both, clean_more, clean_none, clean_row, clean_rows, short_names, short_number}
use Rattle.receipt_theorem.proofs.Market.{HasPlainNames}
use Rattle.receipt_theorem.proofs.Reasons.{HasRoom, next, reason_fields}
use Rattle.receipt_theorem.proofs.Rows.{IsShortName}
use Rattle.receipt_theorem.proofs.Texts.{Fits, all_fit, both, many, rows_same, told_row, told_rows}
use Rattle.receipt_theorem.proofs.Values.{Opened, members_kept, programme_content, resident_content}

none_short : IsShortName []
none_short = record { plain = refl; short = omega arith }

rank_short : (rank : ℕ) → rank < 100000000 → IsShortName (decimal (from_one rank))
rank_short rank l = rw (next rank l) (short_number (rank + 1) (omega (arith, l)))

reason_short : (why : Why) → HasRoom why → AreShortNames (reason_fields why)
unfolding word rank_field last_field quota_field
reason_short Withdrawn h = (record { plain = refl; short = omega arith }, (none_short, (none_short, (none_short, tt))))
reason_short NotListed h = (record { plain = refl; short = omega arith }, (none_short, (none_short, (none_short, tt))))
reason_short NotRanked h = (record { plain = refl; short = omega arith }, (none_short, (none_short, (none_short, tt))))
reason_short Matched h = (record { plain = refl; short = omega arith }, (none_short, (none_short, (none_short, tt))))
reason_short (PrefersOwn own i k) h = (record { plain = refl; short = omega arith }, (none_short, (none_short, (none_short, tt))))
reason_short (Full rank None places) h = (record { plain = refl; short = omega arith }, (rank_short rank h.1, (none_short, (short_number places (omega (arith, h.0)), tt))))
reason_short (Full rank (Some last) places) h =
    (record { plain = refl; short = omega arith }, (rank_short rank h.3, (rank_short last (omega (arith, h.2, h.3)), (short_number places (omega (arith, h.1, h.2, h.3)), tt))))
reason_short Blocking h = (record { plain = refl; short = omega arith }, (none_short, (none_short, (none_short, tt))))

module _ (d : Contents) (names : HasPlainNames d) (o : Opened) where
  module _ (p : ℕ) (places : ℕ) (small : places < 1000000000) (others : Cells) (told : IsClean 40010 (lines (name_rows o.named))) where
    abbrev given : Option (List ℕ) → Bool → Receipt
    given list gone = programme_content o (programme_name d p) places (option_map (map (resident_name d)) list) gone others

    list_clean : (xs : List ℕ) → length xs ≤ 100000 → IsClean 3300067 (line (codes "P" ∷ programme_name d p ∷ map (resident_name d) xs))
    list_clean xs few =
        clean_more _ 3300067 _ (let many = length-map xs (resident_name d) in omega (arith, many, few))
        (clean_row (codes "P" ∷ programme_name d p ∷ map (resident_name d) xs) (record { plain = refl; short = omega arith }, (names.programmes p, short_names (resident_name d) names.residents xs)))

    gone_clean : IsClean 40110 (lines ((codes "W" ∷ codes "P" ∷ programme_name d p ∷ []) ∷ name_rows o.named))
    gone_clean =
        clean_both 100 40010 (line (codes "W" ∷ codes "P" ∷ programme_name d p ∷ [])) _
        (clean_row (codes "W" ∷ codes "P" ∷ programme_name d p ∷ []) (record { plain = refl; short = omega arith }, (record { plain = refl; short = omega arith }, (names.programmes p, tt)))) told

    rest_clean : (list : Option (List ℕ)) (gone : Bool) → ((xs : List ℕ) → list ≡ Some xs → length xs ≤ 100000) → IsClean 3340177 (lines (list_rows (given list gone) ++ last_rows (given list gone)))
    rest_clean None false few = clean_more 40010 3340177 _ (omega arith) told
    rest_clean None true few = clean_more 40110 3340177 _ (omega arith) gone_clean
    rest_clean (Some xs) false few = clean_more 3340077 3340177 _ (omega arith) (clean_both 3300067 40010 _ _ (list_clean xs (few xs refl)) told)
    rest_clean (Some xs) true few = clean_both 3300067 40110 _ _ (list_clean xs (few xs refl)) gone_clean

    -- the text that is sealed of a programme before the match is clean and has at most 3340277 bytes
    pub programme_lists_clean : (list : Option (List ℕ)) (gone : Bool) → ((xs : List ℕ) → list ≡ Some xs → length xs ≤ 100000) → IsClean 3340277 (lists_text (given list gone))
    unfolding lists_text
    programme_lists_clean list gone few =
        clean_both 100 3340177 (line (codes "Q" ∷ programme_name d p ∷ decimal places ∷ [])) _
        (clean_row (codes "Q" ∷ programme_name d p ∷ decimal places ∷ []) (record { plain = refl; short = omega arith }, (names.programmes p, (short_number places small, tt))))
        (rest_clean list gone few)

  -- the text that is sealed of a programme after the match is clean and has at most 1000133 bytes
  pub programme_result_clean : (p places : ℕ) (list : Option Cells) (gone : Bool) (xs : List ℕ) → places < 1000000000 → length xs ≤ 10000
      → IsClean 1000133 (result_text (programme_content o (programme_name d p) places list gone (map (resident_name d) xs)))
  unfolding result_text
  programme_result_clean p places list gone xs small few =
      let name = programme_name d p in
      let others = map (resident_name d) xs in
      let told = map (member_row (programme_name d p)) (map (resident_name d) xs) in
      let count : length (map (member_row (programme_name d p)) (map (resident_name d) xs)) ≡ length xs = length-map (map (resident_name d) xs) (member_row (programme_name d p)) ∙ length-map xs (resident_name d) in
      let first = clean_row (codes "F" ∷ programme_name d p ∷ decimal (length (map (member_row (programme_name d p)) (map (resident_name d) xs))) ∷ decimal places ∷ [])
      (record { plain = refl; short = omega arith }, (names.programmes p, (short_number _ (omega (arith, count, few)), (short_number places small, tt)))) in
      let rows = clean_rows 100 (map (member_row (programme_name d p)) (map (resident_name d) xs))
      (All-map (λ row. IsClean 100 (line row)) (member_row (programme_name d p)) (map (resident_name d) xs)
      (All-map (λ name. IsClean 100 (line (member_row (programme_name d p) name))) (resident_name d) xs
      (λ k e l. clean_row (codes "M" ∷ resident_name d (get_or xs k e) ∷ programme_name d p ∷ []) (record { plain = refl; short = omega arith }, (names.residents (get_or xs k e), (names.programmes p, tt)))))) in
      clean_both 133 1000000 _ _ first
      (rw (members_kept (programme_name d p) (map (resident_name d) xs)) (clean_more _ 1000000 _ (omega (arith, count, few)) rows))

  -- the text that is sealed of a resident before the match is clean and has at most 370177 bytes
  pub resident_lists_clean : (r : ℕ) (xs : List ℕ) (gone : Bool) (own : Option (List ℕ)) (after : List Cells) → IsClean 40010 (lines (name_rows o.named)) → length xs ≤ 10000
      → IsClean 370177 (lists_text (resident_content o (resident_name d r) (map (programme_name d) xs) gone own after))
  unfolding lists_text
  resident_lists_clean r xs gone own after told few =
      clean_both 330067 40110 (line (codes "R" ∷ resident_name d r ∷ map (programme_name d) xs)) _
      (clean_more _ 330067 _ (let many = length-map xs (programme_name d) in omega (arith, many, few))
      (clean_row (codes "R" ∷ resident_name d r ∷ map (programme_name d) xs) (record { plain = refl; short = omega arith }, (names.residents r, short_names (programme_name d) names.programmes xs))))
      (rest gone)
    where
      rest : (b : Bool) → IsClean 40110 (lines (last_rows (resident_content o (resident_name d r) (map (programme_name d) xs) b own after)))
      rest false = clean_more 40010 40110 _ (omega arith) told
      rest true =
          clean_both 100 40010 (line (codes "W" ∷ codes "R" ∷ resident_name d r ∷ [])) _
          (clean_row (codes "W" ∷ codes "R" ∷ resident_name d r ∷ []) (record { plain = refl; short = omega arith }, (record { plain = refl; short = omega arith }, (names.residents r, tt)))) told

  -- the text that is sealed of a resident after the match is clean and has at most 2320100 bytes
  pub resident_result_clean : (m : List (Option ℕ)) (r : ℕ) (listed : List ℕ) (reasons : List Why) (each : length reasons ≡ length listed) (gone : Bool) (own : Option ℕ) → length listed ≤ 10000
      → ((k : ℕ) → k < length listed → HasRoom (get_or reasons k Matched))
      → IsClean 2320100 (result_text (resident_content o (resident_name d r) (map (programme_name d) listed) gone (option_map (programme_name d) own) (told_rows d m names r listed reasons)))
  unfolding result_text
  resident_result_clean m r listed reasons each gone own few room =
      clean_both 100 2320000 _ _ (placed own)
      (subst (λ (rows : List Cells). IsClean 2320000 (lines rows)) (rows_same d m names r listed reasons each o gone (option_map (programme_name d) own))
      (clean_more _ 2320000 _ (let size = length-map (both d m names r listed reasons each) (told_row d m names r) in let n = many d m names r listed reasons each in omega (arith, size, n, few))
      (clean_rows 232 (told_rows d m names r listed reasons)
      (All-map (λ row. IsClean 232 (line row)) (told_row d m names r) (both d m names r listed reasons each)
      (All-weaker (Fits d m names) (λ told. IsClean 232 (line (told_row d m names r told))) one (both d m names r listed reasons each) (all_fit d m names r listed reasons each (omega (arith, few)) room))))))
    where
      placed : (o : Option ℕ) → IsClean 100 (line (placed_row (resident_name d r) (option_map (programme_name d) o)))
      placed None = clean_more 67 100 _ (omega arith) (clean_row (codes "U" ∷ resident_name d r ∷ []) (record { plain = refl; short = omega arith }, (names.residents r, tt)))
      placed (Some p) = clean_row (codes "M" ∷ resident_name d r ∷ programme_name d p ∷ []) (record { plain = refl; short = omega arith }, (names.residents r, (names.programmes p, tt)))

      one : (told : ℕ × (ℕ × Why)) → Fits d m names told → IsClean 232 (line (told_row d m names r told))
      one told h = clean_row (told_row d m names r told) (names.residents r, (names.programmes told.1.0, (short_number told.0 h.0, reason_short told.1.1 h.1)))
