-- Each receipt of a docket with a stable sheet is good.
use Rattle.std.proofs.Common.{◌≡◌, ℕ, zero, suc, ◌+◌, ◌<◌, ◌≤◌, Bool, true, false, List, [], ◌∷◌, ◌++◌, length, map, get_or, Option, Some, None, option_map, is_some, refl, sym, ap, ◌∙◌, arith, subst}
use Rattle.std.specs.Prelude.{codes, slice_get, slice_index_or, unwrap_or}
use Rattle.std.specs.List.{All, range_with_len}
use Rattle.std.proofs.lemmas.List.{length-append, length-map}
use Rattle.std.proofs.lemmas.List.FromFn.{length-map-range_with_len}
use Rattle.std.proofs.lemmas.Option.{slice_get-get_or}
use Rattle.match_model.specs.Draft.{Draft}
use Rattle.match_model.specs.Instance.{is_withdrawn, list_at, quota}
use Rattle.match_model.specs.Placement.{IsMemberOf, member_count, programme_of}
use Rattle.match_model.specs.Ranking.{IsListed}
use Rattle.match_model.specs.Written.{Written, written_of}
use Rattle.settle_law.specs.Stable.{IsStable}
use Rattle.settle_law.proofs.Places.{IsListed-get_or}
use Rattle.settle_law.proofs.Placements.{length-members_of, member_from_listed, member_within, members_differ, members_of}
use Rattle.match_reasons.specs.Reason.{IsFirst}
use Rattle.match_reasons.specs.declared.reason.Why.{Why}
use Rattle.match_reasons.specs.declared.reason.Why.TheVariants.{Matched}
use Rattle.docket.specs.Contents.{Contents}
use Rattle.docket.specs.Texts.{programme_name, resident_name, resident_row}
use Rattle.reasons_text.specs.Answers.{CaseParts}
use Rattle.reasons_text.specs.Naming.{own_names}
use Rattle.reasons_text.specs.RealNames.{Real}
use Rattle.reasons_text.specs.Table.{rows_on}
use Rattle.seal_text.specs.Texts.{AreResultTexts, IsResidentResult, list_of_programme, list_of_resident, lists_texts, programme_result}
use Rattle.seal_text.specs.declared.leaves.Section.TheVariants.{Lists, Outcome}
use Rattle.receipt_check.specs.Rows.{Cells}
use Rattle.receipt_check.specs.Receipt.{Receipt, answer}
use Rattle.receipt_check.specs.Faults.{can_stand, stand_of, wrong_name}
use Rattle.receipt_check.specs.Good.{IsGoodReceipt}
use Rattle.docket_names.specs.Texts.{number_in}
use Rattle.seal_text.specs.Sealed.{published, receipt_of}
use Rattle.receipt_theorem.proofs.Bodies.{IsAt, opened_at, opened_right}
use Rattle.receipt_theorem.proofs.Clean.{clean_more}
use Rattle.receipt_theorem.proofs.Leaves.{programme_lists_are, resident_lists_are}
use Rattle.receipt_theorem.proofs.Market.{IsMarket}
use Rattle.receipt_theorem.proofs.Members.{programme_lists_clean, programme_result_clean, resident_lists_clean, resident_result_clean}
use Rattle.receipt_theorem.proofs.Named.{AreNameRows}
use Rattle.receipt_theorem.proofs.Places.{Below, declared, names_right, numbered}
use Rattle.receipt_theorem.proofs.Reasons.{HasRoom, IsRight, own_place, reason_fields, reason_stands}
use Rattle.receipt_theorem.proofs.Right.{below_of, empty, list_short, listed, right, stays}
use Rattle.receipt_theorem.proofs.Sealing.{all_texts, few_texts, first_side, list_shown, lists, mine, my_list_right, my_list_short, my_row, programme_there, programmes, resident_there, residents, second_side, small_quota, their_list_right, their_list_short, their_names, their_row, theirs}
use Rattle.receipt_theorem.proofs.Texts.{answer_there, member_names, programme_text_is, resident_text_is, told_rows}
use Rattle.receipt_theorem.proofs.Values.{IsRightResident, programme_content, programme_right, resident_content, resident_right}
use Rattle.receipt_theorem.proofs.Whole.{good_receipt}

-- the text that is sealed for a resident after the match has one reason for each programme on the
-- resident's list: the first reason that is true
record HasReasons (d : Contents) (draft : Draft) (market : IsMarket d draft) (secret : List ℕ) (real : Real) (m : List (Option ℕ)) (r : ℕ) (text : List ℕ) : Type 0 where
  reasons : List Why
  each : length reasons ≡ length (mine d draft market secret real r)
  first : (k : ℕ) → k < length (mine d draft market secret real r)
      → IsFirst d.instance (mine d draft market secret real r) (theirs d draft market secret real (get_or (mine d draft market secret real r) k 0)) m r (get_or (mine d draft market secret real r) k 0) (get_or reasons k Matched)
  text_is : text ≡ resident_row d m r ++ rows_on (own_names d) false r (mine d draft market secret real r) reasons

-- a result has as many texts as the docket has members
pub results_counted : (c : CaseParts) (draft : Draft) (market : IsMarket c.docket draft) (secret : List ℕ) (real : Real) (results : List (List ℕ)) → AreResultTexts c results
    → length results ≡ length (lists c.docket draft market secret real)
results_counted c draft market secret real results are =
    let n = all_texts c.docket draft market secret real in
    let a = length-map-range_with_len (programme_result c.docket c.sheet) 0 (programmes c.docket draft market secret real) in
    let b = are.are.each in
    let whole = length-append (map (programme_result c.docket c.sheet) (range_with_len 0 (programmes c.docket draft market secret real))) are.residents in
    let all : length results ≡ length (map (programme_result c.docket c.sheet) (range_with_len 0 (programmes c.docket draft market secret real)) ++ are.residents) = ap length are.texts_are in
    omega (arith, n, a, b, whole, all)

module _ (c : CaseParts) (draft : Draft) (market : IsMarket c.docket draft) (secret : List ℕ) (real : Real) (keyed : AreNameRows c.docket real) (written_is : c.written ≡ written_of draft) (stable : IsStable c.docket.instance c.sheet)
    (results : List (List ℕ)) (are : AreResultTexts c results) where
  abbrev d : Contents
  d = c.docket

  abbrev m : List (Option ℕ)
  m = c.sheet

  abbrev ps : ℕ
  ps = programmes d draft market secret real

  abbrev rs : ℕ
  rs = residents d draft market secret real

  abbrev texts : List (List ℕ)
  texts = lists d draft market secret real

  abbrev my : ℕ → List ℕ
  my r = mine d draft market secret real r

  abbrev their : ℕ → List ℕ
  their p = theirs d draft market secret real p

  abbrev their_named : ℕ → Cells
  their_named p = their_row d draft market secret real p

  abbrev my_named : ℕ → Cells
  my_named r = my_row d draft market secret real r

  abbrev written : Written
  written = written_of draft

  has_reasons : (r : ℕ) (text : List ℕ) → IsResidentResult c r text → HasReasons d draft market secret real m r text
  has_reasons r text h =
      let told = h.rows.told in
      let same : h.rows.told.programmes ≡ my r = told.first.listed ∙ ap (λ (w : Written). list_at w.resident_lists r) written_is in
      record {
        reasons = told.reasons;
        each = told.first.each ∙ ap length same;
        first = λ k l. (
            let there : slice_get h.rows.told.programmes k ≡ Some (get_or (my r) k 0) = ap (λ (xs : List ℕ). slice_get xs k) same ∙ slice_get-get_or (my r) k 0 l in
            let why : slice_get h.rows.told.reasons k ≡ Some (get_or h.rows.told.reasons k Matched) = slice_get-get_or h.rows.told.reasons k Matched (let n = h.rows.told.first.each in let e : length h.rows.told.programmes ≡ length (my r) = ap length same in omega (arith, n, e, l)) in
            subst (λ (w : Written). IsFirst d.instance (list_at w.resident_lists r) (list_at w.programme_lists (get_or (my r) k 0)) m r (get_or (my r) k 0) (get_or h.rows.told.reasons k Matched)) written_is
            (h.rows.told.first.first k (get_or (my r) k 0) (get_or h.rows.told.reasons k Matched) there why));
        text_is = h.text_is ∙ ap (λ (t : List ℕ). resident_row d m r ++ t) (h.rows.text_is ∙ ap (λ (xs : List ℕ). rows_on (own_names d) false r xs h.rows.told.reasons) same);
      }

  programme_placed : (p : ℕ) → p < ps → slice_get results p ≡ Some (programme_result d m p)
  programme_placed p l = ap (λ (t : List (List ℕ)). slice_get t p) are.texts_are ∙ first_side (programme_result d m) ps p are.residents l

  resident_placed : (r : ℕ) → r < rs → slice_get results (ps + r) ≡ Some (get_or are.residents r [])
  resident_placed r l =
      ap (λ (t : List (List ℕ)). slice_get t (ps + r)) are.texts_are
      ∙ second_side (map (programme_result d m) (range_with_len 0 ps)) are.residents ps r (length-map-range_with_len (programme_result d m) 0 ps) (let b = are.are.each in omega (arith, b, l))

  -- Programmes.

  abbrev others : ℕ → Cells
  others p = member_names d m p

  placed_each : length d.instance.resident_lists ≡ length m
  placed_each = sym stable.is_assignment.one_place_each

  abbrev full_programme : ℕ → Receipt
  full_programme p = programme_content (opened_at secret texts (Some results) p (their_named p)) (programme_name d p) (quota d.instance p) (list_of_programme d draft p) (is_withdrawn d.instance.programmes_withdrawn p) (others p)

  few_members : (p : ℕ) → member_count m p ≤ 10000
  few_members p = let kept = stable.is_assignment.quotas_kept p in let few = market.few_places p in omega (arith, kept, few)

  programme_at : (p : ℕ) → p < ps → IsAt secret texts (Some results) p (full_programme p)
  programme_at p l = record {
    count_is = refl;
    index_is = refl;
    opening_is = refl;
    second_is = refl;
    few = (let few = few_texts d draft market secret real in omega (arith, few));
    listed = programme_there d draft market secret real p l ∙ ap Some (programme_lists_are d draft market.names (opened_at secret texts (Some results) p (their_named p)) real p (others p) (keyed.programmes p l).text_is (small_quota d draft market secret real p));
    each = λ given e. (let same : results ≡ given = cc e in sym (ap length same) ∙ results_counted c draft market secret real results are);
    placed = λ given e. (
        let same : results ≡ given = cc e in
        sym (ap (λ (t : List (List ℕ)). slice_get t p) same) ∙ programme_placed p l
        ∙ ap Some (programme_text_is d m market.names (opened_at secret texts (Some results) p (their_named p)) p (list_of_programme d draft p) (is_withdrawn d.instance.programmes_withdrawn p) placed_each
        (small_quota d draft market secret real p) (let few = few_members p in omega (arith, few))));
    named = (keyed.programmes p l).right;
  }

  member_small : (p : ℕ) → Below rs (members_of m p)
  member_small p k e l =
      let who = member_from_listed m p (get_or (members_of m p) k e) (IsListed-get_or (members_of m p) k e l) in
      let within = member_within m (get_or (members_of m p) k e) p who in
      let each = stable.is_assignment.one_place_each in
      omega (arith, within, each)

  members_right : (p : ℕ) → wrong_name (Some (unwrap_or (list_of_programme d draft p) [])) (others p) ≡ None
  members_right p =
      ap (λ (on : Cells). wrong_name (Some on) (others p)) (their_names d draft market secret real p)
      ∙ names_right rs (resident_name d) market.residents (Some (map (resident_name d) (their p))) (members_of m p) (member_small p) (members_differ m p)
      (λ s l. declared rs (resident_name d) market.residents (their p) s (below_of rs (their p) (market.programme_lists p) s (on p s l)) (market.programme_lists p).below (on p s l))
    where
      on : (p s : ℕ) → IsListed (members_of m p) s → IsListed (their p) s
      on p s l = (listed d.instance written m market.instance market.made stable s p (member_from_listed m p s l)).1

  counted : (p : ℕ) → length (others p) ≡ member_count m p
  counted p = length-map (members_of m p) (resident_name d) ∙ length-members_of m p

  pub programme_good : (p : ℕ) → p < ps → IsGoodReceipt (published secret Lists texts) (Some (published secret Outcome results)) (receipt_of secret (codes "P") (programme_name d p) texts (Some results) p)
  programme_good p l =
      let at = programme_at p l in
      let n = all_texts d draft market secret real in
      let few = few_texts d draft market secret real in
      let count = counted p in
      let kept = stable.is_assignment.quotas_kept p in
      let right = programme_right (published secret Lists texts) (Some (published secret Outcome results)) (opened_at secret texts (Some results) p (their_named p)) (programme_name d p) (quota d.instance p) (list_of_programme d draft p)
      (is_withdrawn d.instance.programmes_withdrawn p) (others p)
      (opened_right secret texts (Some results) p (full_programme p) at (omega (arith, n, l, few)))
      (record {
        named = market.programmes.named p l;
        places = small_quota d draft market secret real p;
        listed = their_list_right d draft market secret real p;
        fits = omega (arith, count, kept);
        nobody = λ e. counted p ∙ empty d.instance written m market.instance market.made stable p e;
        on_list = members_right p;
      }) in
      good_receipt secret texts (Some results) p (full_programme p) at (omega (arith, n, l)) (few_texts d draft market secret real) (market.names.programmes p)
      (clean_more 3340277 3345000 _ (omega arith) (programme_lists_clean d market.names (opened_at secret texts (Some results) p (their_named p)) p (quota d.instance p) (small_quota d draft market secret real p) (others p) (keyed.programmes p l).clean (slice_index_or draft.programme_lists p None)
      (is_withdrawn d.instance.programmes_withdrawn p) (their_list_short d draft market secret real p)))
      (λ given e. clean_more 1000133 2321000 _ (omega arith) (programme_result_clean d market.names (opened_at secret texts (Some results) p (their_named p)) p (quota d.instance p) (list_of_programme d draft p)
      (is_withdrawn d.instance.programmes_withdrawn p) (members_of m p) (small_quota d draft market secret real p) (let a = length-members_of m p in let b = few_members p in omega (arith, a, b))))
      (list_shown d draft market secret real (slice_index_or draft.programme_lists p None)) right

  -- Residents.

  module _ (r : ℕ) (l : r < rs) (h : HasReasons d draft market secret real m r (get_or are.residents r [])) where
    abbrev gone : Bool
    gone = is_withdrawn d.instance.residents_withdrawn r

    abbrev own : Option ℕ
    own = programme_of m r

    abbrev rows : List Cells
    rows = told_rows d m market.names r (my r) h.reasons

    abbrev full_resident : Receipt
    full_resident = resident_content (opened_at secret texts (Some results) (ps + r) (my_named r)) (resident_name d r) (list_of_resident d draft r) gone (option_map (programme_name d) own) rows

    their_few : (p : ℕ) → length (their p) ≤ 100000
    their_few p = let short = list_short rs (their p) (market.programme_lists p) in let few = market.few_residents in omega (arith, short, few)

    is_right : (k : ℕ) → k < length (my r) → IsRight gone (my r) own (get_or (my r) k 0) (get_or h.reasons k Matched)
    is_right k w = right d.instance written m market.instance market.made stable r (get_or (my r) k 0) (get_or h.reasons k Matched) (their_few (get_or (my r) k 0)) (h.first k w) (IsListed-get_or (my r) k 0 w)

    own_listed : (q : ℕ) → own ≡ Some q → IsListed (my r) q
    own_listed q e = (listed d.instance written m market.instance market.made stable r q e).0

    few_choices : length (my r) < 100000000
    few_choices = let few = my_list_short d draft market secret real r in omega (arith, few)

    resident_at : IsAt secret texts (Some results) (ps + r) full_resident
    resident_at = record {
      count_is = refl;
      index_is = refl;
      opening_is = refl;
      second_is = refl;
      few = (let few = few_texts d draft market secret real in omega (arith, few));
      listed = resident_there d draft market secret real r l ∙ ap Some (resident_lists_are d draft market.names (opened_at secret texts (Some results) (ps + r) (my_named r)) real r (option_map (programme_name d) own) rows (keyed.residents r l).text_is);
      each = λ given e. (let same : results ≡ given = cc e in sym (ap length same) ∙ results_counted c draft market secret real results are);
      placed = λ given e. (
          let same : results ≡ given = cc e in
          sym (ap (λ (t : List (List ℕ)). slice_get t (ps + r)) same) ∙ resident_placed r l
          ∙ ap Some (h.text_is ∙ resident_text_is d m market.names r (my r) h.reasons h.each (opened_at secret texts (Some results) (ps + r) (my_named r)) gone few_choices (λ k w. (is_right k w).room)));
      named = (keyed.residents r l).right;
    }

    own_is : (o : Option ℕ) → own ≡ o → option_map (number_in (map (programme_name d) (my r))) (option_map (programme_name d) o) ≡ option_map Some (own_place (my r) o)
    own_is None e = refl
    own_is (Some q) e =
        let on = own_listed q e in
        ap Some (numbered ps (programme_name d) market.programmes (my r) q (below_of ps (my r) (market.resident_lists r) q on) (market.resident_lists r).below on)

    own_stays : (o : Option ℕ) → own ≡ o → (name : List ℕ) → option_map (programme_name d) o ≡ Some name → gone ≡ false
    own_stays None e name k = cc k
    own_stays (Some q) e name k = stays d.instance written m market.instance market.made stable r q e

    right_resident : IsRightResident full_resident (own_place (my r) own)
    right_resident = record {
      own_is = own_is own refl;
      stays = own_stays own refl;
      reasons = λ k w. (
          let within : k < length (my r) = subst (λ n. k < n) (length-map (my r) (programme_name d)) w in
          ap (can_stand gone (stand_of (own_place (my r) own) k)) (answer_there d m market.names r (my r) h.reasons h.each (opened_at secret texts (Some results) (ps + r) (my_named r)) gone (option_map (programme_name d) own) k within)
          ∙ reason_stands gone (my r) own k (get_or h.reasons k Matched) (market.resident_lists r).different within own_listed (is_right k within));
    }

    resident_is_good : IsGoodReceipt (published secret Lists texts) (Some (published secret Outcome results)) (receipt_of secret (codes "R") (resident_name d r) texts (Some results) (ps + r))
    resident_is_good =
        let n = all_texts d draft market secret real in
        let few = few_texts d draft market secret real in
        let right = resident_right (published secret Lists texts) (Some (published secret Outcome results)) (opened_at secret texts (Some results) (ps + r) (my_named r)) (resident_name d r) (list_of_resident d draft r) gone
        (option_map (programme_name d) own) rows
        (opened_right secret texts (Some results) (ps + r) full_resident resident_at (omega (arith, n, l, few))) (market.residents.named r l) (my_list_right d draft market secret real r) (λ root e. (own_place (my r) own, right_resident)) in
        good_receipt secret texts (Some results) (ps + r) full_resident resident_at (omega (arith, n, l)) (few_texts d draft market secret real) (market.names.residents r)
        (clean_more 370177 3345000 _ (omega arith) (resident_lists_clean d market.names (opened_at secret texts (Some results) (ps + r) (my_named r)) r (my r) gone (option_map (programme_name d) own) rows (keyed.residents r l).clean (my_list_short d draft market secret real r)))
        (λ given e. clean_more 2320100 2321000 _ (omega arith) (resident_result_clean d market.names (opened_at secret texts (Some results) (ps + r) (my_named r)) m r (my r) h.reasons h.each gone own (my_list_short d draft market secret real r) (λ k w. (is_right k w).room)))
        tt right

  pub resident_good : (r : ℕ) → r < rs → IsGoodReceipt (published secret Lists texts) (Some (published secret Outcome results)) (receipt_of secret (codes "R") (resident_name d r) texts (Some results) (ps + r))
  resident_good r l =
      let there : slice_get are.residents r ≡ Some (get_or are.residents r []) = slice_get-get_or are.residents r [] (let b = are.are.each in omega (arith, b, l)) in
      resident_is_good r l (has_reasons r (get_or are.residents r []) (are.are.are r (get_or are.residents r []) there))
