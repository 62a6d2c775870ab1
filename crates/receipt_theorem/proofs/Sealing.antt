-- Each receipt of a docket, without a sheet or with a stable one, is good.
use Rattle.std.proofs.Common.{◌≡◌, ℕ, zero, suc, ◌+◌, ◌<◌, ◌≤◌, Bool, true, false, List, [], ◌∷◌, ◌++◌, length, map, get_or, Option, Some, None, option_map, is_some, refl, sym, ap, ◌∙◌, arith, subst, inl, inr}
use Rattle.std.specs.Prelude.{codes, slice_get, slice_index_or, unwrap_or}
use Rattle.std.specs.List.{All, range_with_len}
use Rattle.std.proofs.lemmas.Bool.{cases_lt}
use Rattle.std.proofs.lemmas.List.{get_or_append_left, get_or-append-add, get_or-map, get_or_past, length-append, length-map}
use Rattle.std.proofs.lemmas.List.Elements.{All-nil}
use Rattle.std.proofs.lemmas.List.FromFn.{get_or-map-range_with_len, length-map-range_with_len}
use Rattle.std.proofs.lemmas.Option.{slice_get-get_or}
use Rattle.match_model.specs.Draft.{Draft, given_lists}
use Rattle.match_model.specs.Instance.{is_withdrawn, list_at, quota}
use Rattle.reasons_text.specs.RealNames.{Real}
use Rattle.match_model.specs.Ranking.{IsListed}
use Rattle.docket.specs.Contents.{Contents}
use Rattle.docket.specs.Texts.{programme_name, resident_name}
use Rattle.seal_text.specs.Texts.{list_of_programme, list_of_resident, lists_texts, programme_lists, resident_lists}
use Rattle.seal_text.specs.declared.leaves.Section.TheVariants.{Lists, Outcome}
use Rattle.receipt_check.specs.Rows.{Cells}
use Rattle.receipt_check.specs.Receipt.{Receipt, letter_of, lists_text, result_text}
use Rattle.receipt_check.specs.Faults.{value_fault, wrong_name}
use Rattle.receipt_check.specs.Good.{IsGoodReceipt, ListIsShown}
use Rattle.receipt_check.specs.declared.kind.Kind.TheVariants.{Programme, Resident}
use Rattle.seal_text.specs.Sealed.{published, receipt_of}
use Rattle.receipt_theorem.proofs.Bodies.{IsAt, opened_at, opened_right, second_at}
use Rattle.receipt_theorem.proofs.Clean.{IsClean, clean_more, clean_none}
use Rattle.receipt_theorem.proofs.Leaves.{programme_lists_are, resident_lists_are}
use Rattle.receipt_theorem.proofs.Market.{IsMarket, IsWrittenList}
use Rattle.receipt_theorem.proofs.Named.{AreNameRows, named_cells}
use Rattle.receipt_theorem.proofs.Members.{programme_lists_clean, programme_result_clean, resident_lists_clean, resident_result_clean}
use Rattle.receipt_theorem.proofs.Places.{names_right}
use Rattle.receipt_theorem.proofs.Right.{list_short}
use Rattle.receipt_theorem.proofs.Values.{IsRightProgramme, Opened, programme_content, programme_right, resident_content, resident_right}
use Rattle.receipt_theorem.proofs.Whole.{good_receipt}

-- Texts of both sides.

pub first_side : (f : ℕ → List ℕ) (n p : ℕ) (rest : List (List ℕ)) → p < n → slice_get (map f (range_with_len 0 n) ++ rest) p ≡ Some (f p)
first_side f n p rest l =
    let size = length-map-range_with_len f 0 n in
    let whole = length-append (map f (range_with_len 0 n)) rest in
    let within : p < length (map f (range_with_len 0 n)) = omega (arith, size, l) in
    slice_get-get_or (map f (range_with_len 0 n) ++ rest) p [] (omega (arith, size, whole, l))
    ∙ ap Some (get_or_append_left (map f (range_with_len 0 n)) rest [] p within ∙ get_or-map-range_with_len f 0 n p p [] l (let z : 0 + p ≡ p = omega arith in z))

pub second_side : (xs ys : List (List ℕ)) (n r : ℕ) → length xs ≡ n → r < length ys → slice_get (xs ++ ys) (n + r) ≡ Some (get_or ys r [])
second_side xs ys n r e l =
    let whole = length-append xs ys in
    slice_get-get_or (xs ++ ys) (n + r) [] (omega (arith, whole, e, l))
    ∙ ap Some (ap (λ k. get_or (xs ++ ys) (k + r) []) (sym e) ∙ get_or-append-add xs ys r [])

-- the written list at a place is the list that was given there, or an empty list if none was given
given_at : (lists : List (Option (List ℕ))) (p : ℕ) → list_at (given_lists lists) p ≡ unwrap_or (slice_index_or lists p None) []
given_at lists p = elim (cases_lt p (length lists)) [
  | inl l ↦ get_or-map (λ list. unwrap_or list []) lists p None [] l
  | inr past ↦
      let many = length-map lists (λ (list : Option (List ℕ)). unwrap_or list []) in
      get_or_past (given_lists lists) p [] (omega (arith, many, past)) ∙ sym (ap (λ (o : Option (List ℕ)). unwrap_or o []) (get_or_past lists p None past))
]

named_list : (f : ℕ → List ℕ) (list : Option (List ℕ)) → unwrap_or (option_map (map f) list) [] ≡ map f (unwrap_or list [])
named_list f None = refl
named_list f (Some xs) = refl

module _ (d : Contents) (draft : Draft) (market : IsMarket d draft) (secret : List ℕ) (real : Real) where
  abbrev pub lists : List (List ℕ)
  lists = lists_texts d draft real

  abbrev pub programmes : ℕ
  programmes = length d.instance.quotas

  abbrev pub residents : ℕ
  residents = length d.instance.resident_lists

  pub all_texts : length lists ≡ programmes + residents
  all_texts =
      length-append (map (programme_lists d draft real) (range_with_len 0 programmes)) (map (resident_lists d draft real) (range_with_len 0 residents))
      ∙ (let a = length-map-range_with_len (programme_lists d draft real) 0 programmes in let b = length-map-range_with_len (resident_lists d draft real) 0 residents in omega (arith, a, b))

  pub few_texts : length lists ≤ 110000
  few_texts = let a = market.few_programmes in let b = market.few_residents in let n = all_texts in omega (arith, a, b, n)

  pub programme_there : (p : ℕ) → p < programmes → slice_get lists p ≡ Some (programme_lists d draft real p)
  programme_there p l = first_side (programme_lists d draft real) programmes p (map (resident_lists d draft real) (range_with_len 0 residents)) l

  pub resident_there : (r : ℕ) → r < residents → slice_get lists (programmes + r) ≡ Some (resident_lists d draft real r)
  resident_there r l =
      second_side (map (programme_lists d draft real) (range_with_len 0 programmes)) (map (resident_lists d draft real) (range_with_len 0 residents)) programmes r
      (length-map-range_with_len (programme_lists d draft real) 0 programmes) (let n = length-map-range_with_len (resident_lists d draft real) 0 residents in omega (arith, n, l))
      ∙ ap Some (get_or-map-range_with_len (resident_lists d draft real) 0 residents r r [] l (let z : 0 + r ≡ r = omega arith in z))

  -- the pieces between commas in the row of a resident's real name
  abbrev pub their_row : ℕ → Cells
  their_row p = named_cells (slice_index_or real.programmes p None)

  abbrev pub my_row : ℕ → Cells
  my_row r = named_cells (slice_index_or real.residents r None)

  -- Lists.

  abbrev pub theirs : ℕ → List ℕ
  theirs p = list_at (given_lists draft.programme_lists) p

  abbrev pub mine : ℕ → List ℕ
  mine r = list_at (given_lists draft.resident_lists) r

  pub their_names : (p : ℕ) → unwrap_or (list_of_programme d draft p) [] ≡ map (resident_name d) (theirs p)
  their_names p = named_list (resident_name d) (slice_index_or draft.programme_lists p None) ∙ ap (map (resident_name d)) (sym (given_at draft.programme_lists p))

  pub their_list_right : (p : ℕ) → wrong_name None (unwrap_or (list_of_programme d draft p) []) ≡ None
  their_list_right p =
      ap (wrong_name None) (their_names p)
      ∙ names_right residents (resident_name d) market.residents None (theirs p) (market.programme_lists p).below (market.programme_lists p).different (λ x l. refl)

  pub my_list_right : (r : ℕ) → wrong_name None (list_of_resident d draft r) ≡ None
  my_list_right r = names_right programmes (programme_name d) market.programmes None (mine r) (market.resident_lists r).below (market.resident_lists r).different (λ x l. refl)

  pub their_list_short : (p : ℕ) (xs : List ℕ) → slice_index_or draft.programme_lists p None ≡ Some xs → length xs ≤ 100000
  their_list_short p xs e =
      let same : theirs p ≡ xs = given_at draft.programme_lists p ∙ ap (λ (o : Option (List ℕ)). unwrap_or o []) e in
      let short = list_short residents (theirs p) (market.programme_lists p) in
      let few = market.few_residents in
      let size : length (theirs p) ≡ length xs = ap length same in
      omega (arith, short, few, size)

  pub my_list_short : (r : ℕ) → length (mine r) ≤ 10000
  my_list_short r = let short = list_short programmes (mine r) (market.resident_lists r) in let few = market.few_programmes in omega (arith, short, few)

  pub list_shown : (list : Option (List ℕ)) → ListIsShown Programme (is_some (option_map (map (resident_name d)) list)) (unwrap_or (option_map (map (resident_name d)) list) [])
  list_shown None = refl
  list_shown (Some xs) = tt

  nobody_on : (list : Cells) → wrong_name (Some list) [] ≡ None
  unfolding wrong_name
  nobody_on list = refl

  pub small_quota : (p : ℕ) → quota d.instance p < 1000000000
  small_quota p = let few = market.few_places p in omega (arith, few)

  -- Before a match.

  module _ (keyed : AreNameRows d real) where
    abbrev pub early_programme : ℕ → Receipt
    early_programme p = programme_content (opened_at secret lists None p (their_row p)) (programme_name d p) (quota d.instance p) (list_of_programme d draft p) (is_withdrawn d.instance.programmes_withdrawn p) []

    abbrev pub early_resident : ℕ → Receipt
    early_resident r = resident_content (opened_at secret lists None (programmes + r) (my_row r)) (resident_name d r) (list_of_resident d draft r) (is_withdrawn d.instance.residents_withdrawn r) None []

    pub early_programme_at : (p : ℕ) → p < programmes → IsAt secret lists None p (early_programme p)
    early_programme_at p l = record {
      count_is = refl;
      index_is = refl;
      opening_is = refl;
      second_is = refl;
      few = (let few = few_texts in omega (arith, few));
      listed = programme_there p l ∙ ap Some (programme_lists_are d draft market.names (opened_at secret lists None p (their_row p)) real p [] (keyed.programmes p l).text_is (small_quota p));
      each = λ texts e. cc e;
      placed = λ texts e. cc e;
      named = (keyed.programmes p l).right;
    }

    pub early_resident_at : (r : ℕ) → r < residents → IsAt secret lists None (programmes + r) (early_resident r)
    early_resident_at r l = record {
      count_is = refl;
      index_is = refl;
      opening_is = refl;
      second_is = refl;
      few = (let few = few_texts in omega (arith, few));
      listed = resident_there r l ∙ ap Some (resident_lists_are d draft market.names (opened_at secret lists None (programmes + r) (my_row r)) real r None [] (keyed.residents r l).text_is);
      each = λ texts e. cc e;
      placed = λ texts e. cc e;
      named = (keyed.residents r l).right;
    }

    pub early_programme_good : (p : ℕ) → p < programmes → IsGoodReceipt (published secret Lists lists) None (receipt_of secret (codes "P") (programme_name d p) lists None p)
    early_programme_good p l =
        let at = early_programme_at p l in
        let n = all_texts in
        let few = few_texts in
        let right = programme_right (published secret Lists lists) None (opened_at secret lists None p (their_row p)) (programme_name d p) (quota d.instance p) (list_of_programme d draft p) (is_withdrawn d.instance.programmes_withdrawn p) []
        (opened_right secret lists None p (early_programme p) at (omega (arith, n, l, few)))
        (record { named = market.programmes.named p l; places = small_quota p; listed = their_list_right p; fits = omega arith; nobody = λ e. refl; on_list = nobody_on (unwrap_or (list_of_programme d draft p) []) }) in
        good_receipt secret lists None p (early_programme p) at (omega (arith, n, l)) few_texts (market.names.programmes p)
        (clean_more 3340277 3345000 _ (omega arith) (programme_lists_clean d market.names (opened_at secret lists None p (their_row p)) p (quota d.instance p) (small_quota p) [] (keyed.programmes p l).clean (slice_index_or draft.programme_lists p None) (is_withdrawn d.instance.programmes_withdrawn p) (their_list_short p)))
        (λ texts e. cc e)
        (list_shown (slice_index_or draft.programme_lists p None)) right

    pub early_resident_good : (r : ℕ) → r < residents → IsGoodReceipt (published secret Lists lists) None (receipt_of secret (codes "R") (resident_name d r) lists None (programmes + r))
    early_resident_good r l =
        let at = early_resident_at r l in
        let n = all_texts in
        let few = few_texts in
        let right = resident_right (published secret Lists lists) None (opened_at secret lists None (programmes + r) (my_row r)) (resident_name d r) (list_of_resident d draft r) (is_withdrawn d.instance.residents_withdrawn r) None []
        (opened_right secret lists None (programmes + r) (early_resident r) at (omega (arith, n, l, few))) (market.residents.named r l) (my_list_right r) (λ root e. cc e) in
        good_receipt secret lists None (programmes + r) (early_resident r) at (omega (arith, n, l)) few_texts (market.names.residents r)
        (clean_more 370177 3345000 _ (omega arith) (resident_lists_clean d market.names (opened_at secret lists None (programmes + r) (my_row r)) r (mine r) (is_withdrawn d.instance.residents_withdrawn r) None [] (keyed.residents r l).clean (my_list_short r)))
        (λ texts e. cc e) tt right
