-- The laws of receipts.
use Rattle.std.proofs.Common.{◌≡◌, ◌⊎◌, ℕ, zero, suc, ◌+◌, ◌-◌, ◌*◌, ◌<◌, ◌≤◌, ◌^◌, ◌&&◌, Bool, true, false, List, [], ◌∷◌, ◌++◌, length, map, get_or, Option, Some, None, refl, sym, ap, ◌∙◌, arith, subst, rules, inl, inr}
use Rattle.std.specs.Prelude.{Result, Ok, bytes_eq, fold, nat_le, if◌then◌else◌, option_map, slice_get, decimal}
use Rattle.std.specs.List.{All, list_all, range_with_len}
use Rattle.std.proofs.Math.Nat.{pow-le-pow_right, pow-suc}
use Rattle.std.proofs.lemmas.Bool.{and_parts}
use Rattle.std.proofs.lemmas.List.{ext_get_or, length-append}
use Rattle.std.proofs.lemmas.List.FromFn.{length-map-range_with_len}
use Rattle.std.proofs.lemmas.List.Elements.{All-cons, All-nil}
use Rattle.std.proofs.lemmas.Option.{slice_get-get_or}
use Rattle.sha2.proofs.Facts256.{length-sha256}
use Rattle.docket_names.specs.Words.{digits_worth, is_digit, is_number, number_of}
use Rattle.docket_names.proofs.WordFacts.{digit_within, length-is_number}
use Rattle.match_model.specs.Written.{Written, written_of}
use Rattle.match_model.specs.Instance.{list_at}
use Rattle.match_reasons.specs.declared.reason.Why.{Why}
use Rattle.match_reasons.specs.declared.reason.Why.TheVariants.{Matched}
use Rattle.match_reasons.specs.Reason.{IsFirst}
use Rattle.match_reasons.proofs.Firsts.{one_first}
use Rattle.audit_files.specs.Answer.{IsDocketIn}
use Rattle.docket.specs.Contents.{Contents}
use Rattle.docket.specs.Parts.{rows_of_all}
use Rattle.docket.specs.Texts.{resident_row}
use Rattle.match_model.specs.Draft.{Draft}
use Rattle.reasons_text.specs.Answers.{CaseParts, IsAnswer}
use Rattle.reasons_text.specs.Naming.{own_names}
use Rattle.reasons_text.specs.RealNames.{AreReal, Real}
use Rattle.reasons_text.specs.Table.{rows_on}
use Rattle.seal.specs.Hashes.{IsSalted, Leaf}
use Rattle.seal.specs.Tree.{leaf_hashes, root, seal, seal_hash}
use Rattle.seal_text.specs.Sealed.{leaves_from, published, receipts_text}
use Rattle.seal_text.specs.Secret.{secret_of}
use Rattle.seal_text.specs.Serving.{IsCaseIn, draft_in}
use Rattle.seal_text.specs.Texts.{AreResultTexts, IsResidentResult, lists_texts, programme_lists, programme_result, resident_lists}
use Rattle.seal_text.specs.declared.leaves.Section.{Section}
use Rattle.seal_text.specs.declared.leaves.Section.TheVariants.{Lists, Outcome}
use Rattle.seal_text.specs.declared.serve.Wanted.TheVariants.{Roots, Receipts}
use Rattle.seal_text.proofs.LeafFacts.{length-leaves_from}
use Rattle.receipt_check.specs.Rows.{Cells, plain_text, split_rows}
use Rattle.receipt_check.specs.Receipt.{Receipt, lists_text, read, result_text}
use Rattle.receipt_check.specs.Faults.{if_written, openings_at, openings_fault, opening_wrong, plain_number, receipt_fault, second_fault, value_fault}
use Rattle.receipt_check.proofs.CleanFacts.{first_none}
use Rattle.receipt_check.proofs.GoodFacts.{parts_none}
use Rattle.receipt_theorem.specs.Laws.{GoodReceiptsLaw, IsSealed, IsSealedText, OneSealingLaw, RootsLaw, Sealed, SealedReceiptLaw, ShowsSealed, WritesGoodReceipts, WritesRoots, lists_root, result_root}
use Rattle.receipt_theorem.proofs.After.{programme_good, resident_good, results_counted}
use Rattle.receipt_theorem.proofs.Joined.{sealed_text, text_in}
use Rattle.receipt_theorem.proofs.Market.{IsMarket, market}
use Rattle.receipt_theorem.proofs.Named.{name_rows_of, one_real, unmapped}
use Rattle.receipt_theorem.proofs.Sealing.{early_programme_good, early_resident_good, few_texts}

-- What is sealed.

abbrev sealed_of : List ℕ → Contents → Real → List (List ℕ) → Option (List (List ℕ)) → Sealed
sealed_of secret d real lists results = record { secret = secret; docket = d; real = real; lists = lists; results = results }

pub roots : RootsLaw
roots docket None key secret_text text h =
    let t = h.text_is in
    record {
      s = sealed_of h.secret t.d t.real (lists_texts t.d (draft_in docket []) t.real) None;
      is_sealed = record { is_secret = h.is_secret; are_real = t.are_real; texts = record { read = t.read; lists_are = refl; results_are = refl } };
      text_is = t.text_is;
    }
roots docket (Some sheet) key secret_text text h =
    let t = h.text_is in
    record {
      s = sealed_of h.secret t.c.docket t.made.real (lists_texts t.c.docket (draft_in docket sheet) t.made.real) (Some t.made.results);
      is_sealed = record {
        is_secret = h.is_secret;
        are_real = t.made.are_real;
        texts = record { c = t.c; read = t.read; docket_is = refl; lists_are = refl; results = t.made.results; are_results = t.made.are_results; results_are = refl };
      };
      text_is = t.made.text_is;
    }

-- Receipts that are written.

pub market_of : (docket : List ℕ) (d : Contents) → IsDocketIn docket [] [] d → IsMarket d (draft_in docket [])
market_of docket d read = subst (λ (d : Contents). IsMarket d (draft_in docket [])) (sym read.docket_is) (market (rows_of_all docket [] []) read.sound)

pub market_of_case : (docket sheet : List ℕ) (c : CaseParts) → IsCaseIn docket sheet c → IsMarket c.docket (draft_in docket sheet)
market_of_case docket sheet c read =
    let files = read.read.docket_is in
    subst (λ (d : Contents). IsMarket d (draft_in docket sheet)) (sym files.docket_is) (market (rows_of_all docket sheet []) files.sound)

pub good_receipts : GoodReceiptsLaw
good_receipts docket None key secret_text text h =
    let t = h.text_is in
    let m = market_of docket t.d t.read in
    let keyed = name_rows_of t.d key t.real t.are_real in
    record {
      s = sealed_of h.secret t.d t.real (lists_texts t.d (draft_in docket []) t.real) None;
      is_sealed = record { is_secret = h.is_secret; are_real = t.are_real; texts = record { read = t.read; lists_are = refl; results_are = refl } };
      text_is = t.text_is;
      programmes = early_programme_good t.d (draft_in docket []) m h.secret t.real keyed;
      residents = early_resident_good t.d (draft_in docket []) m h.secret t.real keyed;
    }
good_receipts docket (Some sheet) key secret_text text h =
    let t = h.text_is in
    let w = t.made in
    let m = market_of_case docket sheet t.c t.read in
    let keyed = name_rows_of t.c.docket key w.real w.are_real in
    record {
      s = sealed_of h.secret t.c.docket w.real (lists_texts t.c.docket (draft_in docket sheet) w.real) (Some w.results);
      is_sealed = record {
        is_secret = h.is_secret;
        are_real = w.are_real;
        texts = record { c = t.c; read = t.read; docket_is = refl; lists_are = refl; results = w.results; are_results = w.are_results; results_are = refl };
      };
      text_is = w.text_is;
      programmes = programme_good t.c (draft_in docket sheet) m h.secret w.real keyed t.read.read.written_is (w.stable refl) w.results w.are_results;
      residents = resident_good t.c (draft_in docket sheet) m h.secret w.real keyed t.read.read.written_is (w.stable refl) w.results w.are_results;
    }

-- Receipts that pass the check.

worth_below : (digits : List ℕ) (acc i : ℕ) → acc < 10 ^ i → list_all is_digit digits ≡ true → fold (λ worth c. worth * 10 + (c - 48)) acc digits < 10 ^ (i + length digits)
worth_below [] acc i l h = let none : i + 0 ≡ i = omega arith in rw none l
worth_below (c ∷ rest) acc i l h =
    let parts = and_parts (is_digit c) (list_all is_digit rest) h in
    let digit = digit_within c parts.0 in
    let ten : 10 ^ suc i ≡ 10 ^ i * 10 = pow-suc 10 i in
    let more : suc i + length rest ≡ i + suc (length rest) = omega arith in
    subst (λ n. fold (λ worth c. worth * 10 + (c - 48)) (acc * 10 + (c - 48)) rest < 10 ^ n) more (worth_below rest (acc * 10 + (c - 48)) (suc i) (omega (arith, l, digit.0, digit.1, ten)) parts.1)

-- a number that a receipt tells is below 2 ^ 64
pub number_small : (digits : List ℕ) (n : ℕ) → plain_number digits ≡ Some n → n < 2 ^ 64
unfolding plain_number number_of is_number
number_small digits n h = by (is_number digits) refl h
  where
    few : (m : ℕ) → m ≤ 9 → 10 ^ m ≤ 10 ^ 9
    few m l = pow-le-pow_right {n = 10} (omega arith) {i = m} {j = 9} l

    by : (b : Bool) → is_number digits ≡ b → if_written digits (if b then Some (digits_worth digits) else None) ≡ Some n → n < 2 ^ 64
    by false e k = cc k
    by true e k = by_written (bytes_eq digits (decimal (digits_worth digits))) k
      where
        short : length digits ≤ 9
        short = length-is_number digits e

        small : digits_worth digits < 10 ^ (0 + length digits)
        small = worth_below digits 0 0 (omega arith) (and_parts (nat_le 1 (length digits) && nat_le (length digits) 9) (list_all is_digit digits) e).1

        by_written : (t : Bool) → (if t then Some (digits_worth digits) else None) ≡ Some n → n < 2 ^ 64
        by_written true q = (
            let same : digits_worth digits ≡ n = cc q in
            let most = few (0 + length digits) (omega (arith, short)) in
            omega (arith, same, small, most))
        by_written false q = cc q

-- openings without a fault have a count and a place, and open the published roots with the texts of
-- the receipt
pub record HasOpenings (lists_top : List ℕ) (result_top : Option (List ℕ)) (r : Receipt) : Type 0 where
  pub count : ℕ
  pub index : ℕ
  pub count_is : plain_number r.count ≡ Some count
  pub index_is : plain_number r.index ≡ Some index
  pub lists : opening_wrong lists_top count index r.opening (lists_text r) ≡ None
  pub result : (root : List ℕ) → result_top ≡ Some root → opening_wrong root count index r.second (result_text r) ≡ None

second_right : (top : Option (List ℕ)) (count index : ℕ) (r : Receipt) → second_fault top count index r ≡ None → (root : List ℕ) → top ≡ Some root → opening_wrong root count index r.second (result_text r) ≡ None
second_right None count index r h root e = cc e
second_right (Some given) count index r h root e =
    let same : given ≡ root = cc e in
    ap (λ (t : List ℕ). opening_wrong t count index r.second (result_text r)) (sym same) ∙ unmapped _ (opening_wrong given count index r.second (result_text r)) h

openings_shown : (lists_top : List ℕ) (result_top : Option (List ℕ)) (r : Receipt) → openings_fault lists_top result_top r ≡ None → HasOpenings lists_top result_top r
unfolding openings_fault
openings_shown lists_top result_top r h = by (plain_number r.count) (plain_number r.index) refl refl h
  where
    by : (count index : Option ℕ) → plain_number r.count ≡ count → plain_number r.index ≡ index → openings_at lists_top result_top r count index ≡ None → HasOpenings lists_top result_top r
    by None index c i k = cc k
    by (Some count) None c i k = cc k
    by (Some count) (Some index) c i k =
        let parts = first_none _ _ k in
        record { count = count; index = index; count_is = c; index_is = i; lists = unmapped _ (opening_wrong lists_top count index r.opening (lists_text r)) parts.0; result = second_right result_top count index r parts.1 }

pub passed : (lists_top : List ℕ) (result_top : Option (List ℕ)) (bytes : List ℕ) → receipt_fault lists_top result_top bytes ≡ None → HasOpenings lists_top result_top (read (split_rows (plain_text bytes)))
unfolding value_fault
passed lists_top result_top bytes h =
    openings_shown lists_top result_top (read (split_rows (plain_text bytes)))
    (first_none (openings_fault lists_top result_top (read (split_rows (plain_text bytes)))) _ (parts_none lists_top result_top bytes h).2).0

-- Leaves and texts.

salted : (secret : List ℕ) (section : Section) (i : ℕ) (texts : List (List ℕ)) → All IsSalted (leaves_from secret section i texts)
unfolding leaves_from
salted secret section i [] = All-nil IsSalted
salted secret section i (text ∷ texts) = All-cons IsSalted _ _ (length-sha256 _) (salted secret section (i + 1) texts)

texts_back : (secret : List ℕ) (section : Section) (i : ℕ) (texts : List (List ℕ)) → map text_in (leaves_from secret section i texts) ≡ texts
unfolding leaves_from
texts_back secret section i [] = refl
texts_back secret section i (text ∷ texts) = ap (λ (rest : List (List ℕ)). text ∷ rest) (texts_back secret section (i + 1) texts)

pub shows_text : (secret : List ℕ) (section : Section) (texts : List (List ℕ)) (count index : ℕ) (fields : Cells) (text : List ℕ) → length texts < 2 ^ 64 → count < 2 ^ 64
    → opening_wrong (published secret section texts) count index fields text ≡ None → IsSealedText secret section texts count index fields text
shows_text secret section texts count index fields text few small h =
    let leaves = leaves_from secret section 0 texts in
    let many = length-leaves_from secret section 0 texts in
    let wrong : opening_wrong (seal (leaves_from secret section 0 texts)) count index fields text ≡ None =
    ap (λ n. opening_wrong (seal_hash n (root (leaf_hashes (leaves_from secret section 0 texts)))) count index fields text) many ∙ h in
    elim (sealed_text (leaves_from secret section 0 texts) count index fields text (salted secret section 0 texts) (omega (arith, many, few)) small wrong) [
      | inl found ↦ inl (found.count_is ∙ many, ap (λ (t : List (List ℕ)). slice_get t index) (sym (texts_back secret section 0 texts)) ∙ found.text_is)
      | inr collide ↦ inr collide
    ]

-- a docket without a fault has fewer than 2 ^ 64 members
few_of : (d : Contents) (draft : Draft) (real : Real) → IsMarket d draft → length (lists_texts d draft real) < 2 ^ 64
few_of d draft real m =
    let all = length-append (map (programme_lists d draft real) (range_with_len 0 (length d.instance.quotas))) (map (resident_lists d draft real) (range_with_len 0 (length d.instance.resident_lists))) in
    let a = length-map-range_with_len (programme_lists d draft real) 0 (length d.instance.quotas) in
    let b = length-map-range_with_len (resident_lists d draft real) 0 (length d.instance.resident_lists) in
    let few = m.few_programmes in
    let more = m.few_residents in
    omega (arith, all, a, b, few, more)

pub few_sealed : (docket : List ℕ) (sheet key : Option (List ℕ)) (secret_text : List ℕ) (s : Sealed) → IsSealed docket sheet key secret_text s
    → (length s.lists < 2 ^ 64) × ((texts : List (List ℕ)) → s.results ≡ Some texts → length texts < 2 ^ 64)
few_sealed docket None key secret_text s h =
    let t = h.texts in (
      subst (λ (l : List (List ℕ)). length l < 2 ^ 64) (sym t.lists_are) (few_of s.docket (draft_in docket []) s.real (market_of docket s.docket t.read)),
      λ texts e. (let none : None ≡ Some texts = sym t.results_are ∙ e in cc none),
    )
few_sealed docket (Some sheet) key secret_text s h =
    let t = h.texts in
    let m = market_of_case docket sheet t.c t.read in (
      subst (λ (l : List (List ℕ)). length l < 2 ^ 64) (sym t.lists_are) (few_of t.c.docket (draft_in docket sheet) s.real m),
      λ texts e. (
          let same : Some t.results ≡ Some texts = sym t.results_are ∙ e in
          let it : t.results ≡ texts = cc same in
          let counted = results_counted t.c (draft_in docket sheet) m s.secret s.real t.results t.are_results in
          let few = few_texts t.c.docket (draft_in docket sheet) m s.secret s.real in
          subst (λ (l : List (List ℕ)). length l < 2 ^ 64) it (omega (arith, counted, few))),
    )

-- a receipt that passes the check under the published roots has the texts that were sealed, or
-- hashed bytes collide
pub sealed_receipt : SealedReceiptLaw
sealed_receipt docket sheet key secret_text s bytes sealed h =
    let r = read (split_rows (plain_text bytes)) in
    let o = passed (lists_root s) (result_root s) bytes h in
    let small = number_small (read (split_rows (plain_text bytes))).count o.count o.count_is in
    let few = few_sealed docket sheet key secret_text s sealed in
    record {
      count = o.count;
      index = o.index;
      count_is = o.count_is;
      index_is = o.index_is;
      lists = shows_text s.secret Lists s.lists o.count o.index (read (split_rows (plain_text bytes))).opening (lists_text (read (split_rows (plain_text bytes)))) few.0 small o.lists;
      result = λ texts e.
          shows_text s.secret Outcome texts o.count o.index (read (split_rows (plain_text bytes))).second (result_text (read (split_rows (plain_text bytes)))) (few.1 texts e) small
          (o.result (published s.secret Outcome texts) (ap (option_map (published s.secret Outcome)) e));
    }

-- Of some files only one thing is sealed.

module _ (c c' : CaseParts) (docket_is : c'.docket ≡ c.docket) (sheet_is : c'.sheet ≡ c.sheet) (written_is : c'.written ≡ c.written) where
  moved : (r p : ℕ) (why : Why) → IsAnswer c' r p why → IsAnswer c r p why
  moved r p why h =
      subst (λ (d : Contents). IsFirst d.instance (list_at c.written.resident_lists r) (list_at c.written.programme_lists p) c.sheet r p why) docket_is
      (subst (λ (m : List (Option ℕ)). IsFirst c'.docket.instance (list_at c.written.resident_lists r) (list_at c.written.programme_lists p) m r p why) sheet_is
      (subst (λ (w : Written). IsFirst c'.docket.instance (list_at w.resident_lists r) (list_at w.programme_lists p) c'.sheet r p why) written_is h))

  resident_one : (r : ℕ) (text text' : List ℕ) → IsResidentResult c r text → IsResidentResult c' r text' → text ≡ text'
  resident_one r text text' h h' =
      let told = h.rows.told in
      let told' = h'.rows.told in
      let listed : h'.rows.told.programmes ≡ h.rows.told.programmes = told'.first.listed ∙ ap (λ (w : Written). list_at w.resident_lists r) written_is ∙ sym told.first.listed in
      let many : length h.rows.told.reasons ≡ length h'.rows.told.reasons = told.first.each ∙ sym (told'.first.each ∙ ap length listed) in
      let same : h.rows.told.reasons ≡ h'.rows.told.reasons = ext_get_or Matched h.rows.told.reasons h'.rows.told.reasons many (λ k l. (
      let p = get_or h.rows.told.programmes k 0 in
      let within : k < length h.rows.told.programmes = (let n = h.rows.told.first.each in omega (arith, n, l)) in
      let there : slice_get h.rows.told.programmes k ≡ Some (get_or h.rows.told.programmes k 0) = slice_get-get_or h.rows.told.programmes k 0 within in
      let there' : slice_get h'.rows.told.programmes k ≡ Some (get_or h.rows.told.programmes k 0) = ap (λ (xs : List ℕ). slice_get xs k) listed ∙ there in
      one_first c.docket.instance (list_at c.written.resident_lists r) (list_at c.written.programme_lists (get_or h.rows.told.programmes k 0)) c.sheet r (get_or h.rows.told.programmes k 0)
      (get_or h.rows.told.reasons k Matched) (get_or h'.rows.told.reasons k Matched)
      (h.rows.told.first.first k (get_or h.rows.told.programmes k 0) (get_or h.rows.told.reasons k Matched) there (slice_get-get_or h.rows.told.reasons k Matched l))
      (moved r (get_or h.rows.told.programmes k 0) (get_or h'.rows.told.reasons k Matched)
      (h'.rows.told.first.first k (get_or h.rows.told.programmes k 0) (get_or h'.rows.told.reasons k Matched) there' (slice_get-get_or h'.rows.told.reasons k Matched (omega (arith, many, l))))))) in
      h.text_is ∙ ap (λ (t : List ℕ). resident_row c.docket c.sheet r ++ t) h.rows.text_is
      ∙ ap (λ (reasons : List Why). resident_row c.docket c.sheet r ++ rows_on (own_names c.docket) false r h.rows.told.programmes reasons) same
      ∙ ap (λ (xs : List ℕ). resident_row c.docket c.sheet r ++ rows_on (own_names c.docket) false r xs h'.rows.told.reasons) (sym listed)
      ∙ ap (λ (d : Contents). resident_row d c.sheet r ++ rows_on (own_names d) false r h'.rows.told.programmes h'.rows.told.reasons) (sym docket_is)
      ∙ ap (λ (m : List (Option ℕ)). resident_row c'.docket m r ++ rows_on (own_names c'.docket) false r h'.rows.told.programmes h'.rows.told.reasons) (sym sheet_is)
      ∙ sym (h'.text_is ∙ ap (λ (t : List ℕ). resident_row c'.docket c'.sheet r ++ t) h'.rows.text_is)

  results_one : (texts texts' : List (List ℕ)) → AreResultTexts c texts → AreResultTexts c' texts' → texts ≡ texts'
  results_one texts texts' h h' =
      let many : length h.residents ≡ length h'.residents = h.are.each ∙ sym (h'.are.each ∙ ap (λ (d : Contents). length d.instance.resident_lists) docket_is) in
      let same : h.residents ≡ h'.residents = ext_get_or [] h.residents h'.residents many (λ r l.
      resident_one r (get_or h.residents r []) (get_or h'.residents r [])
      (h.are.are r (get_or h.residents r []) (slice_get-get_or h.residents r [] l)) (h'.are.are r (get_or h'.residents r []) (slice_get-get_or h'.residents r [] (omega (arith, many, l))))) in
      h.texts_are
      ∙ ap (λ (rest : List (List ℕ)). map (programme_result c.docket c.sheet) (range_with_len 0 (length c.docket.instance.quotas)) ++ rest) same
      ∙ ap (λ (d : Contents). map (programme_result d c.sheet) (range_with_len 0 (length d.instance.quotas)) ++ h'.residents) (sym docket_is)
      ∙ ap (λ (m : List (Option ℕ)). map (programme_result c'.docket m) (range_with_len 0 (length c'.docket.instance.quotas)) ++ h'.residents) (sym sheet_is)
      ∙ sym h'.texts_are

one_secret : {X : Type 0} (a b : List ℕ) (r : Result (List ℕ) X) → r ≡ Ok a → r ≡ Ok b → a ≡ b
one_secret a b r h k = let same : Ok a ≡ Ok b = sym h ∙ k in cc same

made : (s s' : Sealed) → s.secret ≡ s'.secret → s.docket ≡ s'.docket → s.real ≡ s'.real → s.lists ≡ s'.lists → s.results ≡ s'.results → s ≡ s'
made s s' a b r c d =
    ap (λ (x : List ℕ). record { secret = x; docket = s.docket; real = s.real; lists = s.lists; results = s.results }) a
    ∙ ap (λ (x : Contents). record { secret = s'.secret; docket = x; real = s.real; lists = s.lists; results = s.results }) b
    ∙ ap (λ (x : Real). record { secret = s'.secret; docket = s'.docket; real = x; lists = s.lists; results = s.results }) r
    ∙ ap (λ (x : List (List ℕ)). record { secret = s'.secret; docket = s'.docket; real = s'.real; lists = x; results = s.results }) c
    ∙ ap (λ (x : Option (List (List ℕ))). record { secret = s'.secret; docket = s'.docket; real = s'.real; lists = s'.lists; results = x }) d

pub one_sealing : OneSealingLaw
one_sealing docket None key secret_text s s' h h' =
    let t = h.texts in
    let t' = h'.texts in
    let d : s.docket ≡ s'.docket = t.read.docket_is ∙ sym t'.read.docket_is in
    let r : s.real ≡ s'.real = one_real s'.docket key s.real s'.real (subst (λ (x : Contents). AreReal x key s.real) d h.are_real) h'.are_real in
    made s s' (one_secret s.secret s'.secret (secret_of secret_text) h.is_secret h'.is_secret) d r
    (t.lists_are ∙ ap (λ (x : Contents). lists_texts x (draft_in docket []) s.real) d ∙ ap (λ (x : Real). lists_texts s'.docket (draft_in docket []) x) r ∙ sym t'.lists_are) (t.results_are ∙ sym t'.results_are)
one_sealing docket (Some sheet) key secret_text s s' h h' =
    let t = h.texts in
    let t' = h'.texts in
    let d : t'.c.docket ≡ t.c.docket = t'.read.read.docket_is.docket_is ∙ sym t.read.read.docket_is.docket_is in
    let both : Some t'.c.sheet ≡ Some t.c.sheet = sym t'.read.has_sheet ∙ ap (λ (x : Contents). x.sheet) d ∙ t.read.has_sheet in
    let m : t'.c.sheet ≡ t.c.sheet = cc both in
    let w : t'.c.written ≡ t.c.written = t'.read.read.written_is ∙ sym t.read.read.written_is in
    let whole : s.docket ≡ s'.docket = t.docket_is ∙ sym d ∙ sym t'.docket_is in
    let r : s.real ≡ s'.real = one_real s'.docket key s.real s'.real (subst (λ (x : Contents). AreReal x key s.real) whole h.are_real) h'.are_real in
    made s s' (one_secret s.secret s'.secret (secret_of secret_text) h.is_secret h'.is_secret) whole r
    (t.lists_are ∙ ap (λ (x : Contents). lists_texts x (draft_in docket sheet) s.real) (sym d) ∙ ap (λ (x : Real). lists_texts t'.c.docket (draft_in docket sheet) x) r ∙ sym t'.lists_are)
    (t.results_are ∙ ap (λ (x : List (List ℕ)). Some x) (results_one t.c t'.c d m w t.results t'.results t.are_results t'.are_results) ∙ sym t'.results_are)
