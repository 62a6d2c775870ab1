-- If the receipts of all members are good and agree, the placement in the receipts is stable, or two lists of hashed
-- bytes collide.
use Rattle.std.proofs.Common.{◌≡◌, ◌⊎◌, ℕ, zero, suc, ◌+◌, ◌<◌, ◌≤◌, ◌^◌, ◌&&◌, Bool, true, false, List, [], length, map, nat_lt, Option, Some, None, is_some, refl, sym, ap, ◌∙◌, arith, subst, inl, inr}
use Rattle.std.specs.Prelude.{not, slice_get, slice_index_or}
use Rattle.std.proofs.lemmas.Bool.{cases_lt, ltb-false, not-false}
use Rattle.std.proofs.lemmas.List.{get_or_past, length-map}
use Rattle.std.proofs.lemmas.List.FromFn.{get_or-map-range_with_len, length-map-range_with_len}
use Rattle.std.proofs.lemmas.Option.{same_Some}
use Rattle.match_model.specs.Draft.{Draft, given_lists}
use Rattle.match_model.specs.Instance.{list_at, quota, rank}
use Rattle.match_model.specs.Placement.{programme_of}
use Rattle.match_model.specs.Ranking.{IsListed, place}
use Rattle.match_model.specs.Written.{written_of}
use Rattle.match_model.proofs.Rankings.{is_listed_from, is_listed_not}
use Rattle.settle_law.specs.Stable.{IsStable}
use Rattle.settle_law.proofs.Places.{HasNoRepeats-nil, IsListed-nil, listed_cases}
use Rattle.match_reasons.specs.Pairs.{Agree, CanStandFor, IsGoodProgramme, IsGoodResident, IsLastOfMembers, PairsLaw}
use Rattle.match_reasons.specs.declared.reason.Why.{Why}
use Rattle.match_reasons.specs.declared.reason.Why.TheVariants.{NotListed}
use Rattle.docket_names.specs.Texts.{is_declared, number_in}
use Rattle.docket.specs.Contents.{Contents}
use Rattle.docket.specs.Texts.{programme_name, resident_name}
use Rattle.seal_text.specs.Serving.{draft_in}
use Rattle.seal_text.specs.Texts.{lists_texts}
use Rattle.seal_text.specs.declared.leaves.Section.TheVariants.{Lists}
use Rattle.receipt_check.specs.Rows.{Cells, plain_text, split_rows, text_at}
use Rattle.receipt_check.specs.Receipt.{Receipt, answer, lists_text, members}
use Rattle.receipt_check.specs.Faults.{can_stand, lists_fault, openings_fault, plain_number, programme_fault, reason_at, reasons_fault, receipt_fault, resident_fault, result_fault_of, stand_of, value_fault, wrong_name, wrong_reason}
use Rattle.receipt_check.specs.Good.{ListIsShown}
use Rattle.receipt_check.specs.Pair.{compared_fault, content_of, difference, difference_at, has, is_number, last_within, members_fault}
use Rattle.receipt_check.specs.declared.difference.Difference.TheVariants as differs
use Rattle.receipt_check.specs.declared.kind.Kind.{Kind}
use Rattle.receipt_check.proofs.CleanFacts.{can_stand_of, first_none, map_none, none_at}
use Rattle.receipt_check.proofs.GoodFacts.{if_none, list_read, parts_none}
use Rattle.receipt_check.proofs.ListsFacts.{HasListsOf, same_lists}
use Rattle.receipt_theorem.specs.Laws.{AgreeingReceiptsLaw, AllAgree, AreReceiptsOf, IsSealed, IsSealedText, OneCollides, Sealed, lists_root, programme_named, told_placement}
use Rattle.receipt_theorem.proofs.Answered.{ArePair, answered, number_written}
use Rattle.receipt_theorem.proofs.Bodies.{IsAt}
use Rattle.receipt_theorem.proofs.Market.{IsMarket, IsWrittenList}
use Rattle.receipt_theorem.proofs.Named.{AreNameRows, name_rows_of}
use Rattle.receipt_theorem.proofs.Numbers.{read_back}
use Rattle.receipt_theorem.proofs.Places.{numbered}
use Rattle.receipt_theorem.proofs.Ranked.{AreOfNumbers, among, found, last_told, name_listed, number, number_rank, numbers_of}
use Rattle.receipt_theorem.proofs.Reasons.{own_place}
use Rattle.receipt_theorem.proofs.Right.{below_of}
use Rattle.receipt_theorem.proofs.Sealing.{all_texts, early_programme, early_programme_at, early_resident, early_resident_at, list_shown, my_list_right, small_quota, their_list_right, their_names}
use Rattle.receipt_theorem.proofs.Shown.{few_sealed, market_of, market_of_case, number_small, passed, shows_text}

-- What is sealed.

-- what was sealed comes from a draft and a docket without a fault
sealed_draft : (docket : List ℕ) (sheet key : Option (List ℕ)) (secret_text : List ℕ) (s : Sealed) → IsSealed docket sheet key secret_text s
    → (draft : Draft) × IsMarket s.docket draft × (s.lists ≡ lists_texts s.docket draft s.real)
sealed_draft docket None key secret_text s h = (draft_in docket [], market_of docket s.docket h.texts.read, h.texts.lists_are)
sealed_draft docket (Some sheet) key secret_text s h =
    let t = h.texts in
    let draft = draft_in docket sheet in (
      draft,
      subst (λ (d : Contents). IsMarket d draft) (sym t.docket_is) (market_of_case docket sheet t.c t.read),
      t.lists_are ∙ ap (λ (d : Contents). lists_texts d draft s.real) (sym t.docket_is),
    )

-- the receipt r of the member at place i has no fault in its lists or its result, and its opening opens the sealed
-- lists
record IsChecked (s : Sealed) (i : ℕ) (r : Receipt) : Type 0 where
  lists : lists_fault r ≡ None
  result : result_fault_of r.kind r ≡ None
  opens : IsSealedText s.secret Lists s.lists (length s.lists) i r.opening (lists_text r)

-- Residents.

-- a resident's own programme is on the resident's list, and each answer of the receipt is possible for its
-- choice
record IsPlaced (d : Contents) (mine : List ℕ) (a : Receipt) : Type 0 where
  listed : (q : ℕ) → programme_named d a.own ≡ Some q → IsListed mine q
  stands : (k : ℕ) → k < length mine → can_stand false (stand_of (own_place mine (programme_named d a.own)) k) (answer a k) ≡ true

module _ (d : Contents) (draft : Draft) (market : IsMarket d draft) (mine : List ℕ) (written : IsWrittenList (length d.instance.quotas) mine)
    (a : Receipt) (list_is : a.list ≡ map (programme_name d) mine) where
  abbrev count : ℕ
  count = length d.instance.quotas

  -- if a resident's reasons have no fault, each answer is possible for its choice, given which choice the
  -- resident's own programme is
  standing : (own : Option ℕ) → reasons_fault a own ≡ None → (k : ℕ) → k < length mine → can_stand a.gone (stand_of own k) (answer a k) ≡ true
  unfolding wrong_reason
  standing own h k l =
      let many : length a.list ≡ length mine = ap length list_is ∙ length-map mine (programme_name d) in
      let none = none_at (reason_at a own) (length a.list) k (map_none _ _ h) (omega (arith, many, l)) in
      can_stand_of a.gone (stand_of own k) (answer a k) (map_none _ _ none)

  -- in a resident's receipt without a fault, the resident's own programme is on the list, and each answer is possible
  -- for its choice
  placed_by : (own : Option (List ℕ)) → a.own ≡ own → resident_fault a own ≡ None → IsPlaced d mine a
  placed_by None e h =
      let own : programme_named d a.own ≡ None = ap (programme_named d) e in
      record {
        listed = λ q o. (let none : None ≡ Some q = sym own ∙ o in cc none);
        stands = λ k l.
            ap (λ (o : Option ℕ). can_stand false (stand_of (own_place mine o) k) (answer a k)) own
            ∙ stays a.gone k (answer a k) (standing None h k l);
      }
    where
      stays : (gone : Bool) (k : ℕ) (fields : Cells) → can_stand gone (stand_of None k) fields ≡ true
          → can_stand false (stand_of None k) fields ≡ true
      stays true k fields t = rw t refl
      stays false k fields t = t
  placed_by (Some name) e h =
      let x = if_none a.gone _ _ h in
      let y = if_none (not (is_some (number_in a.list name))) _ _ x.1 in
      let named : is_declared (map (programme_name d) mine) name ≡ true =
      ap (λ (list : Cells). is_declared list name) (sym list_is) ∙ not-false _ y.0 in
      let q = number count (programme_name d) market.programmes mine written name in
      let it = found count (programme_name d) market.programmes mine written name named in
      let small : q < count = below_of count mine written q it.0 in
      let at_place : number_in a.list name ≡ Some (place mine q) =
      ap (λ (list : Cells). number_in list name) list_is ∙ ap (number_in (map (programme_name d) mine)) (sym it.1)
      ∙ numbered count (programme_name d) market.programmes mine q small written.below it.0 in
      let own : programme_named d a.own ≡ Some q =
      ap (programme_named d) e ∙ ap (number_in d.programmes) (sym it.1) ∙ market.programme_numbers q small in
      record {
        listed = λ o f. subst (IsListed mine) (same_Some q o (sym own ∙ f)) it.0;
        stands = λ k l.
            ap (λ (o : Option ℕ). can_stand false (stand_of (own_place mine o) k) (answer a k)) own
            ∙ ap (λ (gone : Bool). can_stand gone (stand_of (Some (place mine q)) k) (answer a k)) (sym x.0)
            ∙ standing (Some (place mine q)) (ap (reasons_fault a) (sym at_place) ∙ y.1) k l;
      }

-- Programmes.

-- the receipt of programme p in numbers: its list has the residents `theirs`, its quota is the docket's, and
-- its members are the residents xs
record HasMembers (d : Contents) (theirs : List ℕ) (p : ℕ) (b : Receipt) (xs : List ℕ) : Type 0 where
  list : b.list ≡ map (resident_name d) theirs
  quota_is : plain_number b.quota ≡ Some (quota d.instance p)
  numbers : AreOfNumbers (resident_name d) theirs (members b) xs
  filled : length b.after ≡ length xs

-- the members in a programme's receipt fit its list and its quota; a number past all programmes has no members
record HasSide (d : Contents) (theirs : List ℕ) (p : ℕ) (b : Receipt) : Type 0 where
  xs : List ℕ
  good : IsGoodProgramme theirs xs (quota d.instance p)
  told : p < length d.instance.quotas → HasMembers d theirs p b xs
  none : length d.instance.quotas ≤ p → xs ≡ []

-- All receipts.

module _ (s : Sealed) (draft : Draft) (market : IsMarket s.docket draft) (lists_are : s.lists ≡ lists_texts s.docket draft s.real)
    (keyed : AreNameRows s.docket s.real) (few : length s.lists < 2 ^ 64) (result : List ℕ) (bytes : ℕ → List ℕ)
    (receipts : AreReceiptsOf s result bytes) where
  abbrev ps : ℕ
  ps = length s.docket.instance.quotas

  abbrev rs : ℕ
  rs = length s.docket.instance.resident_lists

  abbrev mine : ℕ → List ℕ
  mine r = list_at (given_lists draft.resident_lists) r

  abbrev theirs : ℕ → List ℕ
  theirs p = list_at (given_lists draft.programme_lists) p

  abbrev of_programme : ℕ → Receipt
  of_programme p = content_of (bytes p)

  abbrev of_resident : ℕ → Receipt
  of_resident r = content_of (bytes (ps + r))

  abbrev places : ℕ → ℕ
  places p = quota s.docket.instance p

  -- there are as many members as programmes and residents together
  many : length s.lists ≡ ps + rs
  many = ap length lists_are ∙ all_texts s.docket draft market s.secret s.real

  -- each receipt has no fault
  checked : (i : ℕ) → i < length s.lists → IsChecked s i (content_of (bytes i))
  unfolding compared_fault value_fault
  checked i l =
      let r = content_of (bytes i) in
      let n = length s.lists in
      let both = first_none (receipt_fault (lists_root s) (Some result) (bytes i)) (members_fault n n r) (receipts.good i l) in
      let value = first_none (openings_fault (lists_root s) (Some result) r) _ (parts_none (lists_root s) (Some result) (bytes i) both.0).2 in
      let rest = first_none (lists_fault r) _ value.1 in
      let o = passed (lists_root s) (Some result) (bytes i) both.0 in
      let all = number_written (plain_number r.count) n (not-false _ (if_none (not (is_number (plain_number r.count) n)) _ _ both.1).0) in
      let count : o.count ≡ n = same_Some o.count n (sym o.count_is ∙ all) in
      let index : o.index ≡ i = same_Some o.index i (sym o.index_is ∙ receipts.numbers i l) in
      let small = number_small r.count o.count o.count_is in
      record {
        lists = rest.0;
        result = rest.1;
        opens =
            subst (λ (n : ℕ). IsSealedText s.secret Lists s.lists n i r.opening (lists_text r)) count
            (subst (λ (j : ℕ). IsSealedText s.secret Lists s.lists o.count j r.opening (lists_text r)) index
            (shows_text s.secret Lists s.lists o.count o.index r.opening (lists_text r) few small o.lists));
      }

  -- each of the first n receipts has the text that was sealed at its place, or hashed bytes collide for one of the
  -- receipts
  decided : (n : ℕ) → n ≤ length s.lists → ((i : ℕ) → i < n → slice_get s.lists i ≡ Some (lists_text (content_of (bytes i)))) ⊎ OneCollides s bytes
  decided zero l = inl (λ i m. absurd (omega (arith, m)))
  decided (suc n) l = elim (decided n (omega (arith, l))) [
    | inr collides ↦ inr collides
    | inl all ↦ elim (checked n (omega (arith, l))).opens [
      | inr collides ↦ inr (record { index = n; is_member = omega (arith, l); collides = collides })
      | inl here ↦ inl (λ i m. elim (cases_lt i n) [
        | inl before ↦ all i before
        | inr past ↦ (let same : i ≡ n = omega (arith, m, past) in rw same here.1)
      ])
    ]
  ]

  module _ (there : (i : ℕ) → i < length s.lists → slice_get s.lists i ≡ Some (lists_text (content_of (bytes i))))
      (agree : AllAgree (length s.lists) bytes) where
    -- if c is the content that was sealed at place i, the receipt at place i has the list of c
    has_lists : (i : ℕ) (c : Receipt) → i < length s.lists → IsAt s.secret (lists_texts s.docket draft s.real) None i c
        → ListIsShown c.kind c.has_list c.list → lists_fault c ≡ None → HasListsOf (content_of (bytes i)) c
    has_lists i c l at shown right =
        same_lists (content_of (bytes i)) c (list_read (split_rows (plain_text (bytes i)))) shown (checked i l).lists right
        (same_Some _ _ (sym (there i l) ∙ ap (λ (texts : List (List ℕ)). slice_get texts i) lists_are ∙ at.listed))

    -- a programme's receipt has the name, quota and list that were sealed for this programme
    programme_has : (p : ℕ) → p < ps → HasListsOf (of_programme p) (early_programme s.docket draft market s.secret s.real keyed p)
    programme_has p l =
        let small = small_quota s.docket draft market s.secret s.real p in
        let right = their_list_right s.docket draft market s.secret s.real p in
        let shown = list_shown s.docket draft market s.secret s.real (slice_index_or draft.programme_lists p None) in
        has_lists p (early_programme s.docket draft market s.secret s.real keyed p) (omega (arith, many, l))
        (early_programme_at s.docket draft market s.secret s.real keyed p l) shown
        (rw (market.programmes.named p l, read_back (places p) small, right, (keyed.programmes p l).right) refl)

    resident_has : (r : ℕ) → r < rs → HasListsOf (of_resident r) (early_resident s.docket draft market s.secret s.real keyed r)
    resident_has r l =
        let right = my_list_right s.docket draft market s.secret s.real r in
        has_lists (ps + r) (early_resident s.docket draft market s.secret s.real keyed r) (omega (arith, many, l))
        (early_resident_at s.docket draft market s.secret s.real keyed r l) tt
        (rw (market.residents.named r l, right, (keyed.residents r l).right) refl)

    -- each resident's own programme and answers, in the resident's receipt, are possible for the
    -- resident's list
    placed : (r : ℕ) → r < rs → IsPlaced s.docket (mine r) (of_resident r)
    placed r l =
        let h = resident_has r l in
        let none = (checked (ps + r) (omega (arith, many, l))).result in
        placed_by s.docket draft market (mine r) (market.resident_lists r) (of_resident r) h.list (of_resident r).own refl
        (ap (λ (kind : Kind). result_fault_of kind (of_resident r)) (sym h.kind) ∙ none)

    -- the members in each programme's receipt, in numbers
    side : (p : ℕ) → HasSide s.docket (theirs p) p (of_programme p)
    side p = elim (cases_lt p ps) [
      | inl l ↦
          let b = of_programme p in
          let h = programme_has p l in
          let is = market.programme_lists p in
          let quota_is : plain_number b.quota ≡ Some (places p) =
          ap plain_number (h.quota refl) ∙ read_back (places p) (small_quota s.docket draft market s.secret s.real p) in
          let none : programme_fault b (Some (places p)) ≡ None =
          ap (programme_fault b) (sym quota_is) ∙ ap (λ (kind : Kind). result_fault_of kind b) (sym h.kind)
          ∙ (checked p (omega (arith, many, l))).result in
          let x = if_none (nat_lt (places p) (length b.after)) _ _ none in
          let y = if_none (b.gone && nat_lt 0 (length b.after)) _ _ x.1 in
          let list : b.list ≡ map (resident_name s.docket) (theirs p) = h.list ∙ their_names s.docket draft market s.secret s.real p in
          let right = ap (λ (on : Cells). wrong_name (Some on) (members b)) (sym list) ∙ map_none _ (wrong_name (Some b.list) (members b)) y.1 in
          let one = number rs (resident_name s.docket) market.residents (theirs p) is in
          let numbers = numbers_of rs (resident_name s.docket) market.residents (theirs p) is (members b) right in
          let each : length b.after ≡ length (map one (members b)) =
          sym (length-map b.after (λ row. text_at row 1)) ∙ sym (length-map (members b) one) in
          let few = ltb-false (places p) (length b.after) x.0 in
          record {
            xs = map one (members b);
            good = record { fits = omega (arith, few, each); none_twice = numbers.once; listed = numbers.listed };
            told = λ m. record { list = list; quota_is = quota_is; numbers = numbers; filled = each };
            none = λ m. absurd (omega (arith, l, m));
          }
      | inr past ↦ record {
        xs = [];
        good = record { fits = omega arith; none_twice = HasNoRepeats-nil; listed = λ x m. absurd (IsListed-nil x m) };
        told = λ l. absurd (omega (arith, l, past));
        none = λ m. refl;
      }
    ]

    -- Pairs.

    -- the receipts of a resident and a programme with the docket's numbers in place of names
    pair : (r p : ℕ) → r < rs → p < ps → ArePair s.docket.instance (theirs p) (side p).xs r p (of_resident r) (of_programme p)
    pair r p l m =
        let a = resident_has r l in
        let h = programme_has p m in
        let b = (side p).told m in
        let xs = (side p).xs in
        let is = market.programme_lists p in
        let below = among rs (resident_name s.docket) market.residents (theirs p) is xs b.numbers.listed in
        let names = map (resident_name s.docket) xs in
        record {
          gone = rw (a.gone, h.gone) refl;
          has_is =
              ap (λ (names : Cells). is_declared names (of_resident r).name) b.numbers.names_are
              ∙ ap (is_declared (map (resident_name s.docket) xs)) a.name ∙ name_listed rs (resident_name s.docket) market.residents xs r l below;
          rank_is =
              ap (λ (list : Cells). number_in list (of_resident r).name) b.list ∙ ap (number_in (map (resident_name s.docket) (theirs p))) a.name
              ∙ number_rank rs (resident_name s.docket) market.residents (theirs p) r l is.below;
          last_is =
              subst (λ (names : Cells). IsLastOfMembers (theirs p) xs (last_within (of_programme p).list names (length names)))
              (sym b.numbers.names_are)
              (subst (λ (list : Cells). IsLastOfMembers (theirs p) xs (last_within list names (length names))) (sym b.list)
              (last_told rs (resident_name s.docket) market.residents (theirs p) is xs b.numbers.listed));
          quota_is = b.quota_is;
          filled = b.filled;
        }

    -- the receipts of a resident and a programme don't differ, if the resident lists the programme at
    -- this place
    at_choice : (r p : ℕ) → r < rs → p < ps → difference_at (of_resident r) (of_programme p) (rank (mine r) p) ≡ None
    unfolding difference
    at_choice r p l m =
        let a = resident_has r l in
        let b = programme_has p m in
        let place_is : number_in (of_resident r).list (of_programme p).name ≡ rank (mine r) p =
        ap (λ (list : Cells). number_in list (of_programme p).name) a.list ∙ ap (number_in (map (programme_name s.docket) (mine r))) b.name
        ∙ number_rank ps (programme_name s.docket) market.programmes (mine r) p m (market.resident_lists r).below in
        let none = agree (ps + r) p (omega (arith, many, l)) (omega (arith, many, m)) a.kind b.kind in
        ap (difference_at (of_resident r) (of_programme p)) (sym place_is) ∙ none

    -- the number of the resident's own programme, by the resident's receipt
    abbrev own : ℕ → Option ℕ
    own r = programme_named s.docket (of_resident r).own

    abbrev m : List (Option ℕ)
    m = told_placement s.docket bytes

    -- the placement m gives each resident the own programme in the resident's receipt
    own_at : (r : ℕ) → r < rs → programme_of m r ≡ own r
    own_at r l = get_or-map-range_with_len own 0 rs r r None l (let z : 0 + r ≡ r = omega arith in z)

    -- a number whose list isn't empty is a resident's number
    has_list : (r p : ℕ) → IsListed (mine r) p → r < rs
    has_list r p on = elim (cases_lt r rs) [
      | inl l ↦ l
      | inr past ↦
          let each = market.one_list_each in
          let none = get_or_past (given_lists draft.resident_lists) r [] (omega (arith, each, past)) in
          absurd (IsListed-nil p (subst (λ (list : List ℕ). IsListed list p) none on))
    ]

    -- no member in a programme's receipt is a resident who doesn't list the programme
    no_member : (r p : ℕ) → (IsListed (mine r) p → ⊥) → IsListed (side p).xs r → ⊥
    no_member r p off on = elim (cases_lt p ps) [
      | inl l ↦
          let small : r < rs = below_of rs (theirs p) (market.programme_lists p) r ((side p).good.listed r on) in
          let unlisted = rw (is_listed_not (mine r) p off) at (at_choice r p small l) in
          let has_not = (if_none (has (of_programme p) (of_resident r)) differs.Unlisted None unlisted).0 in
          let both : false ≡ true = sym has_not ∙ (pair r p small l).has_is ∙ is_listed_from (side p).xs r on in
          cc both
      | inr past ↦ IsListed-nil r (subst (λ (xs : List ℕ). IsListed xs r) ((side p).none past) on)
    ]

    -- for each resident and programme there is a reason that agrees with the programme's receipt; if the resident
    -- lists the programme, the reason is possible in the resident's receipt
    reason : (r p : ℕ) → (why : Why) × (IsListed (mine r) p → CanStandFor (mine r) (programme_of m r) p why)
        × Agree s.docket.instance (mine r) (theirs p) (side p).xs r p why
    reason r p = elim (listed_cases (mine r) p) [
      | inl on ↦
          let l = has_list r p on in
          let within = below_of ps (mine r) (market.resident_lists r) p on in
          let fields = answer (of_resident r) (place (mine r) p) in
          let agrees = rw (is_listed_from (mine r) p on) at (at_choice r p l within) in
          let same = ap (λ (o : Option ℕ). can_stand false (stand_of (own_place (mine r) o) (place (mine r) p)) fields) (own_at r l) in
          let h = answered s.docket.instance (mine r) (theirs p) (side p).xs r p (of_resident r) (of_programme p) (pair r p l within) on fields agrees
          (programme_of m r) (same ∙ (placed r l).stands (place (mine r) p) on) in
          (h.0, λ t. h.1, h.2)
      | inr off ↦ (
        NotListed,
        λ t. absurd (off t),
        record {
          fits = λ t. absurd (off t);
          withdrawn = λ t w. absurd (off t);
          unranked = λ t u w. absurd (off t);
          member = λ t. absurd (no_member r p off t);
        },
      )
    ]

    -- each resident has a good receipt, with these reasons
    good_resident : (r : ℕ) → IsGoodResident (mine r) (programme_of m r) (λ p. (reason r p).0)
    good_resident r = record {
      own_listed = λ q e. elim (cases_lt r rs) [
        | inl l ↦ (placed r l).listed q (sym (own_at r l) ∙ e)
        | inr past ↦ (
            let each = length-map-range_with_len own 0 rs in
            let none : None ≡ Some q = sym (get_or_past m r None (omega (arith, each, past))) ∙ e in
            cc none)
      ];
      reasons = λ p l. (reason r p).1 l;
    }

    -- the placement in the receipts is stable, by the law of pairs
    stable : PairsLaw → IsStable s.docket.instance m
    stable pairs =
        pairs s.docket.instance (written_of draft) m (λ p. (side p).xs) (λ r p. (reason r p).0) market.instance market.made
        (length-map-range_with_len own 0 rs) good_resident (λ p. (side p).good) (λ r p. (reason r p).2)

-- the law of receipts that agree follows from the law of pairs
pub agreeing : PairsLaw → AgreeingReceiptsLaw
agreeing pairs docket sheet key secret_text s result bytes sealed receipts agree =
    let g = sealed_draft docket sheet key secret_text s sealed in
    let keyed = name_rows_of s.docket key s.real sealed.are_real in
    let few = (few_sealed docket sheet key secret_text s sealed).0 in
    elim (decided s g.0 g.1 g.2 keyed few result bytes receipts (length s.lists) (omega arith)) [
      | inl there ↦ inl (stable s g.0 g.1 g.2 keyed few result bytes receipts there agree pairs)
      | inr collides ↦ inr collides
    ]
