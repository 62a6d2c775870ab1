-- Lists of names stand for lists of numbers: a name's place is the rank of its number, also for the last place of
-- several names.
use Rattle.std.proofs.Common.{◌≡◌, ℕ, zero, suc, ◌+◌, ◌<◌, ◌≤◌, Bool, true, false, List, [], ◌∷◌, ◌++◌, length, map, take, get_or, Option, Some, None, is_some, refl, sym, ap, ◌∙◌, arith, subst, inl, inr, take_all}
use Rattle.std.specs.Prelude.{if◌then◌else◌, not, unwrap_or}
use Rattle.std.proofs.lemmas.Bool.{cases_Bool, cases_lt, le-ltb, lt-ltb}
use Rattle.std.proofs.lemmas.List.{ext_get_or, get_or-map, get_or-take, get_or_default, length-map, length-take-le, take_more}
use Rattle.std.proofs.lemmas.Option.{get_or_from_slice_get, slice_get-get_or}
use Rattle.match_model.specs.Instance.{rank}
use Rattle.match_model.specs.Ranking.{HasNoRepeats, IsListed, is_listed, place}
use Rattle.match_model.proofs.Listed.{listed_push_before, listed_push_last, listed_push_parts}
use Rattle.match_model.proofs.Rankings.{is_listed-false, is_listed-true}
use Rattle.match_reasons.specs.Pairs.{IsLastOfMembers}
use Rattle.settle_law.proofs.Places.{IsListed-get_or, IsListed-nil, get_or-place}
use Rattle.docket_names.specs.Words.{is_name}
use Rattle.docket_names.specs.Texts.{is_declared, number_in}
use Rattle.docket_names.proofs.TextFacts.{number_found}
use Rattle.docket.proofs.NumberFacts.{number_below}
use Rattle.receipt_check.specs.Rows.{Cells, text_at}
use Rattle.receipt_check.specs.Faults.{name_at, wrong_name}
use Rattle.receipt_check.specs.Pair.{last_within, later}
use Rattle.receipt_check.specs.declared.wrong.Wrong.TheVariants as wrong
use Rattle.receipt_check.proofs.CleanFacts.{map_none, none_at}
use Rattle.receipt_check.proofs.Firsts.{not_there}
use Rattle.receipt_theorem.proofs.Market.{IsWrittenList}
use Rattle.receipt_theorem.proofs.Places.{AreNamesOf, Below, numbered, unnumbered}
use Rattle.receipt_theorem.proofs.Right.{below_of}

-- a number has a rank on a list exactly if it is listed
pub some_rank : (xs : List ℕ) (x : ℕ) → is_some (rank xs x) ≡ is_listed xs x
some_rank xs x = elim (cases_Bool (is_listed xs x)) [ inl t ↦ rw t refl | inr f ↦ rw f refl ]

-- if no name is wrong, each name is on the list and is not among the names before it
none_wrong : (list names : Cells) → wrong_name (Some list) names ≡ None → (k : ℕ) → k < length names
    → (is_declared list (text_at names k) ≡ true) × (is_declared (take k names) (text_at names k) ≡ false)
unfolding wrong_name
none_wrong list names h k l =
    by (is_name (text_at names k)) (is_declared list (text_at names k)) (is_declared (take k names) (text_at names k))
    (map_none _ _ (none_at (name_at (Some list) names) (length names) k h l))
  where
    by : (a b c : Bool) → (if not a then Some wrong.Name else if not b then Some wrong.NotListed else if c then Some wrong.Twice else None) ≡ None
        → (b ≡ true) × (c ≡ false)
    by false b c k = cc k
    by true false c k = cc k
    by true true true k = cc k
    by true true false k = (refl, refl)

-- these are the names of the numbers; the numbers are different, and all are on the list
pub record AreOfNumbers (name : ℕ → List ℕ) (list : List ℕ) (names : Cells) (numbers : List ℕ) : Type 0 where
  pub names_are : names ≡ map name numbers
  pub listed : (x : ℕ) → IsListed numbers x → IsListed list x
  pub once : HasNoRepeats numbers

module _ (n : ℕ) (name : ℕ → List ℕ) (are : AreNamesOf n name) where
  -- the place at which a number's name is found among the names of a list is the number's rank on the list
  pub number_rank : (xs : List ℕ) (x : ℕ) → x < n → Below n xs → number_in (map name xs) (name x) ≡ rank xs x
  number_rank xs x l b = elim (cases_Bool (is_listed xs x)) [
    | inl t ↦ rw t (numbered n name are xs x l b (is_listed-true xs x t))
    | inr f ↦ rw f (unnumbered n name are xs x l b (is_listed-false xs x f))
  ]

  -- a number's name is among the names of a list exactly if the number is listed
  pub name_listed : (xs : List ℕ) (x : ℕ) → x < n → Below n xs → is_declared (map name xs) (name x) ≡ is_listed xs x
  name_listed xs x l b = ap is_some (number_rank xs x l b) ∙ some_rank xs x

  module _ (list : List ℕ) (is : IsWrittenList n list) where
    -- the number on the list whose name is this text
    abbrev pub number : List ℕ → ℕ
    number text = get_or list (unwrap_or (number_in (map name list) text) 0) 0

    -- a text among the names of a list is the name of a number on the list
    pub found : (text : List ℕ) → is_declared (map name list) text ≡ true → IsListed list (number text) × (name (number text) ≡ text)
    found text h = by (number_in (map name list) text) refl h
      where
        by : (o : Option ℕ) → number_in (map name list) text ≡ o → is_some o ≡ true
            → IsListed list (get_or list (unwrap_or o 0) 0) × (name (get_or list (unwrap_or o 0) 0) ≡ text)
        by None e k = cc k
        by (Some i) e k =
            let within = number_below (map name list) text i e in
            let l : i < length list = (let size = length-map list name in omega (arith, size, within)) in
            let there = get_or_from_slice_get (map name list) i text [] (number_found (map name list) text i e) in
            (IsListed-get_or list i 0 l, sym (get_or-map name list i 0 [] l) ∙ there)

    pub among : (xs : List ℕ) → ((x : ℕ) → IsListed xs x → IsListed list x) → Below n xs
    among xs on k d l = below_of n list is (get_or xs k d) (on (get_or xs k d) (IsListed-get_or xs k d l))

    -- names of which none is wrong are those of different numbers on the list
    pub numbers_of : (names : Cells) → wrong_name (Some (map name list)) names ≡ None → AreOfNumbers name list names (map number names)
    numbers_of names h = record {
      names_are = ext_get_or [] names (map name xs) (sym (length-map xs name ∙ size)) (λ k l.
          sym (get_or-map name xs k 0 [] (omega (arith, size, l)) ∙ ap name (there k l) ∙ (right k l).1));
      listed = λ x l. (
          let small : place xs x < length names = omega (arith, size, l) in
          subst (IsListed list) (sym (there (place xs x) small) ∙ get_or-place xs x 0 l) (right (place xs x) small).0);
      once = λ i j d l m e. (
          let last : j < length names = omega (arith, size, m) in
          let first : i < length names = omega (arith, last, l) in
          let numbers : get_or xs i 0 ≡ get_or xs j 0 = get_or_default xs i 0 d (omega (arith, l, m)) ∙ e ∙ get_or_default xs j d 0 m in
          let same : text_at names i ≡ text_at names j =
          sym (right i first).1 ∙ ap name (sym (there i first) ∙ numbers ∙ there j last) ∙ (right j last).1 in
          let before : i < length (take j names) = (let few = length-take-le j names (omega (arith, last)) in omega (arith, few, l)) in
          not_there (take j names) i (text_at names j) (none_wrong (map name list) names h j last).1
          (slice_get-get_or (take j names) i [] before ∙ ap Some (get_or-take j names i [] l ∙ same)));
    }
      where
        xs : List ℕ
        xs = map number names

        size : length xs ≡ length names
        size = length-map names number

        right : (k : ℕ) → k < length names → IsListed list (number (text_at names k)) × (name (number (text_at names k)) ≡ text_at names k)
        right k l = found (text_at names k) (none_wrong (map name list) names h k l).0

        there : (k : ℕ) → k < length names → get_or xs k 0 ≡ number (text_at names k)
        there k l = get_or-map number names k [] 0 l

    -- if x and the numbers xs stand at places up to k, all numbers of xs with x added do
    none_later : (xs : List ℕ) (x k : ℕ) → place list x ≤ k → ((y : ℕ) → IsListed xs y → place list y ≤ k)
        → (y : ℕ) → IsListed (xs ++ x ∷ []) y → place list y ≤ k
    none_later xs x k here before y m = elim (listed_push_parts xs x y m) [
      | inl b ↦ before y b
      | inr e ↦ (let same = ap (place list) e in omega (arith, same, here))
    ]

    -- the last place of the numbers xs with x added is the later of their last place and x's
    later_last : (xs : List ℕ) (x : ℕ) (o : Option ℕ) → IsLastOfMembers list xs o
        → IsLastOfMembers list (xs ++ x ∷ []) (later o (Some (place list x)))
    later_last xs x None h = ((x, listed_push_last xs x, refl), none_later xs x (place list x) (omega arith) (λ y m. absurd (h y m)))
    later_last xs x (Some k) h = elim (cases_lt k (place list x)) [
      | inl l ↦
          let most : (y : ℕ) → IsListed xs y → place list y ≤ place list x = λ y m. (let le = h.1 y m in omega (arith, le, l)) in
          rw (lt-ltb k (place list x) l) ((x, listed_push_last xs x, refl), none_later xs x (place list x) (omega arith) most)
      | inr past ↦ rw (le-ltb k (place list x) past) ((h.0.0, listed_push_before xs x h.0.0 h.0.1, h.0.2), none_later xs x k past h.1)
    ]

    -- the last place of the first k names on the list of names is the last place of the first k numbers
    -- on the list
    last_of : (xs : List ℕ) → ((x : ℕ) → IsListed xs x → IsListed list x) → (k : ℕ) → k ≤ length xs
        → IsLastOfMembers list (take k xs) (last_within (map name list) (map name xs) k)
    unfolding last_within
    last_of xs on zero l = IsListed-nil
    last_of xs on (suc k) l =
        let x = get_or xs k 0 in
        let within : k < length xs = omega (arith, l) in
        let more : suc k ≡ k + 1 = omega arith in
        let first : take (suc k) xs ≡ take k xs ++ x ∷ [] = ap (λ i. take i xs) more ∙ take_more xs k 0 within in
        let listed = on x (IsListed-get_or xs k 0 within) in
        let there : number_in (map name list) (text_at (map name xs) k) ≡ Some (place list x) =
        ap (number_in (map name list)) (get_or-map name xs k 0 [] within)
        ∙ numbered n name are list x (below_of n list is x listed) is.below listed in
        rw (first, there) (later_last (take k xs) x (last_within (map name list) (map name xs) k) (last_of xs on k (omega (arith, l))))

    -- the last place of the names on the list of names is the last place of the numbers on the list
    pub last_told : (xs : List ℕ) → ((x : ℕ) → IsListed xs x → IsListed list x)
        → IsLastOfMembers list xs (last_within (map name list) (map name xs) (length (map name xs)))
    last_told xs on =
        let last = last_of xs on (length xs) (omega arith) in
        let all = take_all (length xs) xs (omega arith) in
        rw (length-map xs name) (subst (λ (ys : List ℕ). IsLastOfMembers list ys (last_within (map name list) (map name xs) (length xs))) all last)
