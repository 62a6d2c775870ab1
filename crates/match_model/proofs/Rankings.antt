-- The places and ranks that a walk along a list finds.
use Rattle.std.proofs.Common.{◌≡◌, ◌≢◌, ℕ, ◌+◌, ◌<◌, ◌≤◌, Bool, true, false, cond, eqb, ltb, List, [], ◌∷◌, ◌++◌, length, get_or, take, Some, None, refl, sym, ap, ◌∙◌, suc, zero, arith, one-add, not, ◌&&◌, ◌||◌}
use Rattle.std.specs.List.{list_any, list_all, filter, IsDistinct, AllByRecursion}
use Rattle.std.proofs.lemmas.Bool.{and_parts, or_parts, not-true, eqb-true, eq-eqb, ltb-true, ltb-false, lt-ltb}
use Rattle.std.proofs.lemmas.List.{append-nil, take_more}
use Rattle.std.proofs.lemmas.List.Elements.{filter-append}
use Rattle.std.proofs.lemmas.Map.Made.{AllPairs-from_IsDistinct}
use Rattle.std.proofs.lemmas.Map.Steps.{length-le_from_distinct_below}
use Rattle.std.proofs.lemmas.Bool.Decides.{Decides-eqb, nat_tests}
use Rattle.match_model.specs.Ranking.{place, is_listed, HasNoRepeats, IsListed}
use Rattle.match_model.specs.Instance.{rank}
use Rattle.match_model.specs.Draft.{has_no_repeats}

-- the place of a number in a list that begins with this number is 0
pub place-cons_same : (y x : ℕ) (ys : List ℕ) → y ≡ x → place (y ∷ ys) x ≡ 0
place-cons_same y x ys e = grind arith

pub place-cons_other : (y x : ℕ) (ys : List ℕ) → y ≢ x → place (y ∷ ys) x ≡ 1 + place ys x
place-cons_other y x ys e = grind arith

-- the place of an item is the index of the first item equal to it
pub place_is : (xs : List ℕ) (x i : ℕ) → i < length xs → get_or xs i 0 ≡ x → ((k : ℕ) → k < i → get_or xs k 0 ≢ x) → place xs x ≡ i
place_is [] x i h e none = absurd (omega arith)
place_is (y ∷ ys) x zero h e none = place-cons_same y x ys e
place_is (y ∷ ys) x (suc i) h e none =
    place-cons_other y x ys (none 0 (omega arith)) ∙ ap (λ n. 1 + n) (place_is ys x i (omega arith) e (λ k l. none (suc k) (omega arith))) ∙ one-add i

-- if no item of the list equals x, the place of x is the list's length
pub place_past : (xs : List ℕ) (x : ℕ) → ((k : ℕ) → k < length xs → get_or xs k 0 ≢ x) → place xs x ≡ length xs
place_past [] x none = refl
place_past (y ∷ ys) x none =
    place-cons_other y x ys (none 0 (omega arith)) ∙ ap (λ n. 1 + n) (place_past ys x (λ k l. none (suc k) (omega arith))) ∙ one-add (length ys)

-- if the first item equal to x stands at index i, the rank of x is i
pub rank_found : (xs : List ℕ) (x i : ℕ) → i < length xs → get_or xs i 0 ≡ x → ((k : ℕ) → k < i → get_or xs k 0 ≢ x) → Some i ≡ rank xs x
rank_found xs x i h e none = let p : place xs x ≡ i = place_is xs x i h e none in grind arith

pub rank_none : (xs : List ℕ) (x : ℕ) → ((k : ℕ) → k < length xs → get_or xs k 0 ≢ x) → None ≡ rank xs x
rank_none xs x none = let p : place xs x ≡ length xs = place_past xs x none in grind arith

-- the place of a number in a list is at most the list's length
pub place-le : (xs : List ℕ) (x : ℕ) → place xs x ≤ length xs
place-le [] x = omega arith
place-le (y ∷ ys) x = let h : place ys x ≤ length ys = place-le ys x in place-le_cons y x ys h
  where
    place-le_cons : (y x : ℕ) (ys : List ℕ) → place ys x ≤ length ys → place (y ∷ ys) x ≤ length (y ∷ ys)
    place-le_cons y x ys h = grind arith

-- the test whether a number is listed is true exactly if the number is listed
pub is_listed-true : (xs : List ℕ) (x : ℕ) → is_listed xs x ≡ true → IsListed xs x
is_listed-true xs x e = ltb-true _ _ e

pub is_listed-false : (xs : List ℕ) (x : ℕ) → is_listed xs x ≡ false → IsListed xs x → ⊥
is_listed-false xs x e h = let l : length xs ≤ place xs x = ltb-false _ _ e in omega arith

pub is_listed_from : (xs : List ℕ) (x : ℕ) → IsListed xs x → is_listed xs x ≡ true
is_listed_from xs x h = lt-ltb _ _ h

pub is_listed_not : (xs : List ℕ) (x : ℕ) → (IsListed xs x → ⊥) → is_listed xs x ≡ false
is_listed_not xs x h = grind (arith, nat_tests)

-- a number is listed exactly if a walk over the list finds an equal item
pub is_listed-any : (xs : List ℕ) (x : ℕ) → is_listed xs x ≡ list_any (λ y. eqb y x) xs
is_listed-any [] x = refl
is_listed-any (y ∷ ys) x = step y x ys (is_listed-any ys x)
  where
    step : (y x : ℕ) (ys : List ℕ) → is_listed ys x ≡ list_any (λ z. eqb z x) ys → is_listed (y ∷ ys) x ≡ list_any (λ z. eqb z x) (y ∷ ys)
    step y x ys h = grind arith

-- a number is in a list with one more item in front exactly if it equals this item or is in the rest
pub is_listed-cons : (y : ℕ) (ys : List ℕ) (x : ℕ) → is_listed (y ∷ ys) x ≡ eqb y x || is_listed ys x
is_listed-cons y ys x = is_listed-any (y ∷ ys) x ∙ ap (λ b. eqb y x || b) (sym (is_listed-any ys x))

pub is_listed-append : (xs ys : List ℕ) (x : ℕ) → is_listed (xs ++ ys) x ≡ is_listed xs x || is_listed ys x
is_listed-append [] ys x = refl
is_listed-append (z ∷ xs) ys x =
    is_listed-cons z (xs ++ ys) x ∙ ap (λ b. eqb z x || b) (is_listed-append xs ys x) ∙ regroup (eqb z x) (is_listed xs x) (is_listed ys x)
    ∙ ap (λ b. b || is_listed ys x) (sym (is_listed-cons z xs x))
  where
    regroup : (a b c : Bool) → a || (b || c) ≡ (a || b) || c
    regroup true b c = refl
    regroup false b c = refl

pub is_listed_alone : (y x : ℕ) → is_listed (y ∷ []) x ≡ eqb y x
is_listed_alone y x = grind arith

-- if the item at an index of the list is x, then x is listed
pub is_listed_at : (xs : List ℕ) (x i : ℕ) → i < length xs → get_or xs i 0 ≡ x → is_listed xs x ≡ true
is_listed_at [] x i h e = absurd (omega arith)
is_listed_at (y ∷ ys) x zero h e = is_listed-cons y ys x ∙ ap (λ b. b || is_listed ys x) (eq-eqb y x e)
is_listed_at (y ∷ ys) x (suc i) h e = is_listed-cons y ys x ∙ ap (λ b. eqb y x || b) (is_listed_at ys x i (omega arith) e) ∙ absorb (eqb y x)
  where
    absorb : (b : Bool) → b || true ≡ true
    absorb true = refl
    absorb false = refl

pub is_listed_nowhere : (xs : List ℕ) (x : ℕ) → ((k : ℕ) → k < length xs → get_or xs k 0 ≢ x) → is_listed xs x ≡ false
is_listed_nowhere xs x none = let p : place xs x ≡ length xs = place_past xs x none in grind arith

-- if a equals b, then b equals a
pub eqb_comm : (a b : ℕ) → eqb a b ≡ eqb b a
eqb_comm a b = grind arith

-- a list with one more item at its end has no repeats exactly if the old list has none and the item is new
pub has_no_repeats-push : (xs : List ℕ) (y : ℕ) → has_no_repeats (xs ++ y ∷ []) ≡ has_no_repeats xs && not (is_listed xs y)
has_no_repeats-push [] y = refl
has_no_repeats-push (x ∷ xs) y =
    ap (λ b. not b && has_no_repeats (xs ++ y ∷ [])) (is_listed-append xs (y ∷ []) x ∙ ap (λ b. is_listed xs x || b) (is_listed_alone y x))
    ∙ ap (λ b. not (is_listed xs x || eqb y x) && b) (has_no_repeats-push xs y)
    ∙ regroup (is_listed xs x) (eqb y x) (has_no_repeats xs) (is_listed xs y)
    ∙ ap (λ b. (not (is_listed xs x) && has_no_repeats xs) && not (b || is_listed xs y)) (eqb_comm y x)
    ∙ ap (λ b. (not (is_listed xs x) && has_no_repeats xs) && not b) (sym (is_listed-cons x xs y))
  where
    absorb : (n : Bool) → false ≡ n && false
    absorb true = refl
    absorb false = refl

    regroup : (a e n b : Bool) → not (a || e) && (n && not b) ≡ (not a && n) && not (e || b)
    regroup true e n b = refl
    regroup false true n b = absorb n
    regroup false false n b = refl

-- if the beginning of a list has a repeat, the whole list has a repeat
pub has_no_repeats-append : (xs ys : List ℕ) → has_no_repeats xs ≡ false → has_no_repeats (xs ++ ys) ≡ false
has_no_repeats-append [] ys h = absurd (true≢false h)
  where
    true≢false : true ≡ false → ⊥
    true≢false e = cc
has_no_repeats-append (x ∷ xs) ys h =
    step (is_listed xs x) (is_listed ys x) (has_no_repeats xs) (has_no_repeats (xs ++ ys)) (is_listed (xs ++ ys) x) (is_listed-append xs ys x) h (has_no_repeats-append xs ys)
  where
    step : (a b n m l : Bool) → l ≡ a || b → not a && n ≡ false → (n ≡ false → m ≡ false) → not l && m ≡ false
    step a b n m l e h f = grind arith

-- if a list has no repeats, its first item is not among the other items, and the other items have
-- no repeats
no_repeats_parts : (y : ℕ) (ys : List ℕ) → has_no_repeats (y ∷ ys) ≡ true → (is_listed ys y ≡ false) × (has_no_repeats ys ≡ true)
no_repeats_parts y ys h = let part = and_parts (not (is_listed ys y)) (has_no_repeats ys) h in (not-true (is_listed ys y) part.0, part.1)

-- a number is in a filtered list exactly if it is in the list and passes the test
pub is_listed-filter : (q : ℕ → Bool) (xs : List ℕ) (x : ℕ) → is_listed (filter q xs) x ≡ is_listed xs x && q x
is_listed-filter q [] x = refl
is_listed-filter q (y ∷ ys) x = step (q y) refl (is_listed-filter q ys x)
  where
    same : (b c : Bool) → eqb y x ≡ b → q y ≡ c → c ≡ cond b (q x) c
    same true c e h = sym h ∙ ap q (eqb-true y x e)
    same false c e h = refl

    join : (b l c d : Bool) → c ≡ cond b d c → cond c (b || (l && d)) (l && d) ≡ (b || l) && d
    join b l c d e = grind arith

    step : (c : Bool) → q y ≡ c → is_listed (filter q ys) x ≡ is_listed ys x && q x → is_listed (cond c (y ∷ filter q ys) (filter q ys)) x ≡ is_listed (y ∷ ys) x && q x
    step true h ih = is_listed-cons y (filter q ys) x ∙ ap (λ b. eqb y x || b) ih ∙ join (eqb y x) (is_listed ys x) true (q x) (same (eqb y x) true refl h) ∙ ap (λ b. b && q x) (sym (is_listed-cons y ys x))
    step false h ih = ih ∙ join (eqb y x) (is_listed ys x) false (q x) (same (eqb y x) false refl h) ∙ ap (λ b. b && q x) (sym (is_listed-cons y ys x))

-- if a list has no repeats, the filtered list has none
pub has_no_repeats-filter : (q : ℕ → Bool) (xs : List ℕ) → has_no_repeats xs ≡ true → has_no_repeats (filter q xs) ≡ true
has_no_repeats-filter q [] h = refl
has_no_repeats-filter q (y ∷ ys) h = step (q y) (has_no_repeats-filter q ys (part.1)) (is_listed-filter q ys y)
  where
    part : (is_listed ys y ≡ false) × (has_no_repeats ys ≡ true)
    part = no_repeats_parts y ys h

    keep : (a b n : Bool) (c : Bool) → a ≡ b && c → b ≡ false → n ≡ true → not a && n ≡ true
    keep a b n c e f g = grind arith

    step : (c : Bool) → has_no_repeats (filter q ys) ≡ true → is_listed (filter q ys) y ≡ is_listed ys y && q y → has_no_repeats (cond c (y ∷ filter q ys) (filter q ys)) ≡ true
    step true ih l = keep _ _ _ (q y) l part.0 ih
    step false ih l = ih

-- a list without repeats is a distinct list as the standard library defines it
pub IsDistinct-from_test : (xs : List ℕ) → has_no_repeats xs ≡ true → IsDistinct eqb xs
unfolding IsDistinct
IsDistinct-from_test [] h = tt
IsDistinct-from_test (x ∷ xs) h = let part = no_repeats_parts x xs h in (apart xs x part.0, IsDistinct-from_test xs part.1)
  where
    apart : (ys : List ℕ) (x : ℕ) → is_listed ys x ≡ false → AllByRecursion (λ y. eqb x y ≡ false) ys
    apart [] x e = tt
    apart (y ∷ ys) x e =
        let part : (eqb y x ≡ false) × (is_listed ys x ≡ false) = or_parts (eqb y x) (is_listed ys x) (sym (is_listed-cons y ys x) ∙ e) in
        (eqb_comm x y ∙ part.0, apart ys x part.1)

pub HasNoRepeats-from_test : (xs : List ℕ) → has_no_repeats xs ≡ true → HasNoRepeats xs
HasNoRepeats-from_test xs h = AllPairs-from_IsDistinct {eq = eqb} (λ a b. Decides-eqb a b) xs (IsDistinct-from_test xs h)

-- if all items of a list are below n, and q is one of them, then q is below n
pub listed_below : (n q : ℕ) (ys : List ℕ) → list_all (λ x. ltb x n) ys ≡ true → list_any (eqb q) ys ≡ true → q < n
listed_below n q [] b e = absurd (false≢true e)
  where
    false≢true : false ≡ true → ⊥
    false≢true e = cc
listed_below n q (y ∷ ys) b e =
    let part = and_parts (ltb y n) (list_all (λ x. ltb x n) ys) b in
    step (eqb q y) (list_any (eqb q) ys) refl e part.0 (listed_below n q ys part.1)
  where
    here : eqb q y ≡ true → ltb y n ≡ true → q < n
    here h k = grind arith

    step : (a c : Bool) → eqb q y ≡ a → a || c ≡ true → ltb y n ≡ true → (c ≡ true → q < n) → q < n
    step true c h e k f = here h k
    step false c h e k f = f e

pub length-le_below : (xs : List ℕ) (n : ℕ) → has_no_repeats xs ≡ true → list_all (λ x. ltb x n) xs ≡ true → length xs ≤ n
length-le_below xs n h b = length-le_from_distinct_below xs n (IsDistinct-from_test xs h) (λ q e. listed_below n q xs b e)

-- the filtered first i + 1 items of a list are the filtered first i items, followed by item i if it passes
module _ (q : ℕ → Bool) (xs : List ℕ) (i d : ℕ) (within : i < length xs) where
  filter_more : filter q (take (i + 1) xs) ≡ filter q (take i xs) ++ filter q (get_or xs i d ∷ [])
  filter_more = ap (filter q) (take_more xs i d within) ∙ filter-append q (take i xs) (get_or xs i d ∷ [])

  pub filter_keeps : q (get_or xs i d) ≡ true → filter q (take (i + 1) xs) ≡ filter q (take i xs) ++ get_or xs i d ∷ []
  filter_keeps h = filter_more ∙ ap (λ b. filter q (take i xs) ++ cond b (get_or xs i d ∷ []) []) h

  pub filter_leaves : q (get_or xs i d) ≡ false → filter q (take (i + 1) xs) ≡ filter q (take i xs)
  filter_leaves h = filter_more ∙ ap (λ b. filter q (take i xs) ++ cond b (get_or xs i d ∷ []) []) h ∙ append-nil (filter q (take i xs))

-- in a list without repeats, the rank of an item is the index at which it stands
pub rank_at_place : (xs : List ℕ) (x i : ℕ) → HasNoRepeats xs → i < length xs → get_or xs i 0 ≡ x → Some i ≡ rank xs x
rank_at_place xs x i distinct h at = rank_found xs x i h at (λ k l e. distinct k i 0 l h (e ∙ sym at))
