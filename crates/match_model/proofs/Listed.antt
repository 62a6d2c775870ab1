-- Items of lists: the place of an item, counts and repeats, beginnings of lists, and sums over lists.
use mathlib.Core.List.{IsPrefix}
use Rattle.std.proofs.Common.{◌≡◌, ℕ, zero, suc, ◌+◌, ◌<◌, ◌≤◌, Bool, true, false, cond, eqb, ◌||◌, ◌⊎◌, inl, inr, List, [], ◌∷◌, ◌++◌, length, slice_get, Some, refl, ap, sym, ◌∙◌, subst, arith, one-add, get_or, ap₂, zero-add, add-zero, add_comm}
use Rattle.std.specs.List.{list_all, sum_by}
use Rattle.std.proofs.lemmas.Bool.{cases_lt, cases_eq, eq-eqb, ne_eqb, and_parts, and_cases, and_from}
use Rattle.std.proofs.lemmas.Bool.Decides.{nat_tests}
use Rattle.std.proofs.lemmas.List.Sums.{sum_by-cons}
use Rattle.std.proofs.lemmas.Option.{get_or_from_slice_get}
use Rattle.match_model.specs.Ranking.{place, IsListed, is_listed, HasNoRepeats}
use Rattle.match_model.proofs.Rankings.{is_listed-false, is_listed_not, is_listed-cons, is_listed-append, is_listed_alone}
use Rattle.match_model.proofs.Prefixes.{prefix_item}
use Rattle.match_model.proofs.Counts.{sum_below, sum_below_zero, sum_below_same, sum_below_one, count_of, count_of-append, count_of_push, count_of_same}

pub is_listed_push : (xs : List ℕ) (y x : ℕ) → is_listed (xs ++ y ∷ []) x ≡ (is_listed xs x || eqb y x)
is_listed_push xs y x = is_listed-append xs (y ∷ []) x ∙ ap (λ (b : Bool). is_listed xs x || b) (is_listed_alone y x)

pub place-append : (xs ys : List ℕ) (x : ℕ) → IsListed xs x → place (xs ++ ys) x ≡ place xs x
place-append [] ys x h = absurd (omega arith)
place-append (z ∷ zs) ys x h = step (cases_eq z x) (place-append zs ys x)
  where
    step : (z ≡ x) ⊎ (z ≡ x → ⊥) → (IsListed zs x → place (zs ++ ys) x ≡ place zs x) → place (z ∷ (zs ++ ys)) x ≡ place (z ∷ zs) x
    step (inl e) ih = rw (eq-eqb z x e) refl
    step (inr n) ih = let k : IsListed zs x = (let l = rw (ne_eqb z x n) at h in omega (arith, l)) in rw (ne_eqb z x n) (ap (λ (t : ℕ). 1 + t) (ih k))

-- a listed item is equal to any item with the same place
pub same_from_place : (xs : List ℕ) (x y : ℕ) → IsListed xs x → place xs x ≡ place xs y → x ≡ y
same_from_place [] x y h e = absurd (omega arith)
same_from_place (z ∷ zs) x y h e = grind (arith, nat_tests, same_from_place zs x y)

pub place-head : (y : ℕ) (ys : List ℕ) → place (y ∷ ys) y ≡ 0
place-head y ys = rw (eq-eqb y y refl) refl

pub place-tail : (y : ℕ) (ys : List ℕ) (x : ℕ) → (y ≡ x → ⊥) → place (y ∷ ys) x ≡ 1 + place ys x
place-tail y ys x n = rw (ne_eqb y x n) refl

pub slice_get_place : (xs : List ℕ) (x : ℕ) → IsListed xs x → slice_get xs (place xs x) ≡ Some x
slice_get_place [] x h = absurd (omega arith)
slice_get_place (z ∷ zs) x h = step (cases_eq z x) (slice_get_place zs x)
  where
    step : (z ≡ x) ⊎ (z ≡ x → ⊥) → (IsListed zs x → slice_get zs (place zs x) ≡ Some x) → slice_get (z ∷ zs) (place (z ∷ zs) x) ≡ Some x
    step (inl e) ih = rw (eq-eqb z x e) (ap Some e)
    step (inr n) ih = let k : IsListed zs x = (let l = rw (ne_eqb z x n) at h in omega (arith, l)) in rw (ne_eqb z x n, one-add) (ih k)

-- the item at index i of a list is listed, and its place is i or earlier
pub listed_at : (xs : List ℕ) (i x : ℕ) → slice_get xs i ≡ Some x → (place xs x ≤ i) × (i < length xs)
listed_at [] i x e = absurd (cc)
listed_at (z ∷ zs) zero x e = let q : z ≡ x = cc in (rw (eq-eqb z x q) (omega arith), omega arith)
listed_at (z ∷ zs) (suc i) x e = let ih = listed_at zs i x e in (grind (arith, nat_tests), omega (arith, ih.1))

pub listed_item : (xs : List ℕ) (i x : ℕ) → slice_get xs i ≡ Some x → IsListed xs x
listed_item xs i x e = let ih = listed_at xs i x e in omega (arith, ih.0, ih.1)

-- ---- counts and repeats

pub count_of_listed : (xs : List ℕ) (x : ℕ) → IsListed xs x → 0 < count_of x xs
count_of_listed [] x h = absurd (omega arith)
count_of_listed (z ∷ zs) x h = grind (arith, nat_tests, count_of_listed zs x)

pub listed_from_count : (xs : List ℕ) (x : ℕ) → 0 < count_of x xs → IsListed xs x
listed_from_count [] x h = absurd (omega arith)
listed_from_count (z ∷ zs) x h = grind (arith, nat_tests, listed_from_count zs x)

pub count_of_unlisted : (xs : List ℕ) (x : ℕ) → is_listed xs x ≡ false → count_of x xs ≡ 0
count_of_unlisted xs x e = grind (arith, nat_tests, listed_from_count xs x)

pub no_repeats_tail : (x : ℕ) (xs : List ℕ) → HasNoRepeats (x ∷ xs) → HasNoRepeats xs
no_repeats_tail x xs h = λ i j d l m. h (suc i) (suc j) d (omega arith) (omega arith)

pub no_repeats_head : (x : ℕ) (xs : List ℕ) → HasNoRepeats (x ∷ xs) → IsListed xs x → ⊥
no_repeats_head x xs h l = h 0 (suc (place xs x)) x (omega arith) (omega arith) (sym (get_or_from_slice_get xs (place xs x) x x (slice_get_place xs x l)))

pub count_from_no_repeats : (xs : List ℕ) → HasNoRepeats xs → (x : ℕ) → count_of x xs ≤ 1
count_from_no_repeats [] h x = omega arith
count_from_no_repeats (z ∷ zs) h x = step (cases_eq z x) (count_from_no_repeats zs (no_repeats_tail z zs h) x)
  where
    step : (z ≡ x) ⊎ (z ≡ x → ⊥) → count_of x zs ≤ 1 → count_of x (z ∷ zs) ≤ 1
    step (inl e) ih =
        let u : IsListed zs x → ⊥ = λ l. no_repeats_head z zs h (subst (λ (t : ℕ). IsListed zs t) (sym e) l) in
        let c : count_of x zs ≡ 0 = count_of_unlisted zs x (is_listed_not zs x u) in
        rw (eq-eqb z x e, c) (omega arith)
    step (inr n) ih = rw (ne_eqb z x n) (omega arith)

pub count_at : (xs : List ℕ) (j d : ℕ) → j < length xs → 1 ≤ count_of (get_or xs j d) xs
count_at [] j d l = absurd (omega arith)
count_at (z ∷ zs) zero d l = rw (eq-eqb z z refl) (omega arith)
count_at (z ∷ zs) (suc j) d l = omega (arith, count_at zs j d (omega arith))

pub count_at_two : (xs : List ℕ) (i j d : ℕ) → i < j → j < length xs → get_or xs i d ≡ get_or xs j d → 2 ≤ count_of (get_or xs j d) xs
count_at_two [] i j d l m e = absurd (omega arith)
count_at_two (z ∷ zs) i zero d l m e = absurd (omega arith)
count_at_two (z ∷ zs) zero (suc j) d l m e = rw (eq-eqb z (get_or zs j d) e) (omega (arith, count_at zs j d (omega arith)))
count_at_two (z ∷ zs) (suc i) (suc j) d l m e = omega (arith, count_at_two zs i j d (omega arith) (omega arith) e)

pub no_repeats_from_count : (xs : List ℕ) → ((x : ℕ) → count_of x xs ≤ 1) → HasNoRepeats xs
no_repeats_from_count xs h = λ i j d l m e. let two = count_at_two xs i j d l m e in let one = h (get_or xs j d) in absurd (omega (arith, two, one))

-- in a list without repeats, the place of an item is the index at which it stands
pub place_at : (xs : List ℕ) (i x : ℕ) → HasNoRepeats xs → slice_get xs i ≡ Some x → place xs x ≡ i
place_at xs i x h e =
    let at = listed_at xs i x e in
    step (cases_lt (place xs x) i)
  where
    step : (place xs x < i) ⊎ (i ≤ place xs x) → place xs x ≡ i
    step (inl l) =
        let at = listed_at xs i x e in
        let p : get_or xs (place xs x) x ≡ x = get_or_from_slice_get xs (place xs x) x x (slice_get_place xs x (listed_item xs i x e)) in
        let q : get_or xs i x ≡ x = get_or_from_slice_get xs i x x e in
        absurd (h (place xs x) i x l at.1 (p ∙ sym q))
    step (inr l) = let at = listed_at xs i x e in omega (arith, at.0)

pub listed_push_parts : (xs : List ℕ) (y x : ℕ) → IsListed (xs ++ y ∷ []) x → IsListed xs x ⊎ (y ≡ x)
listed_push_parts xs y x h = grind (arith, nat_tests, is_listed_push xs y x)

pub listed_push_before : (xs : List ℕ) (y x : ℕ) → IsListed xs x → IsListed (xs ++ y ∷ []) x
listed_push_before xs y x h = grind (arith, nat_tests, is_listed_push xs y x)

pub listed_push_last : (xs : List ℕ) (y : ℕ) → IsListed (xs ++ y ∷ []) y
listed_push_last xs y = grind (arith, nat_tests, is_listed_push xs y y)

pub no_repeats_push : (xs : List ℕ) (y : ℕ) → HasNoRepeats xs → is_listed xs y ≡ false → HasNoRepeats (xs ++ y ∷ [])
no_repeats_push xs y h u = no_repeats_from_count (xs ++ y ∷ []) bound
  where
    bound : (x : ℕ) → count_of x (xs ++ y ∷ []) ≤ 1
    bound x = grind (arith, nat_tests, count_of_push x xs y, count_from_no_repeats xs h x, count_of_unlisted xs y u)

pub no_repeats_before : (xs ys : List ℕ) → HasNoRepeats (xs ++ ys) → HasNoRepeats xs
no_repeats_before xs ys h = no_repeats_from_count xs (λ x. let a = count_of-append x xs ys in let b = count_from_no_repeats (xs ++ ys) h x in omega (arith, a, b))

pub no_repeats_last : (xs : List ℕ) (y : ℕ) → HasNoRepeats (xs ++ y ∷ []) → is_listed xs y ≡ false
no_repeats_last xs y h =
    let a = count_of_same y xs in let b = count_from_no_repeats (xs ++ y ∷ []) h y in
    is_listed_not xs y (λ l. let c = count_of_listed xs y l in absurd (omega (arith, a, b, c)))

-- ---- a test of each listed item

pub list_all_listed : (t : ℕ → Bool) (xs : List ℕ) → list_all t xs ≡ true → (x : ℕ) → IsListed xs x → t x ≡ true
list_all_listed t [] e x h = absurd (omega arith)
list_all_listed t (z ∷ zs) e x h = let both = and_parts _ _ e in step (cases_eq z x) both.0 (list_all_listed t zs both.1 x)
  where
    step : (z ≡ x) ⊎ (z ≡ x → ⊥) → t z ≡ true → (IsListed zs x → t x ≡ true) → t x ≡ true
    step (inl w) u ih = subst (λ (v : ℕ). t v ≡ true) w u
    step (inr n) u ih = ih (let p = place-tail z zs x n in omega (arith, p))

pub list_all_from_listed : (t : ℕ → Bool) (xs : List ℕ) → ((x : ℕ) → IsListed xs x → t x ≡ true) → list_all t xs ≡ true
list_all_from_listed t [] h = refl
list_all_from_listed t (z ∷ zs) h = and_from _ _ (h z (let p = place-head z zs in omega (arith, p))) (list_all_from_listed t zs (λ x l. h x (listed_tail x l)))
  where
    listed_tail : (x : ℕ) → IsListed zs x → IsListed (z ∷ zs) x
    listed_tail x l = grind (arith, nat_tests)

pub list_all_fails : (t : ℕ → Bool) (xs : List ℕ) → list_all t xs ≡ false → (x : ℕ) × IsListed xs x × (t x ≡ false)
list_all_fails t [] e = absurd (cc)
list_all_fails t (z ∷ zs) e = step (and_cases _ _ e) (list_all_fails t zs)
  where
    step : (t z ≡ false) ⊎ (list_all t zs ≡ false) → (list_all t zs ≡ false → (x : ℕ) × IsListed zs x × (t x ≡ false)) → (x : ℕ) × IsListed (z ∷ zs) x × (t x ≡ false)
    step (inl u) ih = (z, (let p = place-head z zs in omega (arith, p)), u)
    step (inr u) ih = let r = ih u in let l : IsListed zs r.0 = r.1 in (r.0, grind (arith, nat_tests), r.2)

-- ---- a list that is the beginning of another list

pub prefix_listed : (xs ys : List ℕ) (x : ℕ) → IsPrefix xs ys → IsListed xs x → IsListed ys x
prefix_listed xs ys x h l = let s = slice_get_place xs x l in listed_item ys (place xs x) x (prefix_item xs ys (place xs x) x h s)

pub prefix_no_repeats : (xs ys : List ℕ) → IsPrefix xs ys → HasNoRepeats ys → HasNoRepeats xs
prefix_no_repeats xs ys h n = no_repeats_before xs h.0 (subst HasNoRepeats (sym h.1) n)

pub prefix_count : (xs ys : List ℕ) (x : ℕ) → IsPrefix xs ys → count_of x xs ≤ count_of x ys
prefix_count xs ys x h = omega (arith, count_of-append x xs h.0, ap (count_of x) h.1)

pub place-append_past : (xs ys : List ℕ) (x : ℕ) → is_listed xs x ≡ false → place (xs ++ ys) x ≡ length xs + place ys x
place-append_past [] ys x h = omega arith
place-append_past (z ∷ zs) ys x h = step (cases_eq z x) (place-append_past zs ys x)
  where
    step : (z ≡ x) ⊎ (z ≡ x → ⊥) → (is_listed zs x ≡ false → place (zs ++ ys) x ≡ length zs + place ys x) → place (z ∷ (zs ++ ys)) x ≡ length (z ∷ zs) + place ys x
    step (inl e) ih = absurd (is_listed-false (z ∷ zs) x h (let p : place (z ∷ zs) x ≡ 0 = rw (eq-eqb z x e) refl in omega (arith, p)))
    step (inr n) ih =
        let u : is_listed zs x ≡ false = is_listed_not zs x (λ l. is_listed-false (z ∷ zs) x h (let p = place-tail z zs x n in omega (arith, p))) in
        place-tail z (zs ++ ys) x n ∙ (let e = ih u in omega (arith, e))

-- if f is 0 outside a list without repeats, its sum over the list is its sum over all numbers below n
pub sum_by_listed : (f : ℕ → ℕ) (xs : List ℕ) (n : ℕ) → HasNoRepeats xs
    → ((i x : ℕ) → slice_get xs i ≡ Some x → x < n)
    → ((x : ℕ) → is_listed xs x ≡ false → f x ≡ 0)
    → sum_by f xs ≡ sum_below f n
sum_by_listed f xs n h below others = masked xs h below ∙ sum_below_same (λ k. cond (is_listed xs k) (f k) 0) f n (λ k l. unmask (is_listed xs k) k refl)
  where
    unmask : (b : Bool) (k : ℕ) → is_listed xs k ≡ b → cond b (f k) 0 ≡ f k
    unmask true k e = refl
    unmask false k e = sym (others k e)

    mark : List ℕ → ℕ → ℕ
    mark xs k = cond (is_listed xs k) (f k) 0

    more : (x : ℕ) (xs : List ℕ) (k : ℕ) → is_listed xs x ≡ false → mark (x ∷ xs) k ≡ mark xs k + cond (eqb k x) (f x) 0
    more x xs k u = step (cases_eq x k)
      where
        step : (x ≡ k) ⊎ (x ≡ k → ⊥) → mark (x ∷ xs) k ≡ mark xs k + cond (eqb k x) (f x) 0
        step (inl e) =
            let left : mark (x ∷ xs) k ≡ f k = ap (λ b. cond b (f k) 0) (is_listed-cons x xs k ∙ ap (λ b. b || is_listed xs k) (eq-eqb x k e)) in
            let right : mark xs k ≡ 0 = ap (λ b. cond b (f k) 0) (subst (λ (t : ℕ). is_listed xs t ≡ false) e u) in
            left ∙ ap f (sym e) ∙ sym (zero-add (f x)) ∙ sym (ap₂ (λ s b. s + cond b (f x) 0) right (eq-eqb k x (sym e)))
        step (inr n) =
            let left : mark (x ∷ xs) k ≡ mark xs k = ap (λ b. cond b (f k) 0) (is_listed-cons x xs k ∙ ap (λ b. b || is_listed xs k) (ne_eqb x k n)) in
            left ∙ sym (add-zero (mark xs k)) ∙ sym (ap (λ b. mark xs k + cond b (f x) 0) (ne_eqb k x (λ e. n (sym e))))

    masked : (xs : List ℕ) → HasNoRepeats xs → ((i x : ℕ) → slice_get xs i ≡ Some x → x < n) → sum_by f xs ≡ sum_below (mark xs) n
    masked [] h below = sym (sum_below_zero n)
    masked (x ∷ xs) h below =
        let u = is_listed_not xs x (no_repeats_head x xs h) in
        let ih = masked xs (no_repeats_tail x xs h) (λ i y g. below (suc i) y g) in
        let one = sum_below_one (mark xs) (mark (x ∷ xs)) n x (f x) (below 0 x refl) (λ k. more x xs k u) in
        sum_by-cons f x xs ∙ add_comm (f x) (sum_by f xs) ∙ ap (λ t. t + f x) ih ∙ sym one
