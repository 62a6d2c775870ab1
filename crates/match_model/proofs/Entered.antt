-- For each number, the owners of the lists on which the number stands, as these owners are counted and entered.
use Rattle.std.proofs.Common.{◌≡◌, ℕ, ◌+◌, ◌-◌, ◌^◌, ◌<◌, ◌≤◌, Bool, true, false, cond, eqb, ltb, List, [], ◌∷◌, ◌++◌, length, get_or, set, take, replicate, map, Option, refl, sym, ap, ◌∙◌, subst, arith, not, ◌&&◌, ◌||◌, suc, zero, zero-add, ⊎_elim}
use Rattle.std.specs.Global.{Vec}
use Rattle.std.specs.Vec.{with_items}
use Rattle.std.specs.List.{All, filter, list_all, range_with_len, enumerate_from}
use Rattle.std.specs.List.Sorted.{IsNonDecreasing}
use Rattle.std.proofs.lemmas.List.Kept.{IsNonDecreasingBy-filter}
use Rattle.std.proofs.lemmas.Bool.{cases_lt, eqb-true, ltb-true, lt-ltb, and_parts, and_from}
use Rattle.std.proofs.lemmas.List.{length-map, get_or-map, length-replicate, get_or-replicate, length-set, get_or-set_other, get_or_past, get_or-take, length-take, take_more, take_more_set, take_all, length_push, append-nil, get_or_default, with_items_is}
use Rattle.std.proofs.lemmas.Grind.{get_or-set_at}
use Rattle.std.proofs.lemmas.List.FromFn.{length-range_with_len, get_or-range_with_len, length-enumerate_from, get_or-enumerate_from}
use Rattle.std.proofs.lemmas.List.Sums.{length-filter, count_by-le-length}
use Rattle.std.proofs.lemmas.List.Elements.{filter-append, filter_agree}
use Rattle.match_model.specs.Ranking.{is_listed}
use Rattle.match_model.specs.Instance.{list_at}
use Rattle.match_model.specs.Draft.{mutual_lists, lists_left, has_no_repeats}
use Rattle.match_model.specs.Owners.{owners_below, AreOwners, stepped, AreStepped, AreCounts, AreBegun, kept_lists, AreRows, AreCovered}
use Rattle.match_model.proofs.Mutual.{length-lists_left, length-mutual_lists, get_or-mutual_lists}
use Rattle.match_model.proofs.Rankings.{is_listed-cons, is_listed-append, is_listed_alone, is_listed-filter, is_listed_at, is_listed_nowhere, has_no_repeats-filter, HasNoRepeats-from_test}

-- the numbers from a on, with one more number at the end
range_more : (a n : ℕ) → range_with_len a (suc n) ≡ range_with_len a n ++ (a + n) ∷ []
range_more a zero = ap (λ (k : ℕ). k ∷ []) (omega arith)
range_more a (suc n) = ap (λ (ks : List ℕ). a ∷ ks) (range_more (a + 1) n) ∙ ap (λ (k : ℕ). a ∷ (range_with_len (a + 1) n ++ k ∷ [])) (omega arith)

-- a row of owners, with this owner added if the number is on the owner's list
abbrev with_owner : ℕ → Bool → List ℕ → List ℕ
with_owner owner true row = row ++ owner ∷ []
with_owner owner false row = row

-- the owners of a number among the first n + 1 lists are those among the first n lists, and owner n if list n has the
-- number
owners_more : (n : ℕ) (lists : List (List ℕ)) (x : ℕ) → owners_below (n + 1) lists x ≡ with_owner n (is_listed (list_at lists n) x) (owners_below n lists x)
owners_more n lists x =
    let q : ℕ → Bool = λ owner. is_listed (list_at lists owner) x in
    let e : n + 1 ≡ suc n = omega arith in
    ap (λ (k : ℕ). filter q (range_with_len 0 k)) e ∙ ap (filter q) (range_more 0 n) ∙ filter-append q (range_with_len 0 n) ((0 + n) ∷ [])
    ∙ ap (λ (k : ℕ). filter q (range_with_len 0 n) ++ filter q (k ∷ [])) (zero-add n)
    ∙ step (q n) (filter q (range_with_len 0 n))
  where
    step : (b : Bool) (row : List ℕ) → row ++ cond b (n ∷ []) [] ≡ with_owner n b row
    step true row = refl
    step false row = append-nil row

-- a row is longer by one if the owner is added, and else as long as before
length-with_owner : (owner : ℕ) (b : Bool) (row : List ℕ) → length (with_owner owner b row) ≡ stepped (λ n. n + 1) b (length row)
length-with_owner owner true row = length_push row owner
length-with_owner owner false row = refl

-- at most n owners are among the first n lists
pub owners_few : (n : ℕ) (lists : List (List ℕ)) (x : ℕ) → length (owners_below n lists x) ≤ n
owners_few n lists x =
    let q : ℕ → Bool = λ owner. is_listed (list_at lists owner) x in
    omega (arith, length-filter q (range_with_len 0 n), count_by-le-length q (range_with_len 0 n), length-range_with_len 0 n)

-- a number has at most as many owners among the first n lists as among the first n + k lists
owners_le : (n k : ℕ) (lists : List (List ℕ)) (x : ℕ) → length (owners_below n lists x) ≤ length (owners_below (n + k) lists x)
owners_le n zero lists x = let e : n + 0 ≡ n = omega arith in let same = ap (λ (m : ℕ). length (owners_below m lists x)) e in omega arith
owners_le n (suc k) lists x =
    let e : n + suc k ≡ (n + k) + 1 = omega arith in
    let same = ap (λ (m : ℕ). length (owners_below m lists x)) e ∙ ap (λ (row : List ℕ). length row) (owners_more (n + k) lists x) in
    let fewer = grown (n + k) (is_listed (list_at lists (n + k)) x) (owners_below (n + k) lists x) in
    let rest = owners_le n k lists x in
    omega arith
  where
    grown : (owner : ℕ) (b : Bool) (row : List ℕ) → length row ≤ length (with_owner owner b row)
    grown owner true row = omega (arith, length_push row owner)
    grown owner false row = omega arith

-- before an owner is entered, the row of the number has room for this owner
pub owners_room : (n all : ℕ) (lists : List (List ℕ)) (x : ℕ) → n < all → is_listed (list_at lists n) x ≡ true → length (owners_below n lists x) < length (owners_below all lists x)
owners_room n all lists x h e =
    let on : n + 1 + (all - (n + 1)) ≡ all = omega arith in
    let same = ap (λ (m : ℕ). length (owners_below m lists x)) on in
    let le = owners_le (n + 1) (all - (n + 1)) lists x in
    let more : length (owners_below (n + 1) lists x) ≡ length (owners_below n lists x) + 1 =
    ap (λ (row : List ℕ). length row) (owners_more n lists x ∙ ap (λ b. with_owner n b (owners_below n lists x)) e) ∙ length_push (owners_below n lists x) n in
    omega arith

module _ {T : Type 0} (none : T) (step : ℕ → T → T) where
  -- before any item of a list is looked at, nothing has changed
  pub AreStepped-none : (before : List T) → AreStepped none step [] before before
  AreStepped-none before = record { one_each = refl; item = λ x h. refl }

  -- a number that isn't on the list keeps its entry unchanged
  pub AreStepped-unlisted : (list : List ℕ) (before after : List T) (x : ℕ) → AreStepped none step list before after → x < length before → is_listed list x ≡ false → get_or after x none ≡ get_or before x none
  AreStepped-unlisted list before after x a h e = a.item x h ∙ ap (λ b. stepped (step x) b (get_or before x none)) e

  -- one more item of the list changes the entry of its own number only
  pub AreStepped-more : (list : List ℕ) (i : ℕ) (before after : List T) → i < length list → is_listed (take i list) (get_or list i 0) ≡ false → get_or list i 0 < length before →
      AreStepped none step (take i list) before after → AreStepped none step (take (i + 1) list) before (set after (get_or list i 0) (step (get_or list i 0) (get_or after (get_or list i 0) none)))
  AreStepped-more list i before after h new below a = record {
    one_each = length-set after x (step x (get_or after x none)) ∙ a.one_each;
    item = λ q k. at q k (eqb x q) refl ∙ ap (λ b. stepped (step q) b (get_or before q none)) (sym (listed q));
  }
    where
      x : ℕ
      x = get_or list i 0

      listed : (q : ℕ) → is_listed (take (i + 1) list) q ≡ is_listed (take i list) q || eqb x q
      listed q = ap (λ (xs : List ℕ). is_listed xs q) (take_more list i 0 h) ∙ is_listed-append (take i list) (x ∷ []) q ∙ ap (λ b. is_listed (take i list) q || b) (is_listed_alone x q)

      keep : (b : Bool) → b ≡ b || false
      keep true = refl
      keep false = refl

      at : (q : ℕ) → q < length before → (e : Bool) → eqb x q ≡ e → get_or (set after x (step x (get_or after x none))) q none ≡ stepped (step q) (is_listed (take i list) q || eqb x q) (get_or before q none)
      at q k true e =
          let same : x ≡ q = eqb-true x q e in
          let unlisted : is_listed (take i list) q ≡ false = ap (is_listed (take i list)) (sym same) ∙ new in
          get_or-set_at after x q (step x (get_or after x none)) none (sym same) (omega (arith, a.one_each))
          ∙ ap (λ (j : ℕ). step j (get_or after j none)) same
          ∙ ap (λ (item : T). step q item) (a.item q k ∙ ap (λ b. stepped (step q) b (get_or before q none)) unlisted)
          ∙ sym (ap (λ b. stepped (step q) (b || eqb x q) (get_or before q none)) unlisted ∙ ap (λ b. stepped (step q) b (get_or before q none)) e)
      at q k false e =
          get_or-set_other after x q (step x (get_or after x none)) none (apart e) ∙ a.item q k
          ∙ ap (λ b. stepped (step q) b (get_or before q none)) (keep (is_listed (take i list) q) ∙ ap (λ b. is_listed (take i list) q || b) (sym e))
        where
          apart : eqb x q ≡ false → q ≡ x → ⊥
          apart e s = grind arith

-- before any list is counted, all counts are 0
pub AreCounts-none : (count : ℕ) (lists : List (List ℕ)) → AreCounts count 0 lists (replicate count 0)
AreCounts-none count lists = record {
  one_each = length-replicate count 0;
  number = λ x h. get_or-replicate count x 0 0 h;
}

-- after one more list is counted, the counts are right for this list too
pub AreCounts-more : (count n : ℕ) (lists : List (List ℕ)) (before after : List ℕ) → AreCounts count n lists before → AreStepped 0 (λ _ k. k + 1) (list_at lists n) before after → AreCounts count (n + 1) lists after
AreCounts-more count n lists before after a e = record {
  one_each = e.one_each ∙ a.one_each;
  number = λ x h. e.item x (omega (arith, a.one_each)) ∙ ap (stepped (λ k. k + 1) (is_listed (list_at lists n) x)) (a.number x h)
      ∙ sym (ap (λ (row : List ℕ). length row) (owners_more n lists x) ∙ length-with_owner n (is_listed (list_at lists n) x) (owners_below n lists x));
}

-- a number has fewer than 2^32 owners if there are fewer than 2^32 lists
pub counts_few : (count n : ℕ) (lists : List (List ℕ)) (counts before : List ℕ) → before ≡ counts → AreCounts count n lists counts → n < 2 ^ 32 → (x : ℕ) → x < length before → get_or before x 0 < 2 ^ 32
counts_few count n lists counts before e a few x h =
    let number = a.number x (omega (arith, h, ap (λ (ns : List ℕ). length ns) e, a.one_each)) in
    let here = ap (λ (ns : List ℕ). get_or ns x 0) e in
    omega (arith, number, here, owners_few n lists x, few)

-- after one more list is counted in a vector, the vector has the right counts
pub counts_more : (count n : ℕ) (lists : List (List ℕ)) (list : List ℕ) (counts : Vec ℕ) (before after : List ℕ) → list ≡ list_at lists n → before ≡ counts.items → length before ≡ counts.len
    → AreStepped 0 (λ _ k. k + 1) list before after → AreCounts count n lists counts.items → AreCounts count (n + 1) lists (with_items counts after).items
counts_more count n lists list counts before after same e len stepped a =
    let step : ℕ → ℕ → ℕ = λ _ k. k + 1 in
    let counted = subst (λ (ns : List ℕ). AreStepped 0 step (list_at lists n) ns after) e (subst (λ (items : List ℕ). AreStepped 0 step items before after) same stepped) in
    subst (AreCounts count (n + 1) lists) (sym (with_items_is counts after (stepped.one_each ∙ len))) (AreCounts-more count n lists counts.items after a counted)

-- before any owner is entered, the rows have the right lengths
pub AreBegun-none : (count all : ℕ) (lists rows : List (List ℕ)) (lengths counts : List ℕ) → AreCounts count all lists lengths → rows ≡ map (λ n. replicate n 0) lengths → counts ≡ replicate count 0 → AreBegun count all 0 lists rows counts
AreBegun-none count all lists rows lengths counts a e z = record {
  one_each = ap (λ (rs : List (List ℕ)). length rs) e ∙ length-map lengths (λ n. replicate n 0) ∙ a.one_each;
  counted = subst (AreCounts count 0 lists) (sym z) (AreCounts-none count lists);
  room = λ x h. ap (λ (rs : List (List ℕ)). length (list_at rs x)) e
      ∙ ap (λ (row : List ℕ). length row) (get_or-map (λ n. replicate n 0) lengths x 0 [] (omega (arith, a.one_each)))
      ∙ length-replicate (get_or lengths x 0) 0 ∙ a.number x h;
  first = λ x h. refl;
}

-- after one more owner is entered, the rows are right for this owner too
pub AreBegun-more : (count all n : ℕ) (lists before after : List (List ℕ)) (counts more : List ℕ) → n < all → AreBegun count all n lists before counts →
    AreStepped [] (λ x row. set row (get_or counts x 0) n) (list_at lists n) before after → AreStepped 0 (λ _ k. k + 1) (list_at lists n) counts more → AreBegun count all (n + 1) lists after more
AreBegun-more count all n lists before after counts more l a e d = record {
  one_each = e.one_each ∙ a.one_each;
  counted = AreCounts-more count n lists counts more a.counted d;
  room = λ x h. ap (λ (row : List ℕ). length row) (e.item x (omega (arith, a.one_each))) ∙ same_length (is_listed (list_at lists n) x) (get_or counts x 0) (list_at before x) ∙ a.room x h;
  first = λ x h.
      let number = a.counted.number x h in
      let many = a.room x h in
      ap (λ (row : List ℕ). take (length (owners_below (n + 1) lists x)) row) (e.item x (omega (arith, a.one_each)))
      ∙ ap (λ (k : ℕ). take (length (owners_below (n + 1) lists x)) (stepped (λ row. set row k n) (is_listed (list_at lists n) x) (list_at before x))) number
      ∙ ap (λ (row : List ℕ). take (length row) (stepped (λ row. set row (length (owners_below n lists x)) n) (is_listed (list_at lists n) x) (list_at before x))) (owners_more n lists x)
      ∙ taken (is_listed (list_at lists n) x) (list_at before x) (owners_below n lists x) (a.first x h) (λ t. let room = owners_room n all lists x l t in omega arith)
      ∙ sym (owners_more n lists x);
}
  where
    same_length : (b : Bool) (k : ℕ) (row : List ℕ) → length (stepped (λ r. set r k n) b row) ≡ length row
    same_length true k row = length-set row k n
    same_length false k row = refl

    taken : (b : Bool) (row owners : List ℕ) → take (length owners) row ≡ owners → (b ≡ true → length owners < length row) → take (length (with_owner n b owners)) (stepped (λ r. set r (length owners) n) b row) ≡ with_owner n b owners
    taken true row owners h room =
        ap (λ (k : ℕ). take k (set row (length owners) n)) (length_push owners n) ∙ take_more_set row (length owners) n (room refl) ∙ ap (λ (xs : List ℕ). xs ++ n ∷ []) h
    taken false row owners h room = h

-- after all owners are entered, each row has exactly the owners of its number
pub AreOwners-begun : (count all : ℕ) (lists rows : List (List ℕ)) (counts : List ℕ) → AreBegun count all all lists rows counts → AreOwners count all lists rows
AreOwners-begun count all lists rows counts a = record {
  one_each = a.one_each;
  row = λ x h. sym (take_all (length (owners_below all lists x)) (list_at rows x) (let many = a.room x h in omega arith)) ∙ a.first x h;
}

-- in a list without repeats, no item also stands earlier in the list
pub new_item : (list : List ℕ) (i : ℕ) → has_no_repeats list ≡ true → i < length list → is_listed (take i list) (get_or list i 0) ≡ false
new_item list i distinct h =
    is_listed_nowhere (take i list) (get_or list i 0) (λ k l e.
    let n = length-take i list in
    HasNoRepeats-from_test list distinct k i 0 (omega arith) h (sym (get_or-take i list k 0 (omega arith)) ∙ e))

-- a number on a list is below n if all items of the list are below n
pub is_listed_below : (n : ℕ) (xs : List ℕ) (x : ℕ) → list_all (λ y. ltb y n) xs ≡ true → is_listed xs x ≡ true → x < n
is_listed_below n [] x a e = cc
is_listed_below n (y ∷ ys) x a e =
    let part = and_parts (ltb y n) (list_all (λ z. ltb z n) ys) a in
    step (eqb y x) refl (sym (is_listed-cons y ys x) ∙ e) (ltb-true y n part.0) (λ h. is_listed_below n ys x part.1 h)
  where
    step : (b : Bool) → eqb y x ≡ b → b || is_listed ys x ≡ true → y < n → (is_listed ys x ≡ true → x < n) → x < n
    step true same h l rest = let s = eqb-true y x same in omega arith
    step false same h l rest = rest h

-- a number below n stands in the list of the first n numbers
listed_in_range : (n x : ℕ) → x < n → is_listed (range_with_len 0 n) x ≡ true
listed_in_range n x h = is_listed_at (range_with_len 0 n) x x (omega (arith, length-range_with_len 0 n)) (get_or-range_with_len 0 n x 0 h ∙ zero-add x)

range_distinct : (a n : ℕ) → has_no_repeats (range_with_len a n) ≡ true
range_distinct a zero = refl
range_distinct a (suc n) =
    let new : is_listed (range_with_len (a + 1) n) a ≡ false =
    is_listed_nowhere (range_with_len (a + 1) n) a (λ k l e.
    let within : k < n = omega (arith, length-range_with_len (a + 1) n) in
    let at = get_or-range_with_len (a + 1) n k 0 within in
    absurd (omega arith)) in
    ap (λ b. not b && has_no_repeats (range_with_len (a + 1) n)) new ∙ range_distinct (a + 1) n

range_below : (a k n : ℕ) → a + k ≤ n → list_all (λ x. ltb x n) (range_with_len a k) ≡ true
range_below a zero n h = refl
range_below a (suc k) n h = and_from (ltb a n) (list_all (λ x. ltb x n) (range_with_len (a + 1) k)) (lt-ltb a n (omega arith)) (range_below (a + 1) k n (omega arith))

range_rises : (n : ℕ) → IsNonDecreasing (range_with_len 0 n)
range_rises n = λ i j d l h.
    let many = length-range_with_len 0 n in
    let low = get_or-range_with_len 0 n i d (omega arith) in
    let high = get_or-range_with_len 0 n j d (omega arith) in
    omega arith

-- if all items of a list have a property, all items that a filter leaves have it
list_all-filter : (p q : ℕ → Bool) (xs : List ℕ) → list_all p xs ≡ true → list_all p (filter q xs) ≡ true
list_all-filter p q [] h = refl
list_all-filter p q (x ∷ xs) h = let part = and_parts (p x) (list_all p xs) h in step (q x) part.0 (list_all-filter p q xs part.1)
  where
    step : (b : Bool) → p x ≡ true → list_all p (filter q xs) ≡ true → list_all p (cond b (x ∷ filter q xs) (filter q xs)) ≡ true
    step true e ih = and_from (p x) (list_all p (filter q xs)) e ih
    step false e ih = ih

-- x is among the owners of number o exactly if o stands on the list of x
pub owners_listed : (lists : List (List ℕ)) (o x : ℕ) → is_listed (owners_below (length lists) lists o) x ≡ is_listed (list_at lists x) o
owners_listed lists o x =
    is_listed-filter (λ owner. is_listed (list_at lists owner) o) (range_with_len 0 (length lists)) x
    ∙ ⊎_elim
    (λ (h : x < length lists). ap (λ b. b && is_listed (list_at lists x) o) (listed_in_range (length lists) x h))
    (λ (h : length lists ≤ x).
    let none : is_listed (list_at lists x) o ≡ false = ap (λ (xs : List ℕ). is_listed xs o) (get_or_past lists x [] h) in
    ap (λ b. is_listed (range_with_len 0 (length lists)) x && b) none ∙ absorb (is_listed (range_with_len 0 (length lists)) x) ∙ sym none)
    (cases_lt x (length lists))
  where
    absorb : (b : Bool) → b && false ≡ false
    absorb true = refl
    absorb false = refl

-- the rows of owners are sorted rows without repeats
pub AreRows-owners : (count n : ℕ) (lists rows : List (List ℕ)) → AreOwners count n lists rows → AreRows count n rows
AreRows-owners count n lists rows a = record {
  one_each = a.one_each;
  below = λ i d h. subst (λ (row : List ℕ). list_all (λ x. ltb x n) row ≡ true) (sym (a.row i (omega (arith, a.one_each))) ∙ get_or_default rows i [] d h)
      (list_all-filter (λ x. ltb x n) (λ owner. is_listed (list_at lists owner) i) (range_with_len 0 n) (range_below 0 n n (omega arith)));
  distinct = λ i d h. subst (λ (row : List ℕ). has_no_repeats row ≡ true) (sym (a.row i (omega (arith, a.one_each))) ∙ get_or_default rows i [] d h)
      (has_no_repeats-filter (λ owner. is_listed (list_at lists owner) i) (range_with_len 0 n) (range_distinct 0 n));
  rising = λ i d h. subst IsNonDecreasing (sym (a.row i (omega (arith, a.one_each))) ∙ get_or_default rows i [] d h)
      (IsNonDecreasingBy-filter (λ x. x) (λ owner. is_listed (list_at lists owner) i) (range_with_len 0 n) (range_rises n));
}

-- the items of the lists that also stand in the owners' rows are exactly the mutual lists
kept_from : (n k : ℕ) (mine theirs rows : List (List ℕ)) → AreOwners n (length theirs) theirs rows → k + length mine ≤ n →
    map (λ (owned : ℕ × List ℕ). filter (λ x. is_listed (list_at rows owned.0) x) owned.1) (enumerate_from k mine)
    ≡ map (λ (owned : ℕ × List ℕ). filter (λ x. is_listed (list_at theirs x) owned.0) owned.1) (enumerate_from k mine)
kept_from n k [] theirs rows h most = refl
kept_from n k (l ∷ ls) theirs rows h most =
    let head = filter_agree (λ x. is_listed (list_at rows k) x) (λ x. is_listed (list_at theirs x) k) (λ x. ap (λ (row : List ℕ). is_listed row x) (h.row k (omega arith)) ∙ owners_listed theirs k x) l in
    let tail = kept_from n (k + 1) ls theirs rows h (omega arith) in
    λ i. head i ∷ tail i

pub kept_are_mutual : (mine theirs rows : List (List ℕ)) → AreOwners (length mine) (length theirs) theirs rows → kept_lists mine rows ≡ mutual_lists mine theirs
unfolding mutual_lists kept_lists
kept_are_mutual mine theirs rows h = kept_from (length mine) 0 mine theirs rows h (omega arith)

-- lists as they were given, filtered by the rows of owners, are the mutual lists
pub made_is : (mine theirs : List (Option (List ℕ))) (my_flags their_flags : List Bool) (rows : List (List ℕ)) → AreOwners (length mine) (length theirs) (lists_left theirs their_flags) rows →
    kept_lists (lists_left mine my_flags) rows ≡ mutual_lists (lists_left mine my_flags) (lists_left theirs their_flags)
made_is mine theirs my_flags their_flags rows h =
    kept_are_mutual (lists_left mine my_flags) (lists_left theirs their_flags) rows
    (subst (λ n. AreOwners n (length (lists_left theirs their_flags)) (lists_left theirs their_flags) rows) (sym (length-lists_left mine my_flags))
    (subst (λ n. AreOwners (length mine) n (lists_left theirs their_flags) rows) (sym (length-lists_left theirs their_flags)) h))

-- there are as many filtered lists as lists
pub length-kept_lists : (lists rows : List (List ℕ)) → length (kept_lists lists rows) ≡ length lists
unfolding kept_lists
length-kept_lists lists rows = length-map (enumerate_from 0 lists) (λ (owned : ℕ × List ℕ). filter (λ x. is_listed (list_at rows owned.0) x) owned.1) ∙ length-enumerate_from 0 lists

-- the items of a list that also stand in the row of the list's owner
abbrev kept_of : List (List ℕ) → ℕ × List ℕ → List ℕ
kept_of rows owned = filter (λ x. is_listed (list_at rows owned.0) x) owned.1

pub get_or-kept_lists : (lists rows : List (List ℕ)) (i : ℕ) → i < length lists → get_or (kept_lists lists rows) i [] ≡ filter (λ x. is_listed (list_at rows i) x) (list_at lists i)
unfolding kept_lists
get_or-kept_lists lists rows i h =
    get_or-map (kept_of rows) (enumerate_from 0 lists) i (0, []) [] (omega (arith, length-enumerate_from 0 lists))
    ∙ ap (kept_of rows) (get_or-enumerate_from 0 lists i (0, []) h) ∙ ap (λ n. kept_of rows (n, get_or lists i [])) (zero-add i)

-- mutual lists have only items below n and no repeats, if the lists have
pub mutual_below : (mine theirs : List (List ℕ)) (n : ℕ) → All (λ list. list_all (λ x. ltb x n) list ≡ true) mine → All (λ list. list_all (λ x. ltb x n) list ≡ true) (mutual_lists mine theirs)
mutual_below mine theirs n a = λ i d h.
    let within : i < length mine = omega (arith, length-mutual_lists mine theirs) in
    subst (λ (list : List ℕ). list_all (λ x. ltb x n) list ≡ true) (sym (get_or-mutual_lists mine theirs i within) ∙ get_or_default (mutual_lists mine theirs) i [] d h)
    (list_all-filter (λ x. ltb x n) (λ x. is_listed (list_at theirs x) i) (list_at mine i) (a i [] within))

pub mutual_distinct : (mine theirs : List (List ℕ)) → All (λ list. has_no_repeats list ≡ true) mine → All (λ list. has_no_repeats list ≡ true) (mutual_lists mine theirs)
mutual_distinct mine theirs a = λ i d h.
    let within : i < length mine = omega (arith, length-mutual_lists mine theirs) in
    subst (λ (list : List ℕ). has_no_repeats list ≡ true) (sym (get_or-mutual_lists mine theirs i within) ∙ get_or_default (mutual_lists mine theirs) i [] d h)
    (has_no_repeats-filter (λ x. is_listed (list_at theirs x) i) (list_at mine i) (a i [] within))

pub kept_covered : (lists rows : List (List ℕ)) → AreCovered (kept_lists lists rows) rows
kept_covered lists rows = λ i x e. ⊎_elim
    (λ (h : i < length lists).
    (and_parts (is_listed (list_at lists i) x) (is_listed (list_at rows i) x)
    (sym (is_listed-filter (λ y. is_listed (list_at rows i) y) (list_at lists i) x) ∙ sym (ap (λ (list : List ℕ). is_listed list x) (get_or-kept_lists lists rows i h)) ∙ e)).1)
    (λ (h : length lists ≤ i).
    let none : is_listed (list_at (kept_lists lists rows) i) x ≡ false = ap (λ (list : List ℕ). is_listed list x) (get_or_past (kept_lists lists rows) i [] (omega (arith, length-kept_lists lists rows))) in
    absurd (true≢false (sym e ∙ none)))
    (cases_lt i (length lists))
  where
    true≢false : true ≡ false → ⊥
    true≢false h = cc

-- each row of owners has only items below n and is sorted
pub row_below : (rows : List (List ℕ)) (count n i : ℕ) → AreRows count n rows → i < count → list_all (λ x. ltb x n) (list_at rows i) ≡ true
row_below rows count n i a h = let same = a.one_each in a.below i [] (omega arith)

pub row_distinct : (rows : List (List ℕ)) (count n i : ℕ) → AreRows count n rows → i < count → has_no_repeats (list_at rows i) ≡ true
row_distinct rows count n i a h = let same = a.one_each in a.distinct i [] (omega arith)
