-- Lists of names, and what it means that a text has the form of a name.
use Rattle.std.proofs.Common.{◌≡◌, ◌<◌, ◌≤◌, ◌+◌, ℕ, zero, suc, List, [], ◌∷◌, Bool, true, false, length, get_or, map, arith, sym, ◌∙◌, refl, ap, Some, None, Option, is_some, position, rules, cond}
use Rattle.std.specs.Prelude.{bytes_eq, slice_get, IsUtf8, ◌&&◌, ◌||◌, nat_le, nat_lt, ◌==◌}
use Rattle.std.specs.List.{list_all, list_any, position_from, AllByRecursion, IsDistinct}
use Rattle.std.proofs.lemmas.Map.Keys.{IsDistinct-head, IsDistinct-tail}
use Rattle.std.proofs.lemmas.List.{get_or_past}
use Rattle.std.proofs.lemmas.List.Quantifiers.{position-Some}
use Rattle.std.proofs.lemmas.Iterator.Adapters.{position_from-zero}
use Rattle.std.proofs.lemmas.Str.{IsUtf8-from_ascii}
use Rattle.std.proofs.lemmas.Bool.{and_parts}
use Rattle.std.proofs.lemmas.Slice.Eq.{bytes_eq-Decides}
use Rattle.docket_names.specs.Words.{is_name, is_name_byte, is_number, is_digit, is_between}
use Rattle.docket_names.specs.Texts.{number_in, is_declared}
use Rattle.docket_names.specs.declared.name_key.TheConstants.{MAX_NAME}
use Rattle.docket_names.proofs.WordFacts.{list_all_true_at}

-- two texts that the comparison of bytes finds equal are equal
pub same_bytes : (xs ys : List ℕ) → bytes_eq xs ys ≡ true → xs ≡ ys
same_bytes xs ys e = (bytes_eq-Decides xs ys).0 e

pub bytes_eq-same : (xs : List ℕ) → bytes_eq xs xs ≡ true
bytes_eq-same xs = (bytes_eq-Decides xs xs).1 refl

-- if two tests pass, both together pass
pub and_both : (a b : Bool) → a ≡ true → b ≡ true → (a && b) ≡ true
and_both true true e f = refl
and_both true false e f = absurd (cc f)
and_both false b e f = absurd (cc e)

-- a search in a mapped list finds the position that a search with the mapped test finds in the list
-- itself
position_from-map : {A B : Type 0} (p : B → Bool) (f : A → B) (n : ℕ) (xs : List A) → position_from p n (map f xs) ≡ position_from (λ x. p (f x)) n xs
position_from-map p f n [] = refl
position_from-map p f n (x ∷ xs) = ap (λ o. cond (p (f x)) (Some n) o) (position_from-map p f (n + 1) xs)

pub position-map : {A B : Type 0} (p : B → Bool) (f : A → B) (xs : List A) → position p (map f xs) ≡ position (λ x. p (f x)) xs
position-map p f xs = position_from-zero p (map f xs) ∙ position_from-map p f 0 xs ∙ sym (position_from-zero (λ x. p (f x)) xs)

-- a search finds a position exactly if some item passes the test
is_some-position_from : {A : Type 0} (p : A → Bool) (n : ℕ) (xs : List A) → is_some (position_from p n xs) ≡ list_any p xs
is_some-position_from p n [] = refl
is_some-position_from p n (x ∷ xs) = by (p x) (is_some-position_from p (n + 1) xs)
  where
    by : (b : Bool) → is_some (position_from p (n + 1) xs) ≡ list_any p xs
        → is_some (cond b (Some n) (position_from p (n + 1) xs)) ≡ (b || list_any p xs)
    by true more = refl
    by false more = more

pub is_some-position : {A : Type 0} (p : A → Bool) (xs : List A) → is_some (position p xs) ≡ list_any p xs
is_some-position p xs = ap is_some (position_from-zero p xs) ∙ is_some-position_from p 0 xs

-- some item of a mapped list passes a test exactly if some item of the list passes it after it is mapped
pub list_any-map : {A B : Type 0} (p : B → Bool) (f : A → B) (xs : List A) → list_any p (map f xs) ≡ list_any (λ x. p (f x)) xs
list_any-map p f [] = refl
list_any-map p f (x ∷ xs) = ap (λ b. p (f x) || b) (list_any-map p f xs)

-- a name is declared exactly if it equals some name in the list of names
pub is_declared-any : (names : List (List ℕ)) (name : List ℕ) → is_declared names name ≡ list_any (bytes_eq name) names
unfolding number_in
is_declared-any names name = is_some-position (bytes_eq name) names

-- the number of a text among the texts of keys is the position of the first key with this text
pub number_in-map : {K : Type 0} (f : K → List ℕ) (keys : List K) (text : List ℕ) → number_in (map f keys) text ≡ position (λ k. bytes_eq text (f k)) keys
unfolding number_in
number_in-map f keys text = position-map (bytes_eq text) f keys

-- each byte that may stand in a name is ASCII
pub ascii_byte : (c : ℕ) → is_name_byte c ≡ true → c < 128
ascii_byte c h = by (nat_le 97 c && nat_le c 122) (nat_le 65 c && nat_le c 90) (nat_le 48 c && nat_le c 57) (c == 45) (c == 95) (c == 46) refl refl refl refl refl refl h
  where
    by : (l u d m w p : Bool) → (nat_le 97 c && nat_le c 122) ≡ l → (nat_le 65 c && nat_le c 90) ≡ u → (nat_le 48 c && nat_le c 57) ≡ d
        → (c == 45) ≡ m → (c == 95) ≡ w → (c == 46) ≡ p → (l || u || d || m || w || p) ≡ true → c < 128
    by true u d m w p el eu ed em ew ep e = le122 (and_parts (nat_le 97 c) (nat_le c 122) el).1
      where
        le122 : nat_le c 122 ≡ true → c < 128
        le122 q = search (rules, q)
    by false true d m w p el eu ed em ew ep e = le90 (and_parts (nat_le 65 c) (nat_le c 90) eu).1
      where
        le90 : nat_le c 90 ≡ true → c < 128
        le90 q = search (rules, q)
    by false false true m w p el eu ed em ew ep e = le57 (and_parts (nat_le 48 c) (nat_le c 57) ed).1
      where
        le57 : nat_le c 57 ≡ true → c < 128
        le57 q = search (rules, q)
    by false false false true w p el eu ed em ew ep e = search (rules, em)
    by false false false false true p el eu ed em ew ep e = search (rules, ew)
    by false false false false false true el eu ed em ew ep e = search (rules, ep)
    by false false false false false false el eu ed em ew ep e = absurd (cc e)

-- the bytes of a name are valid text
pub IsUtf8-is_name : (name : List ℕ) → is_name name ≡ true → IsUtf8 name
unfolding is_name
IsUtf8-is_name name h = IsUtf8-from_ascii name (λ i. at i (nat_lt i (length name)) refl)
  where
    bytes : list_all is_name_byte name ≡ true
    bytes = (and_parts (nat_le 1 (length name) && nat_le (length name) 32) (list_all is_name_byte name) h).1

    at : (i : ℕ) (b : Bool) → nat_lt i (length name) ≡ b → get_or name i 0 < 128
    at i true e = ascii_byte (get_or name i 0) (list_all_true_at is_name_byte name i 0 (search (rules, e)) bytes)
    at i false e = rw (get_or_past name i 0 (search (rules, e))) (omega arith)

-- each item in a list of names has the form of a name
pub name_at : (names : List (List ℕ)) (i : ℕ) (name : List ℕ) → list_all is_name names ≡ true → slice_get names i ≡ Some name → is_name name ≡ true
name_at [] i name all at = absurd (cc at)
name_at (x ∷ xs) zero name all at = let same : x ≡ name = cc at in rw (← same) (and_parts (is_name x) (list_all is_name xs) all).0
name_at (x ∷ xs) (suc i) name all at = name_at xs i name (and_parts (is_name x) (list_all is_name xs) all).1 at

-- a digit may stand in a name
digit_named : (l u d m w p : Bool) → d ≡ true → (l || u || d || m || w || p) ≡ true
digit_named true u d m w p e = refl
digit_named false true d m w p e = refl
digit_named false false true m w p e = refl
digit_named false false false m w p e = absurd (cc e)

digits_named : (text : List ℕ) → list_all is_digit text ≡ true → list_all is_name_byte text ≡ true
digits_named [] h = refl
digits_named (c ∷ text) h =
    let parts = and_parts (is_digit c) (list_all is_digit text) h in
    let first : is_name_byte c ≡ true = digit_named (is_between 97 122 c) (is_between 65 90 c) (is_digit c) (c == 45) (c == 95) (c == 46) parts.0 in
    and_both (is_name_byte c) (list_all is_name_byte text) first (digits_named text parts.1)

-- a text of 1 to 9 digits has the form of a name
pub number_is_name : (text : List ℕ) → is_number text ≡ true → is_name text ≡ true
unfolding is_number is_name
number_is_name text h =
    let parts = and_parts (nat_le 1 (length text) && nat_le (length text) 9) (list_all is_digit text) h in
    let sized = and_parts (nat_le 1 (length text)) (nat_le (length text) 9) parts.0 in
    let nine : length text ≤ 9 = search (rules, sized.1) in
    let low : length text ≤ 32 = omega arith in
    let few : nat_le (length text) 32 ≡ true = search (rules, low) in
    and_both (nat_le 1 (length text) && nat_le (length text) 32) (list_all is_name_byte text)
    (and_both (nat_le 1 (length text)) (nat_le (length text) 32) sized.0 few) (digits_named text parts.1)

-- a name has at most 32 bytes
pub name_length : (name : List ℕ) → is_name name ≡ true → length name ≤ 32
unfolding is_name
name_length name h =
    let sized = and_parts (nat_le 1 (length name) && nat_le (length name) 32) (list_all is_name_byte name) h in
    let few = (and_parts (nat_le 1 (length name)) (nat_le (length name) 32) sized.0).1 in
    search (rules, few)

-- a text of more than 32 bytes is not among the docket's texts
pub longer_unnumbered : (texts : List (List ℕ)) (text : List ℕ) → list_all is_name texts ≡ true → MAX_NAME < length text → number_in texts text ≡ None
unfolding number_in
longer_unnumbered texts text all h = by (position (bytes_eq text) texts) refl
  where
    by : (o : Option ℕ) → position (bytes_eq text) texts ≡ o → o ≡ None
    by None e = refl
    by (Some n) e =
        let found = position-Some (bytes_eq text) texts n [] e in
        let is = same_bytes text (get_or texts n []) found.1 in
        let few = name_length (get_or texts n []) (list_all_true_at is_name texts n [] found.0 all) in
        let size = ap length is in
        absurd (omega arith)

-- a name is among the texts of keys exactly if some key has this text
pub is_declared-map : {K : Type 0} (f : K → List ℕ) (keys : List K) (name : List ℕ) → is_declared (map f keys) name ≡ list_any (λ k. bytes_eq name (f k)) keys
is_declared-map f keys name = is_declared-any (map f keys) name ∙ list_any-map (bytes_eq name) f keys

-- if no name on a list equals x, the name at index i isn't x
apart : (x name : List ℕ) (names : List (List ℕ)) (i : ℕ) → AllByRecursion (λ y. bytes_eq x y ≡ false) names → slice_get names i ≡ Some name → bytes_eq x name ≡ false
apart x name [] i all at = absurd (cc at)
apart x name (y ∷ ys) zero all at = let same : y ≡ name = cc at in rw (← same) all.0
apart x name (y ∷ ys) (suc i) all at = apart x name ys i all.1 at

other_way : (x y : List ℕ) → bytes_eq x y ≡ false → bytes_eq y x ≡ false
other_way x y h = by (bytes_eq y x) refl
  where
    by : (b : Bool) → bytes_eq y x ≡ b → b ≡ false
    by true e = let back = (bytes_eq-Decides x y).1 (sym ((bytes_eq-Decides y x).0 e)) in absurd (cc (back, h))
    by false e = refl

distinct_from : (names : List (List ℕ)) (n i : ℕ) (name : List ℕ) → IsDistinct bytes_eq names → slice_get names i ≡ Some name → position_from (bytes_eq name) n names ≡ Some (n + i)
distinct_from [] n i name d at = absurd (cc at)
distinct_from (x ∷ xs) n zero name d at =
    let same : name ≡ x = cc at in
    let here : bytes_eq name x ≡ true = (bytes_eq-Decides name x).1 same in
    let count : n ≡ n + 0 = omega arith in
    rw here (ap Some count)
distinct_from (x ∷ xs) n (suc i) name d at =
    let off = other_way x name (apart x name xs i (IsDistinct-head bytes_eq x xs d) at) in
    let count : n + 1 + i ≡ n + suc i = omega arith in
    rw off (distinct_from xs (n + 1) i name (IsDistinct-tail bytes_eq x xs d) at ∙ ap Some count)

pub number_there : (names : List (List ℕ)) (i : ℕ) (name : List ℕ) → IsDistinct bytes_eq names → slice_get names i ≡ Some name → number_in names name ≡ Some i
unfolding number_in
number_there names i name d at =
    let count : 0 + i ≡ i = omega arith in
    position_from-zero (bytes_eq name) names ∙ distinct_from names 0 i name d at ∙ ap Some count
