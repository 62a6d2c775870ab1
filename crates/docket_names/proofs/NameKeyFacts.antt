-- The keys of names: texts that are filled up with zeros to 32 bytes.
use Rattle.std.proofs.Common.{◌≡◌, ◌≤◌, ◌<◌, ◌-◌, ◌+◌, ℕ, zero, suc, List, [], ◌∷◌, ◌++◌, length, take, drop, replicate, get_or, arith, rules, Bool, true, false, refl, sym, ap, ◌∙◌}
use Rattle.std.proofs.lemmas.List.{length-drop, get_or-drop, take_all, take-append-drop}
use Rattle.std.specs.Prelude.{bytes_eq, ◌&&◌, nat_eq}
use Rattle.std.proofs.lemmas.Bool.{and_parts}
use Rattle.std.proofs.lemmas.Slice.Eq.{bytes_eq-Decides}
use Rattle.docket_names.specs.NameKeys.{filled, IsFilled}
use Rattle.docket_names.specs.declared.name_key.TheConstants.{MAX_NAME}

-- the first items of two joined lists, as many as the first list has, are the first list
take_front : (xs ys : List ℕ) → take (length xs) (xs ++ ys) ≡ xs
take_front [] ys = refl
take_front (x ∷ xs) ys = ap (λ (l : List ℕ). x ∷ l) (take_front xs ys)

-- a text followed by zeros up to 32 bytes is the filled-up text of the definition
pub filled_by : (text rest : List ℕ) → length text ≤ MAX_NAME → rest ≡ replicate (MAX_NAME - length text) 0 → IsFilled (length text) (text ++ rest)
unfolding filled
filled_by text rest few zeros = record { fits = few; filled_up = rw (take_front text rest) (ap (λ (l : List ℕ). text ++ l) zeros) }

-- the first eight items of a list with at least eight are the items at 0 to 7
pub first_eight : (b : List ℕ) → 8 ≤ length b
    → take 8 b ≡ get_or b 0 0 ∷ get_or b 1 0 ∷ get_or b 2 0 ∷ get_or b 3 0 ∷ get_or b 4 0 ∷ get_or b 5 0 ∷ get_or b 6 0 ∷ get_or b 7 0 ∷ []
first_eight [] h = absurd (omega arith)
first_eight (a ∷ []) h = absurd (omega arith)
first_eight (a ∷ b ∷ []) h = absurd (omega arith)
first_eight (a ∷ b ∷ c ∷ []) h = absurd (omega arith)
first_eight (a ∷ b ∷ c ∷ d ∷ []) h = absurd (omega arith)
first_eight (a ∷ b ∷ c ∷ d ∷ e ∷ []) h = absurd (omega arith)
first_eight (a ∷ b ∷ c ∷ d ∷ e ∷ f ∷ []) h = absurd (omega arith)
first_eight (a ∷ b ∷ c ∷ d ∷ e ∷ f ∷ g ∷ []) h = absurd (omega arith)
first_eight (a ∷ b ∷ c ∷ d ∷ e ∷ f ∷ g ∷ i ∷ rest) h = refl

-- if all items of a list are below 256, so are the items of its beginning
pub bounded_front : (b : List ℕ) (n i : ℕ) → ((k : ℕ) → get_or b k 0 < 256) → get_or (take n b) i 0 < 256
bounded_front b zero i f = omega arith
bounded_front [] (suc n) i f = omega arith
bounded_front (x ∷ xs) (suc n) zero f = f 0
bounded_front (x ∷ xs) (suc n) (suc i) f = bounded_front xs n i (λ k. f (suc k))

-- the first m items of the first n items are the first m items of the list
pub take_twice : (m n : ℕ) (xs : List ℕ) → m ≤ n → take m (take n xs) ≡ take m xs
take_twice zero n xs h = refl
take_twice (suc m) zero xs h = absurd (omega arith)
take_twice (suc m) (suc n) [] h = refl
take_twice (suc m) (suc n) (x ∷ xs) h = ap (λ (l : List ℕ). x ∷ l) (take_twice m n xs (omega arith))

-- two short texts with the same length and the same first word are equal
pub short_same : (m n : ℕ) (b c : List ℕ) → m ≡ n → m ≤ 8 → take 8 b ≡ take 8 c → take m b ≡ take n c
short_same m n b c sized few alike =
    sym (take_twice m 8 b few) ∙ ap (λ (l : List ℕ). take m l) alike ∙ take_twice m 8 c few ∙ ap (λ k. take k c) sized

-- the first eight bytes of a short text that is filled up
pub filled_eight : (b : List ℕ) → length b ≤ 8
    → take 8 (filled b) ≡ get_or b 0 0 ∷ get_or b 1 0 ∷ get_or b 2 0 ∷ get_or b 3 0 ∷ get_or b 4 0 ∷ get_or b 5 0 ∷ get_or b 6 0 ∷ get_or b 7 0 ∷ []
unfolding filled
filled_eight [] h = refl
filled_eight (a ∷ []) h = refl
filled_eight (a ∷ b ∷ []) h = refl
filled_eight (a ∷ b ∷ c ∷ []) h = refl
filled_eight (a ∷ b ∷ c ∷ d ∷ []) h = refl
filled_eight (a ∷ b ∷ c ∷ d ∷ e ∷ []) h = refl
filled_eight (a ∷ b ∷ c ∷ d ∷ e ∷ f ∷ []) h = refl
filled_eight (a ∷ b ∷ c ∷ d ∷ e ∷ f ∷ g ∷ []) h = refl
filled_eight (a ∷ b ∷ c ∷ d ∷ e ∷ f ∷ g ∷ i ∷ []) h = refl
filled_eight (a ∷ b ∷ c ∷ d ∷ e ∷ f ∷ g ∷ i ∷ j ∷ rest) h = absurd (omega arith)

-- the first eight bytes of a short text that is filled up begin with the whole text
pub filled_front : (b : List ℕ) → length b ≤ 8 → take (length b) (take 8 (filled b)) ≡ b
unfolding filled
filled_front b h = take_twice (length b) 8 (filled b) h ∙ take_front b (replicate (MAX_NAME - length b) 0)

-- a key with the length and the first eight bytes of a short text is the key of this text
pub short_is : (m : ℕ) (bytes text : List ℕ) → m ≡ length text → length text ≤ 8 → take 8 bytes ≡ take 8 (filled text) → take m bytes ≡ text
short_is m bytes text sized few alike =
    ap (λ k. take k bytes) sized ∙ sym (take_twice (length text) 8 bytes few) ∙ ap (λ (l : List ℕ). take (length text) l) alike ∙ filled_front text few

-- an empty text that is filled up with zeros begins with eight zeros
pub no_bytes : (text : List ℕ) → length text ≡ 0 → take 8 (filled text) ≡ replicate 8 0
unfolding filled
no_bytes [] h = refl
no_bytes (b ∷ text) h = absurd (omega (arith, h))

-- eight items of a list from item i on are the items at i to i + 7
pub eight_from : (b : List ℕ) (i : ℕ) → i + 8 ≤ length b
    → take 8 (drop i b) ≡ get_or b i 0 ∷ get_or b (i + 1) 0 ∷ get_or b (i + 2) 0 ∷ get_or b (i + 3) 0 ∷ get_or b (i + 4) 0 ∷ get_or b (i + 5) 0 ∷ get_or b (i + 6) 0 ∷ get_or b (i + 7) 0 ∷ []
eight_from b i h =
    let size = length-drop i b in
    let none : i + 0 ≡ i = omega arith in
    let eight = first_eight (drop i b) (omega arith) in
    eight ∙ simp (get_or-drop, none)

-- if all items of a list are below 256, so are the items of any part
pub bounded_part : (b : List ℕ) (i n k : ℕ) → ((j : ℕ) → get_or b j 0 < 256) → get_or (take n (drop i b)) k 0 < 256
bounded_part b i n k f = bounded_front (drop i b) n k (λ j. rw (get_or-drop i b j 0) (f (i + j)))

-- dropping m items and then n items drops m + n items
drop_more : (m n : ℕ) (b : List ℕ) → drop n (drop m b) ≡ drop (m + n) b
drop_more zero n b = ap (λ k. drop k b) (zero_more n)
  where
    zero_more : (k : ℕ) → k ≡ 0 + k
    zero_more k = omega arith
drop_more (suc m) n [] = none n ∙ sym (none (suc m + n))
  where
    none : (k : ℕ) → drop {A = ℕ} k [] ≡ []
    none zero = refl
    none (suc k) = refl
drop_more (suc m) n (x ∷ xs) = drop_more m n xs ∙ ap (λ k. drop k (x ∷ xs)) (one_more m n)
  where
    one_more : (k l : ℕ) → suc (k + l) ≡ suc k + l
    one_more k l = omega arith

-- the items from item i on are the first eight of them, then those from item i + 8 on
eight_more : (b : List ℕ) (i : ℕ) → drop i b ≡ take 8 (drop i b) ++ drop (i + 8) b
eight_more b i = sym (take-append-drop 8 (drop i b)) ∙ ap (λ (l : List ℕ). take 8 (drop i b) ++ l) (drop_more i 8 b)

-- a list of thirty-two items is four groups of eight items
four_eights : (b : List ℕ) → length b ≡ 32 → b ≡ take 8 (drop 0 b) ++ (take 8 (drop 8 b) ++ (take 8 (drop 16 b) ++ take 8 (drop 24 b)))
four_eights b h =
    let size = length-drop 24 b in
    let last : take 8 (drop 24 b) ≡ drop 24 b = take_all 8 (drop 24 b) (omega arith) in
    eight_more b 0
    ∙ ap (λ (l : List ℕ). take 8 (drop 0 b) ++ l) (eight_more b 8)
    ∙ ap (λ (l : List ℕ). take 8 (drop 0 b) ++ (take 8 (drop 8 b) ++ l)) (eight_more b 16)
    ∙ ap (λ (l : List ℕ). take 8 (drop 0 b) ++ (take 8 (drop 8 b) ++ (take 8 (drop 16 b) ++ l))) (sym last)

-- two lists of thirty-two items are equal if their four groups are equal
pub by_eights : (a b : List ℕ) → length a ≡ 32 → length b ≡ 32 → take 8 (drop 0 a) ≡ take 8 (drop 0 b) → take 8 (drop 8 a) ≡ take 8 (drop 8 b)
    → take 8 (drop 16 a) ≡ take 8 (drop 16 b) → take 8 (drop 24 a) ≡ take 8 (drop 24 b) → a ≡ b
by_eights a b m n e f g h = four_eights a m ∙ rw (e, f, g, h) (sym (four_eights b n))

-- if four numbers determine a list, two lists are equal exactly if their four numbers are
pub words_tell : (a b : List ℕ) (p q r s t u v w : ℕ) → (a ≡ b → (p ≡ t) × (q ≡ u) × (r ≡ v) × (s ≡ w))
    → (p ≡ t → q ≡ u → r ≡ v → s ≡ w → a ≡ b) → (((nat_eq p t && nat_eq q u) && nat_eq r v) && nat_eq s w) ≡ bytes_eq a b
words_tell a b p q r s t u v w apart together = by (((nat_eq p t && nat_eq q u) && nat_eq r v) && nat_eq s w) refl (bytes_eq a b) refl
  where
    same : (m n : ℕ) → m ≡ n → nat_eq m n ≡ true
    same m n e = search (rules, e)

    equal : (m n : ℕ) → nat_eq m n ≡ true → m ≡ n
    equal m n e = search (rules, e)

    by : (x : Bool) → (((nat_eq p t && nat_eq q u) && nat_eq r v) && nat_eq s w) ≡ x → (y : Bool) → bytes_eq a b ≡ y → x ≡ y
    by true e true f = refl
    by false e false f = refl
    by true e false f =
        let three = and_parts ((nat_eq p t && nat_eq q u) && nat_eq r v) (nat_eq s w) e in
        let two = and_parts (nat_eq p t && nat_eq q u) (nat_eq r v) three.0 in
        let one = and_parts (nat_eq p t) (nat_eq q u) two.0 in
        let alike = (bytes_eq-Decides a b).1 (together (equal p t one.0) (equal q u one.1) (equal r v two.1) (equal s w three.1)) in
        absurd (cc (alike, f))
    by false e true f =
        let all = apart ((bytes_eq-Decides a b).0 f) in
        let whole : (((nat_eq p t && nat_eq q u) && nat_eq r v) && nat_eq s w) ≡ true = rw (same p t all.0, same q u all.1, same r v all.2, same s w all.3) refl in
        absurd (cc (whole, e))
