-- Texts and lists of texts that grow by one member, or one item, more.
use Rattle.std.proofs.Common.{◌≡◌, ℕ, zero, suc, ◌+◌, ◌<◌, List, [], ◌∷◌, ◌++◌, length, map, take, get_or, refl, sym, ap, ◌∙◌, arith, append_assoc, append-nil, zero-add}
use Rattle.std.specs.Global.{Vec}
use Rattle.std.specs.List.{flat_map, range_with_len}
use Rattle.std.proofs.lemmas.Grind.{flat_map-append}
use Rattle.std.proofs.lemmas.List.{take_more}
use Rattle.std.proofs.lemmas.List.FromFn.{map-range_with_len_more}
use Rattle.records.specs.Lines.{Grows}
use Rattle.records.proofs.LineFacts.{grows_both}

range_next : (a n : ℕ) → range_with_len a (n + 1) ≡ range_with_len a n ++ (a + n) ∷ []
range_next a zero = let e : a + 0 ≡ a = omega arith in rw e
range_next a (suc n) =
    let longer : suc n + 1 ≡ suc (n + 1) = omega arith in
    let last : a + suc n ≡ a + 1 + n = omega arith in
    rw (longer, last) (ap (λ xs. a ∷ xs) (range_next (a + 1) n))

-- f's texts for the first n + 1 members are f's texts for the first n, followed by f's text for
-- member n
pub members_next : (f : ℕ → List ℕ) (n : ℕ) → flat_map f (range_with_len 0 (n + 1)) ≡ flat_map f (range_with_len 0 n) ++ f n
members_next f n = rw (range_next 0 n, zero-add n, flat_map-append f (range_with_len 0 n) (n ∷ []), append-nil) refl

-- a text that grew by f's texts for the first n members, and then by f's text for member n, grew by
-- f's texts for the first n + 1
pub grows_next : (f : ℕ → List ℕ) (a b c : Vec ℕ) (n : ℕ) → Grows a b (flat_map f (range_with_len 0 n)) → Grows b c (f n)
    → Grows a c (flat_map f (range_with_len 0 (n + 1)))
grows_next f a b c n h k = rw (members_next f n) (grows_both a b c _ _ h k)

-- f's texts for the first k + 1 items are f's texts for the first k, followed by f's text for the
-- next item
pub items_next : {A : Type 0} (f : A → List ℕ) (xs : List A) (k : ℕ) (x : A) → k < length xs → get_or xs k x ≡ x →
    flat_map f (take (k + 1) xs) ≡ flat_map f (take k xs) ++ f x
items_next f xs k x within here =
    ap (flat_map f) (take_more xs k x within)
    ∙ rw here (flat_map-append f (take k xs) (x ∷ []) ∙ ap (λ (rest : List ℕ). flat_map f (take k xs) ++ rest) (append-nil (f x)))

-- pushing the texts of the first n members, and then the text of member n, pushes the texts of the
-- first n + 1
pub pushed_next : (f : ℕ → List ℕ) (old mid new : List (List ℕ)) (n : ℕ) → mid ≡ old ++ map f (range_with_len 0 n) → new ≡ mid ++ f n ∷ []
    → new ≡ old ++ map f (range_with_len 0 (n + 1))
pushed_next f old mid new n h k =
    let more : map f (range_with_len 0 (n + 1)) ≡ map f (range_with_len 0 n) ++ f n ∷ [] = map-range_with_len_more f 0 n n (zero-add n) in
    k ∙ ap (λ (t : List (List ℕ)). t ++ f n ∷ []) h ∙ append_assoc old (map f (range_with_len 0 n)) (f n ∷ []) ∙ rw more refl

-- a text that grew by f's texts for the first k items, and then by f's text for the next, grew by
-- f's texts for the first k + 1
pub grows_item : {A : Type 0} (f : A → List ℕ) (a b c : Vec ℕ) (xs : List A) (k : ℕ) (x : A) → k < length xs → x ≡ get_or xs k x
    → Grows a b (flat_map f (take k xs)) → Grows b c (f x) → Grows a c (flat_map f (take (k + 1) xs))
grows_item f a b c xs k x within here h n = rw (items_next f xs k x within (sym here)) (grows_both a b c _ _ h n)

-- a text that grew by three texts, one after another, grew by the three together
pub grows_three : (a b c d : Vec ℕ) (x y z : List ℕ) → Grows a b x → Grows b c y → Grows c d z → Grows a d (x ++ (y ++ z))
grows_three a b c d x y z h k l = grows_both a b d x _ h (grows_both b c d y z k l)
