-- Texts that grow by one item after another.
use Rattle.std.proofs.Common.{◌≡◌, ℕ, zero, suc, ◌+◌, ◌<◌, List, [], ◌∷◌, ◌++◌, length, map, take, get_or, refl, sym, ap, ◌∙◌, arith, append_assoc, append-nil, zero-add, ◌≤◌, take_all}
use Rattle.std.specs.Global.{Vec}
use Rattle.std.specs.List.{flat_map, range_with_len}
use Rattle.std.proofs.lemmas.Grind.{flat_map-append}
use Rattle.std.proofs.lemmas.List.{take_more, get_or-map, get_or_default, map_push}
use Rattle.receipt_check.specs.Rows.{Cells, Grows, text_at, line, lines}
use Rattle.receipt_check.specs.Receipt.{member_row}

pub grows_none : (a : Vec ℕ) → Grows a a []
grows_none a = sym (append-nil a.items)

-- a text that grew by x and then by y grew by x and y together
pub grows_both : (a b c : Vec ℕ) (x y : List ℕ) → Grows a b x → Grows b c y → Grows a c (x ++ y)
grows_both a b c x y h k = k ∙ ap (λ (t : List ℕ). t ++ y) h ∙ append_assoc a.items x y

-- a text that grew by x, then by y, then by z grew by the three together
pub grows_three : (a b c d : Vec ℕ) (x y z : List ℕ) → Grows a b x → Grows b c y → Grows c d z → Grows a d (x ++ (y ++ z))
grows_three a b c d x y z h k l = grows_both a b d x _ h (grows_both b c d y z k l)

-- a text that grew by w, then by x, then by y, then by z grew by the four together
pub grows_four : (a b c d e : Vec ℕ) (w x y z : List ℕ) → Grows a b w → Grows b c x → Grows c d y → Grows d e z → Grows a e (w ++ (x ++ (y ++ z)))
grows_four a b c d e w x y z h k l m = grows_both a b e w _ h (grows_three b c d e x y z k l m)

pub range_next : (a n : ℕ) → range_with_len a (n + 1) ≡ range_with_len a n ++ (a + n) ∷ []
range_next a zero = let e : a + 0 ≡ a = omega arith in rw e
range_next a (suc n) =
    let longer : suc n + 1 ≡ suc (n + 1) = omega arith in
    let last : a + suc n ≡ a + 1 + n = omega arith in
    rw (longer, last) (ap (λ xs. a ∷ xs) (range_next (a + 1) n))

-- a text that grew by f's texts for the numbers below n, and then by f's text for n, grew by f's
-- texts for the numbers below n + 1
pub grows_next : (f : ℕ → List ℕ) (a b c : Vec ℕ) (n : ℕ) → Grows a b (flat_map f (range_with_len 0 n)) → Grows b c (f n)
    → Grows a c (flat_map f (range_with_len 0 (n + 1)))
grows_next f a b c n h k =
    let more : flat_map f (range_with_len 0 (n + 1)) ≡ flat_map f (range_with_len 0 n) ++ f n =
    rw (range_next 0 n, zero-add n, flat_map-append f (range_with_len 0 n) (n ∷ []), append-nil) refl in
    rw more (grows_both a b c _ _ h k)

-- a text that grew by f's texts for the first k items, and then by f's text for the next, grew by
-- f's texts for the first k + 1
pub grows_item : {A : Type 0} (f : A → List ℕ) (a b c : Vec ℕ) (xs : List A) (k : ℕ) (x : A) → k < length xs → get_or xs k x ≡ x
    → Grows a b (flat_map f (take k xs)) → Grows b c (f x) → Grows a c (flat_map f (take (k + 1) xs))
grows_item f a b c xs k x within here h n =
    let more : flat_map f (take (k + 1) xs) ≡ flat_map f (take k xs) ++ f x =
    ap (flat_map f) (take_more xs k x within)
    ∙ rw here (flat_map-append f (take k xs) (x ∷ []) ∙ ap (λ (rest : List ℕ). flat_map f (take k xs) ++ rest) (append-nil (f x))) in
    rw more (grows_both a b c _ _ h n)

-- the lines of rows that are made of items are the line of each item's row, one after another
pub lines_map : {A : Type 0} (f : A → Cells) (xs : List A) → lines (map f xs) ≡ flat_map (λ x. line (f x)) xs
lines_map f [] = refl
lines_map f (x ∷ xs) = ap (λ (rest : List ℕ). line (f x) ++ rest) (lines_map f xs)

-- the item at place k of a mapped list is f of the list's item at place k
pub there : {A B : Type 0} (f : A → B) (xs : List A) (k : ℕ) (x : A) (d : B) → k < length xs → x ≡ get_or xs k x → get_or (map f xs) k d ≡ f x
there f xs k x d within here = get_or-map f xs k x d within ∙ ap f (sym here)

-- a text that grew by f's texts for the first k items, and then by f's text for item k, grew by f's
-- texts for the first k + 1
pub grows_at : {A : Type 0} (f : A → List ℕ) (a b c : Vec ℕ) (xs : List A) (k : ℕ) (d : A) → k < length xs
    → Grows a b (flat_map f (take k xs)) → Grows b c (f (get_or xs k d)) → Grows a c (flat_map f (take (k + 1) xs))
grows_at f a b c xs k d within h n = grows_item f a b c xs k (get_or xs k d) within (get_or_default xs k (get_or xs k d) d within) h n

-- if there are at most k items, a text that grew by f's texts for the first k items grew by f's
-- texts for all items
pub grown_all : {A : Type 0} (f : A → List ℕ) (a b : Vec ℕ) (xs : List A) (k : ℕ) → length xs ≤ k → Grows a b (flat_map f (take k xs)) → Grows a b (flat_map f xs)
grown_all f a b xs k past h = rw (take_all k xs past) at h

pub map_next : {A B : Type 0} (f : A → B) (xs : List A) (k : ℕ) (d : A) → k < length xs → map f (take (k + 1) xs) ≡ map f (take k xs) ++ f (get_or xs k d) ∷ []
map_next f xs k d within = ap (map f) (take_more xs k (get_or xs k d) within ∙ ap (λ x. take k xs ++ x ∷ []) (get_or_default xs k (get_or xs k d) d within)) ∙ map_push f (take k xs) (get_or xs k d)

-- a programme's rows of its residents are printed as one line for each row whose second field is a
-- resident's name
pub member_lines : (name : List ℕ) (rows : List Cells) → lines (map (member_row name) (map (λ row. text_at row 1) rows)) ≡ flat_map (λ row. line (member_row name (text_at row 1))) rows
member_lines name [] = refl
member_lines name (row ∷ rows) = ap (λ (rest : List ℕ). line (member_row name (text_at row 1)) ++ rest) (member_lines name rows)
