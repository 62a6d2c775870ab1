-- All levels of a tree in one list: how the list begins, how it goes on and how it ends.
use Rattle.std.proofs.Common.{◌≡◌, ℕ, zero, suc, ◌-◌, ◌/◌, ◌<◌, ◌≤◌, true, nat_lt, if◌then◌else◌, List, [], ◌∷◌, ◌++◌, length, take, get_or, slice_get, Some, arith, refl, sym, ap, ◌∙◌, subst, inl, inr, length-append}
use Rattle.std.specs.List.{cons_option}
use Rattle.std.proofs.Math.Seq.{take-append_seam, take-length, get_or-append_right}
use Rattle.std.proofs.lemmas.Bool.{cases_lt, lt-ltb}
use Rattle.std.proofs.lemmas.Option.{slice_get_within, get_or_from_slice_get}
use Rattle.seal.specs.Tree.{pair_up, levels_up, top, root, sibling, path_from, path_of, levels_from, all_levels}
use Rattle.seal.proofs.Parents.{length-pair_up}

levels_from_more : (n : ℕ) (hs : List (List ℕ)) → length hs ≤ suc n → levels_from n hs ≡ levels_from (suc n) hs
levels_from_more zero [] l = refl
levels_from_more zero (h ∷ []) l = refl
levels_from_more zero (a ∷ b ∷ rest) l = absurd (omega arith)
levels_from_more (suc n) hs l =
    let h = length-pair_up hs in
    ap (λ z. if nat_lt 1 (length hs) then hs ++ z else hs) (levels_from_more n (pair_up hs) (omega arith))

levels_from_enough : (n m : ℕ) (hs : List (List ℕ)) → length hs ≤ suc n → n ≤ m → levels_from n hs ≡ levels_from m hs
levels_from_enough n zero hs l le = let e : n ≡ 0 = omega arith in ap (λ k. levels_from k hs) e
levels_from_enough n (suc m) hs l le = elim (cases_lt m n) [
  | inl c ↦ let e : n ≡ suc m = omega arith in ap (λ k. levels_from k hs) e
  | inr c ↦ levels_from_enough n m hs l c ∙ levels_from_more m hs (omega arith)
]

-- the list of all levels is the lowest level, followed by all levels of the tree above it
pub all_levels_on : (hs : List (List ℕ)) → 1 < length hs → all_levels hs ≡ hs ++ all_levels (pair_up hs)
all_levels_on [] l = absurd (omega arith)
all_levels_on (a ∷ rest) l =
    let n = length-pair_up (a ∷ rest) in
    let test : nat_lt 1 (length (a ∷ rest)) ≡ true = lt-ltb 1 (length (a ∷ rest)) l in
    rw test (ap (λ z. (a ∷ rest) ++ z) (sym (levels_from_enough (length (pair_up (a ∷ rest))) (length rest) (pair_up (a ∷ rest)) (omega arith) (omega arith))))

-- if a level has at most one node, it is the last level
pub all_levels_top : (hs : List (List ℕ)) → length hs ≤ 1 → all_levels hs ≡ hs
all_levels_top [] l = refl
all_levels_top (h ∷ []) l = refl
all_levels_top (a ∷ b ∷ rest) l = absurd (omega arith)

-- the list of all levels begins with the leaves
pub take_all_levels : (hs : List (List ℕ)) → take (length hs) (all_levels hs) ≡ hs
take_all_levels hs = elim (cases_lt 1 (length hs)) [
  | inl c ↦ rw (all_levels_on hs c) (take-append_seam hs (all_levels (pair_up hs)))
  | inr c ↦ rw (all_levels_top hs c) (take-length hs)
]

pub length-all_levels : (hs : List (List ℕ)) → length hs ≤ length (all_levels hs)
length-all_levels hs = elim (cases_lt 1 (length hs)) [
  | inl c ↦ rw (all_levels_on hs c) (omega (arith, length-append hs (all_levels (pair_up hs))))
  | inr c ↦ rw (all_levels_top hs c) (omega arith)
]

path_from_more : (n i : ℕ) (hs : List (List ℕ)) → i < length hs → length hs ≤ suc n → path_from n i hs ≡ path_from (suc n) i hs
path_from_more zero i [] w l = refl
path_from_more zero zero (h ∷ []) w l = refl
path_from_more zero (suc i) (h ∷ []) w l = absurd (omega arith)
path_from_more zero i (a ∷ b ∷ rest) w l = absurd (omega arith)
path_from_more (suc n) i hs w l =
    let h = length-pair_up hs in
    ap (cons_option (sibling i hs)) (path_from_more n (i / 2) (pair_up hs) (omega arith) (omega arith))

path_from_enough : (n m i : ℕ) (hs : List (List ℕ)) → i < length hs → length hs ≤ suc n → n ≤ m → path_from n i hs ≡ path_from m i hs
path_from_enough n zero i hs w l le = let e : n ≡ 0 = omega arith in ap (λ k. path_from k i hs) e
path_from_enough n (suc m) i hs w l le = elim (cases_lt m n) [
  | inl c ↦ let e : n ≡ suc m = omega arith in ap (λ k. path_from k i hs) e
  | inr c ↦ path_from_enough n m i hs w l c ∙ path_from_more m i hs w (omega arith)
]

-- a leaf's path is its sibling, if it has one, followed by its parent's path
pub path_on : (i : ℕ) (hs : List (List ℕ)) → i < length hs → 1 < length hs →
    path_of i hs ≡ cons_option (sibling i hs) (path_of (i / 2) (pair_up hs))
path_on i [] w l = absurd (omega arith)
path_on i (a ∷ rest) w l =
    let n = length-pair_up (a ∷ rest) in
    ap (cons_option (sibling i (a ∷ rest)))
    (sym (path_from_enough (length (pair_up (a ∷ rest))) (length rest) (i / 2) (pair_up (a ∷ rest)) (omega arith) (omega arith) (omega arith)))

one_up : (n : ℕ) (h : List ℕ) → levels_up n (h ∷ []) ≡ h ∷ []
one_up zero h = refl
one_up (suc n) h = one_up n h

one_level : (n : ℕ) (h : List ℕ) → levels_from n (h ∷ []) ≡ h ∷ []
one_level zero h = refl
one_level (suc n) h = refl

-- the last node in the list of all levels is the node at the top
last_is_top : (n : ℕ) (hs : List (List ℕ)) (d : List ℕ) → 0 < length hs → length hs ≤ suc n →
    (0 < length (levels_from n hs)) × (get_or (levels_from n hs) (length (levels_from n hs) - 1) d ≡ top (levels_up n hs))
last_is_top n [] d l le = absurd (omega arith)
last_is_top n (h ∷ []) d l le = rw (one_level n h, one_up n h) (omega arith, refl)
last_is_top zero (a ∷ b ∷ rest) d l le = absurd (omega arith)
last_is_top (suc n) (a ∷ b ∷ rest) d l le =
    let hs = a ∷ b ∷ rest in
    let size = length-pair_up (a ∷ b ∷ rest) in
    let above = last_is_top n (pair_up (a ∷ b ∷ rest)) d (omega arith) (omega arith) in
    let test : nat_lt 1 (length (a ∷ b ∷ rest)) ≡ true = lt-ltb 1 (length (a ∷ b ∷ rest)) (omega arith) in
    let whole : levels_from (suc n) (a ∷ b ∷ rest) ≡ (a ∷ b ∷ rest) ++ levels_from n (pair_up (a ∷ b ∷ rest)) = rw test refl in
    let long = length-append (a ∷ b ∷ rest) (levels_from n (pair_up (a ∷ b ∷ rest))) in
    let last : length ((a ∷ b ∷ rest) ++ levels_from n (pair_up (a ∷ b ∷ rest))) - 1 - length (a ∷ b ∷ rest) ≡ length (levels_from n (pair_up (a ∷ b ∷ rest))) - 1 = omega (arith, above.0) in
    rw whole (
      omega (arith, long, above.0),
      get_or-append_right (a ∷ b ∷ rest) (levels_from n (pair_up (a ∷ b ∷ rest))) (length ((a ∷ b ∷ rest) ++ levels_from n (pair_up (a ∷ b ∷ rest))) - 1) d (omega (arith, long, above.0))
          ∙ ap (λ k. get_or (levels_from n (pair_up (a ∷ b ∷ rest))) k d) last ∙ above.1,
    )

-- the last node in the list of all levels is the root, unless the tree has no leaves
pub last_is_root : (hs : List (List ℕ)) (d : List ℕ) → 0 < length (all_levels hs) →
    get_or (all_levels hs) (length (all_levels hs) - 1) d ≡ root hs
last_is_root [] d l = absurd (omega arith)
last_is_root (h ∷ rest) d l = (last_is_top (length (h ∷ rest)) (h ∷ rest) d (omega arith) (omega arith)).1

-- the node that is read at the end of the list of all levels is the root
pub last_read : (nodes whole hs : List (List ℕ)) (x : List ℕ) → nodes ≡ whole → whole ≡ all_levels hs →
    Some x ≡ slice_get nodes (length nodes - 1) → x ≡ root hs
last_read nodes whole hs x same e read =
    let all : nodes ≡ all_levels hs = same ∙ e in
    let here : Some x ≡ slice_get (all_levels hs) (length (all_levels hs) - 1) = subst (λ z. Some x ≡ slice_get z (length z - 1)) all read in
    let within = slice_get_within (all_levels hs) (length (all_levels hs) - 1) x (sym here) in
    sym (get_or_from_slice_get (all_levels hs) (length (all_levels hs) - 1) x x (sym here)) ∙ last_is_root hs x (omega arith)
