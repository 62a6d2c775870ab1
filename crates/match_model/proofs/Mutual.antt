-- The mutual parts of lists: how many there are, and which items they have.
use Rattle.std.proofs.Common.{◌≡◌, ℕ, ◌<◌, Bool, true, false, ltb, List, [], ◌∷◌, length, get_or, Option, None, unwrap_or, refl, ap, ◌∙◌, arith, ◌&&◌, suc, zero, zero-add}
use Rattle.std.specs.List.{list_all, All, filter, enumerate_from}
use Rattle.std.proofs.lemmas.List.{length-map, get_or-map}
use Rattle.std.proofs.lemmas.List.FromFn.{length-enumerate_from, get_or-enumerate_from}
use Rattle.match_model.specs.Ranking.{is_listed}
use Rattle.match_model.specs.Instance.{list_at}
use Rattle.match_model.specs.Draft.{given_lists, lists_left, has_no_repeats, AreLists, mutual_lists}
use Rattle.match_model.proofs.Remaining.{length-remaining_lists, remaining_all}

-- if all items of a list are below n, each item of the list is
pub list_all_at : (n : ℕ) (xs : List ℕ) (k : ℕ) → list_all (λ x. ltb x n) xs ≡ true → k < length xs → get_or xs k 0 < n
list_all_at n [] k e h = absurd (omega arith)
list_all_at n (x ∷ xs) zero e h = first (ltb x n) refl e
  where
    first : (b : Bool) → ltb x n ≡ b → b && list_all (λ y. ltb y n) xs ≡ true → x < n
    first true t e = below t
      where
        below : ltb x n ≡ true → x < n
        below t = grind arith
    first false t e = absurd (false≢true e)
      where
        false≢true : false ≡ true → ⊥
        false≢true e = cc
list_all_at n (x ∷ xs) (suc k) e h = list_all_at n xs k (rest (ltb x n) e) (omega arith)
  where
    rest : (b : Bool) → b && list_all (λ y. ltb y n) xs ≡ true → list_all (λ y. ltb y n) xs ≡ true
    rest true e = e
    rest false e = absurd (false≢true e)
      where
        false≢true : false ≡ true → ⊥
        false≢true e = cc

-- there is one given list for each member
pub length-given_lists : (lists : List (Option (List ℕ))) → length (given_lists lists) ≡ length lists
length-given_lists lists = length-map lists (λ list. unwrap_or list [])

pub given_at : (lists : List (Option (List ℕ))) (i : ℕ) → i < length lists → list_at (given_lists lists) i ≡ unwrap_or (get_or lists i None) []
given_at lists i h = get_or-map (λ (list : Option (List ℕ)). unwrap_or list []) lists i None [] h

-- there is one remaining list for each member
pub length-lists_left : (lists : List (Option (List ℕ))) (flags : List Bool) → length (lists_left lists flags) ≡ length lists
length-lists_left lists flags = length-remaining_lists (given_lists lists) flags ∙ length-given_lists lists

pub left_below : (lists : List (Option (List ℕ))) (flags : List Bool) (n : ℕ) → AreLists lists n → All (λ list. list_all (λ x. ltb x n) list ≡ true) (lists_left lists flags)
left_below lists flags n a = remaining_all (λ list. list_all (λ x. ltb x n) list ≡ true) (given_lists lists) flags refl a.items_below

pub left_distinct : (lists : List (Option (List ℕ))) (flags : List Bool) (n : ℕ) → AreLists lists n → All (λ list. has_no_repeats list ≡ true) (lists_left lists flags)
left_distinct lists flags n a = remaining_all (λ list. has_no_repeats list ≡ true) (given_lists lists) flags refl a.no_repeats

-- there are as many mutual lists as lists
pub length-mutual_lists : (mine theirs : List (List ℕ)) → length (mutual_lists mine theirs) ≡ length mine
unfolding mutual_lists
length-mutual_lists mine theirs = length-map (enumerate_from 0 mine) (λ (owned : ℕ × List ℕ). filter (λ x. is_listed (list_at theirs x) owned.0) owned.1) ∙ length-enumerate_from 0 mine

-- the items of a list on whose own lists the owner of the list stands
abbrev kept_of : List (List ℕ) → ℕ × List ℕ → List ℕ
kept_of theirs owned = filter (λ x. is_listed (list_at theirs x) owned.0) owned.1

pub get_or-mutual_lists : (mine theirs : List (List ℕ)) (i : ℕ) → i < length mine → get_or (mutual_lists mine theirs) i [] ≡ filter (λ x. is_listed (list_at theirs x) i) (list_at mine i)
unfolding mutual_lists
get_or-mutual_lists mine theirs i h =
    get_or-map (kept_of theirs) (enumerate_from 0 mine) i (0, []) [] (omega (arith, length-enumerate_from 0 mine))
    ∙ ap (kept_of theirs) (get_or-enumerate_from 0 mine i (0, []) h) ∙ ap (λ n. kept_of theirs (n, get_or mine i [])) (zero-add i)
