-- How a path is read from the list of all levels: a sibling is read from each level, and then the level above is read.
use Rattle.std.proofs.Common.{◌≡◌, ℕ, ◌+◌, ◌-◌, ◌/◌, ◌%◌, ◌<◌, ◌≤◌, List, [], ◌∷◌, ◌++◌, length, take, drop, get_or, slice_get, Option, Some, None, arith, sym, ap, ◌∙◌, subst, inl, inr, append_assoc}
use Rattle.std.specs.List.{cons_option}
use Rattle.std.proofs.Math.Seq.{drop-append_seam}
use Rattle.std.proofs.lemmas.List.{drop-drop, length-drop, length-take-le, get_or-take, get_or-drop}
use Rattle.std.proofs.lemmas.Option.{slice_get-get_or, slice_get_past}
use Rattle.std.proofs.lemmas.Bool.Decides.{eqb_tells}
use Rattle.seal.specs.Tree.{pair_up, all_levels, sibling, path_of}
use Rattle.seal.proofs.Parents.{length-pair_up}
use Rattle.seal.proofs.AllLevels.{all_levels_on, take_all_levels, length-all_levels, path_on}

-- in the list of all levels, the nodes behind a level begin with the level above it
pub record IsNext (level behind : List (List ℕ)) (m : ℕ) : Type 0 where
  pub fits : m ≤ length behind
  pub is_whole : behind ≡ all_levels (take m behind)
  pub is_above : take m behind ≡ pair_up level

pub next_level : (rest : List (List ℕ)) (n m : ℕ) → n ≤ length rest → 1 < n → m ≡ n / 2 + n % 2 →
    rest ≡ all_levels (take n rest) → IsNext (take n rest) (drop n rest) m
next_level rest n m le one is whole =
    let level = take n rest in
    let size : length (take n rest) ≡ n = length-take-le n rest le in
    let above : length (pair_up (take n rest)) ≡ m = omega (arith, length-pair_up (take n rest)) in
    let two : 1 < length (take n rest) = omega arith in
    let behind : drop n rest ≡ all_levels (pair_up (take n rest)) =
    ap (drop n) (whole ∙ all_levels_on (take n rest) two)
    ∙ subst (λ k. drop k (take n rest ++ all_levels (pair_up (take n rest))) ≡ all_levels (pair_up (take n rest))) size
    (drop-append_seam (take n rest) (all_levels (pair_up (take n rest)))) in
    let front : take m (drop n rest) ≡ pair_up (take n rest) =
    ap (take m) behind
    ∙ subst (λ k. take k (all_levels (pair_up (take n rest))) ≡ pair_up (take n rest)) above (take_all_levels (pair_up (take n rest))) in
    record {
      fits = omega (arith, ap length behind, length-all_levels (pair_up (take n rest)));
      is_whole = behind ∙ ap all_levels (sym front);
      is_above = front;
    }

-- a node that is read from the nodes after `start` is a node of the level that begins there
pub read_level : (nodes : List (List ℕ)) (start n i j : ℕ) (x : List ℕ) → start + n ≤ length nodes → j < n → i ≡ start + j →
    x ≡ get_or nodes i x → slice_get (take n (drop start nodes)) j ≡ Some x
read_level nodes start n i j x le l place read =
    let size = length-take-le n (drop start nodes) (omega (arith, length-drop start nodes)) in
    let there : get_or (take n (drop start nodes)) j x ≡ x =
    get_or-take n (drop start nodes) j x l ∙ get_or-drop start nodes j x ∙ ap (λ k. get_or nodes k x) (sym place) ∙ sym read in
    slice_get-get_or (take n (drop start nodes)) j x (omega (arith, size)) ∙ ap Some there

pub sibling_left : (i : ℕ) (level : List (List ℕ)) (o : Option (List ℕ)) → i % 2 ≡ 1 → slice_get level (i - 1) ≡ o → sibling i level ≡ o
sibling_left i level o odd e = elim (eqb_tells (i % 2) 1) [ inl t ↦ rw t.0 e | inr f ↦ absurd (f.1 odd) ]

pub sibling_right : (i : ℕ) (level : List (List ℕ)) (o : Option (List ℕ)) → (i % 2 ≡ 1 → ⊥) → slice_get level (i + 1) ≡ o → sibling i level ≡ o
sibling_right i level o even e = elim (eqb_tells (i % 2) 1) [ inl t ↦ absurd (even t.1) | inr f ↦ rw f.0 e ]

pub no_sibling : (nodes : List (List ℕ)) (start n i : ℕ) → start + n ≤ length nodes → (i % 2 ≡ 1 → ⊥) → n ≤ i + 1 →
    sibling i (take n (drop start nodes)) ≡ None
no_sibling nodes start n i le even last =
    let size = length-take-le n (drop start nodes) (omega (arith, length-drop start nodes)) in
    sibling_right i _ None even (slice_get_past (take n (drop start nodes)) (i + 1) (omega (arith, size)))

-- a path that ends with the sibling, if there is one, goes on with the path of the parent
goes_on : (path after : List (List ℕ)) (o : Option (List ℕ)) → (path ++ cons_option o []) ++ after ≡ path ++ cons_option o after
goes_on path after None = append_assoc path [] after
goes_on path after (Some x) = append_assoc path (x ∷ []) after

-- what is true of the nodes and the path after each level: the path so far, followed by the rest of it, is the whole
-- path
pub record IsRead (nodes path whole : List (List ℕ)) (start n i : ℕ) : Type 0 where
  pub in_level : i < n
  pub in_nodes : start + n ≤ length nodes
  pub is_whole : drop start nodes ≡ all_levels (take n (drop start nodes))
  pub is_path : path ++ path_of i (take n (drop start nodes)) ≡ whole

pub read_on : (nodes path path' whole : List (List ℕ)) (start n i m : ℕ) (o : Option (List ℕ)) → IsRead nodes path whole start n i →
    1 < n → m ≡ n / 2 + n % 2 → sibling i (take n (drop start nodes)) ≡ o → path' ≡ path ++ cons_option o [] →
    IsRead nodes path' whole (start + n) m (i / 2)
read_on nodes path path' whole start n i m o r one is s pushed =
    let rest = drop start nodes in
    let level = take n (drop start nodes) in
    let le : n ≤ length (drop start nodes) = omega (arith, length-drop start nodes, r.in_nodes) in
    let size : length (take n (drop start nodes)) ≡ n = length-take-le n (drop start nodes) le in
    let next = next_level (drop start nodes) n m le one is r.is_whole in
    let behind : drop n (drop start nodes) ≡ drop (start + n) nodes = drop-drop n start nodes in
    let up : IsNext (take n (drop start nodes)) (drop (start + n) nodes) m = subst (λ z. IsNext (take n (drop start nodes)) z m) behind next in
    record {
      in_level = omega (arith, r.in_level);
      in_nodes = omega (arith, up.fits, length-drop (start + n) nodes, r.in_nodes);
      is_whole = up.is_whole;
      is_path = rw (up.is_above, pushed)
          (goes_on path _ o ∙ ap (λ z. path ++ z) (ap (λ p. cons_option p (path_of (i / 2) (pair_up (take n (drop start nodes))))) (sym s)
          ∙ sym (path_on i (take n (drop start nodes)) (omega (arith, r.in_level)) (omega arith))) ∙ r.is_path);
    }
