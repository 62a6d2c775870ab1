-- Why the opening in a receipt climbs to the receipt's root: it is the path that the tree makes for that leaf.
use Rattle.std.proofs.Common.{◌≡◌, ℕ, zero, suc, ◌+◌, List, [], ◌∷◌, Some, length, slice_get, ap, ◌∙◌, subst, arith, zero-add}
use Rattle.std.specs.Prelude.{option_map}
use Rattle.std.proofs.lemmas.Option.{slice_get-map}
use Rattle.seal.specs.Hashes.{leaf_hash}
use Rattle.seal.specs.Tree.{root, climb, path_of, seal_hash}
use Rattle.seal.proofs.Climbs.{complete}
use Rattle.seal_text.specs.Laws.{ReceiptOpensLaw}
use Rattle.seal_text.specs.Sealed.{leaf_of, leaves_from, hashes_of}
use Rattle.seal_text.specs.declared.leaves.Section.{Section}
use Rattle.seal_text.proofs.LeafFacts.{length-hashes_of}

leaf_there : (secret : List ℕ) (section : Section) (k : ℕ) (texts : List (List ℕ)) (i : ℕ) (text : List ℕ) → slice_get texts i ≡ Some text
    → slice_get (leaves_from secret section k texts) i ≡ Some (leaf_of secret section (k + i) text)
unfolding leaves_from
leaf_there secret section k [] i text e = absurd (cc)
leaf_there secret section k (t ∷ texts) zero text e =
    let here : k ≡ k + 0 = omega arith in
    let same : t ≡ text = cc e in
    ap (λ (x : List ℕ). Some (leaf_of secret section k x)) same ∙ ap (λ n. Some (leaf_of secret section n text)) here
leaf_there secret section k (t ∷ texts) (suc i) text e =
    let there : k + 1 + i ≡ k + suc i = omega arith in
    leaf_there secret section (k + 1) texts i text e ∙ ap (λ n. Some (leaf_of secret section n text)) there

pub receipt_opens : ReceiptOpensLaw
receipt_opens secret section texts i text e =
    let leaves = leaves_from secret section 0 texts in
    let leaf : slice_get leaves i ≡ Some (leaf_of secret section i text) = leaf_there secret section 0 texts i text e ∙ ap (λ k. Some (leaf_of secret section k text)) (zero-add i) in
    let hash : slice_get (hashes_of secret section texts) i ≡ Some (leaf_hash (leaf_of secret section i text)) = slice_get-map leaf_hash leaves i ∙ ap (option_map leaf_hash) leaf in
    let P : ℕ → Type 0 = λ n. climb i n (leaf_hash (leaf_of secret section i text)) (path_of i (hashes_of secret section texts)) ≡ Some (root (hashes_of secret section texts)) in
    ap (option_map (seal_hash (length texts)))
    (subst P (length-hashes_of secret section texts) (complete (hashes_of secret section texts) i (leaf_hash (leaf_of secret section i text)) hash))
