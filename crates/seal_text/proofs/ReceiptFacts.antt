-- The pieces of a receipt, one after another.
use Rattle.std.proofs.Common.{◌≡◌, ℕ, ◌<◌, List, [], ◌∷◌, ◌++◌, length, get_or, Option, sym, ap, ◌∙◌}
use Rattle.std.specs.Prelude.{codes}
use Rattle.std.specs.Global.{Vec}
use Rattle.std.proofs.lemmas.List.{length-map, get_or-map}
use Rattle.records.specs.Lines.{Grows}
use Rattle.records.proofs.LineFacts.{grows_both}
use Rattle.records.specs.RowText.{row}
use Rattle.seal.specs.Tree.{root, path_of, seal_hash}
use Rattle.seal_text.specs.Sealed.{hashes_of, opening_row, part_text, receipt_text, result_text_if, root_row, root_row_of, salt_of}
use Rattle.seal_text.specs.Grown.{IsGrown, texts_in, texts_of}
use Rattle.seal_text.specs.declared.grown.TextTree.{TextTree}
use Rattle.seal_text.specs.declared.leaves.Section.TheVariants.{Lists}
use Rattle.seal_text.proofs.LeafFacts.{length-hashes_of}
use Rattle.seal_text.proofs.Steps.{grows_three}

-- a text that grew by six texts, one after another, grew by the six together
pub grows_six : (a b c d e f g : Vec ℕ) (u v w x y z : List ℕ) → Grows a b u → Grows b c v → Grows c d w → Grows d e x → Grows e f y → Grows f g z
    → Grows a g (u ++ (v ++ (w ++ (x ++ (y ++ z)))))
grows_six a b c d e f g u v w x y z h k l m n o = grows_three a b c g u v _ h k (grows_both c d g w _ l (grows_three d e f g x y z m n o))

-- the row of a grown tree's root is the row of the root over the tree's texts
pub root_row_same : (secret : List ℕ) (grown : TextTree) → IsGrown secret grown
    → root_row grown.section (length grown.leaf_texts.items) (seal_hash (length grown.leaf_texts.items) (root grown.tree)) ≡ root_row_of secret grown.section (texts_in grown)
root_row_same secret grown h =
    let many : length (texts_in grown) ≡ length grown.leaf_texts.items = length-map grown.leaf_texts.items (λ (text : Vec ℕ). text.items) in
    ap (λ (top : List ℕ). root_row grown.section (length grown.leaf_texts.items) (seal_hash (length grown.leaf_texts.items) top)) (ap root h)
    ∙ ap (λ n. root_row grown.section n (seal_hash n (root (hashes_of secret grown.section (texts_in grown))))) (sym many)

-- a grown tree has one leaf for each text
pub leaves_counted : (secret : List ℕ) (grown : TextTree) → IsGrown secret grown → length grown.tree ≡ length grown.leaf_texts.items
leaves_counted secret grown h =
    ap (λ (t : List (List ℕ)). length t) h ∙ length-hashes_of secret grown.section (texts_in grown) ∙ length-map grown.leaf_texts.items (λ (text : Vec ℕ). text.items)

-- the part of a receipt about one tree is the row of its root, the row of the opening and the
-- leaf's text, one after another
pub part_made : (secret : List ℕ) (grown : TextTree) (i : ℕ) (salt text : List ℕ) (path : List (List ℕ)) (a b c d : Vec ℕ) → IsGrown secret grown
    → salt ≡ salt_of secret grown.section i → path ≡ path_of i grown.tree → text ≡ get_or (texts_in grown) i []
    → Grows a b (root_row grown.section (length grown.leaf_texts.items) (seal_hash (length grown.leaf_texts.items) (root grown.tree))) → Grows b c (opening_row grown.section i salt path) → Grows c d text
    → Grows a d (part_text secret grown.section (texts_in grown) i)
unfolding part_text
part_made secret grown i salt text path a b c d h s p t first second third =
    let paths : path ≡ path_of i (hashes_of secret grown.section (texts_in grown)) = p ∙ ap (path_of i) h in
    grows_three a b c d _ _ _ (rw (root_row_same secret grown h) at first) (rw (s, paths) at second) (rw t at third)

-- the text at place i of the vectors is what vector i has
pub text_there : (texts : List (Vec ℕ)) (i : ℕ) (text : Vec ℕ) → i < length texts → text ≡ get_or texts i text → text.items ≡ get_or (texts_of texts) i []
text_there texts i text within here = ap (λ (v : Vec ℕ). v.items) here ∙ sym (get_or-map (λ (v : Vec ℕ). v.items) texts i text [] within)

-- a receipt is the row that names the member, the first row and the part about each tree, one after
-- another
pub receipt_made : (secret kind name : List ℕ) (lists : List (List ℕ)) (results : Option (List (List ℕ))) (i : ℕ) (a b c d e : Vec ℕ)
    → Grows a b (row (codes "member" ∷ kind ∷ name ∷ [])) → Grows b c (row (codes "receipt" ∷ codes "2" ∷ kind ∷ name ∷ []))
    → Grows c d (part_text secret Lists lists i) → Grows d e (result_text_if secret results i) → Grows a e (receipt_text secret kind name lists results i)
unfolding receipt_text
receipt_made secret kind name lists results i a b c d e h k l m = grows_both a b e _ _ h (grows_three b c d e _ _ _ k l m)
