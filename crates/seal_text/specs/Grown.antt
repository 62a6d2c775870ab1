-- A hash tree together with the texts of its leaves.
use Rattle.std.specs.Prelude.{◌≡◌, ℕ, ◌+◌, Option, IfSome, List, length, map, option_map}
use Rattle.std.specs.Global.{Vec}
use Rattle.seal_text.specs.Sealed.{hashes_of}
use Rattle.seal_text.specs.declared.grown.TextTree.{TextTree}
use Rattle.seal_text.specs.declared.leaves.Section.{Section}
use Rattle.seal_text.specs.declared.leaves.Section.TheVariants.{Lists, Outcome}
use Rattle.seal_text.specs.declared.receipts.Trees.{Trees}
use Rattle.docket.specs.Contents.{Contents}

-- the texts in these vectors of bytes
abbrev pub texts_of : List (Vec ℕ) → List (List ℕ)
texts_of texts = map (λ (text : Vec ℕ). text.items) texts

-- the texts of a tree's leaves
abbrev pub texts_in : TextTree → List (List ℕ)
texts_in grown = texts_of grown.leaf_texts.items

-- the tree is over the leaves of its texts
abbrev pub IsGrown : List ℕ → TextTree → Type 0
IsGrown secret grown = grown.tree ≡ hashes_of secret grown.section (texts_in grown)

-- the tree is that of this section, and has this many leaves
pub record IsGrownAs (secret : List ℕ) (section : Section) (count : ℕ) (grown : TextTree) : Type 0 where
  pub is_grown : IsGrown secret grown
  pub section_is : grown.section ≡ section
  pub count_is : length grown.leaf_texts.items ≡ count

-- the trees of a docket, which have one leaf for each member
pub record AreTrees (secret : List ℕ) (count : ℕ) (trees : Trees) : Type 0 where
  pub lists : IsGrownAs secret Lists count trees.lists
  pub outcome : IfSome trees.outcome (IsGrownAs secret Outcome count)

-- how many members a docket has
abbrev pub member_count : Contents → ℕ
member_count d = length d.instance.quotas + length d.instance.resident_lists

-- the texts of the lists, and those of the result, if there is one
abbrev pub lists_in : Trees → List (List ℕ)
lists_in trees = texts_in trees.lists

abbrev pub results_in : Trees → Option (List (List ℕ))
results_in trees = option_map texts_in trees.outcome
