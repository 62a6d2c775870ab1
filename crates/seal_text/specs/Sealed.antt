-- From texts to roots and receipts.
use Rattle.std.specs.Prelude.{ℕ, ◌+◌, Option, Some, None, List, [], ◌∷◌, ◌++◌, length, codes, decimal, slice_index_or}
use Rattle.std.specs.Int.{w64, to_be_bytes}
use Rattle.std.specs.List.{flat_map, range_with_len}
use Rattle.sha2.specs.Sha256.{sha256}
use Rattle.hex.specs.Hex.{encode_lower}
use Rattle.records.specs.RowText.{row}
use Rattle.docket.specs.Contents.{Contents}
use Rattle.docket.specs.Texts.{programme_name, resident_name}
use Rattle.seal.specs.Hashes.{Leaf}
use Rattle.seal.specs.Tree.{root, path_of, leaf_hashes, seal_hash}
use Rattle.seal_text.specs.declared.leaves.Section.{Section}
use Rattle.seal_text.specs.declared.leaves.Section.TheVariants.{Lists, Outcome}

-- the byte that tells the salts of the two trees apart: `L` and `R`
abbrev pub tag_of : Section → ℕ
tag_of Lists = 76
tag_of Outcome = 82

-- the word that names the tree in its rows
abbrev pub word_of : Section → List ℕ
word_of Lists = codes "lists"
word_of Outcome = codes "result"

-- the salt of the leaf at this place
abbrev pub salt_of : List ℕ → Section → ℕ → List ℕ
salt_of secret section i = sha256 (secret ++ tag_of section ∷ to_be_bytes w64 i)

-- the leaf at this place
abbrev pub leaf_of : List ℕ → Section → ℕ → List ℕ → Leaf
leaf_of secret section i text = record { salt = salt_of secret section i; text = text }

-- the leaves of these texts, the first of which stands at place i
unfoldable pub leaves_from : List ℕ → Section → ℕ → List (List ℕ) → List Leaf
leaves_from secret section i [] = []
leaves_from secret section i (text ∷ texts) = leaf_of secret section i text ∷ leaves_from secret section (i + 1) texts

-- the hashes of the leaves of these texts
abbrev pub hashes_of : List ℕ → Section → List (List ℕ) → List (List ℕ)
hashes_of secret section texts = leaf_hashes (leaves_from secret section 0 texts)

-- the row of a published root: the tree, how many leaves it has, and the root's digits
abbrev pub root_row : Section → ℕ → List ℕ → List ℕ
root_row section count top = row (word_of section ∷ decimal count ∷ encode_lower top ∷ [])

-- the published root of the tree over these texts
abbrev pub published : List ℕ → Section → List (List ℕ) → List ℕ
published secret section texts = seal_hash (length texts) (root (hashes_of secret section texts))

-- the row of the root over these texts
abbrev pub root_row_of : List ℕ → Section → List (List ℕ) → List ℕ
root_row_of secret section texts = root_row section (length texts) (published secret section texts)

-- a comma and a digest's digits
abbrev pub digest_field : List ℕ → List ℕ
digest_field digest = 44 ∷ encode_lower digest

-- the hashes of a path, and the end of its row
abbrev pub path_fields : List (List ℕ) → List ℕ
path_fields path = flat_map digest_field path ++ 10 ∷ []

-- the row of an opening: the tree, the leaf's place, its salt, and the hashes of its path, lowest first
abbrev pub opening_row : Section → ℕ → List ℕ → List (List ℕ) → List ℕ
opening_row section i salt path =
    codes "opens," ++ (word_of section ++ (codes "," ++ (decimal i ++ (digest_field salt ++ path_fields path))))

-- the part of a receipt about the tree over these texts: the tree's root, the opening of the leaf at this place, and
-- the leaf's text
unfoldable pub part_text : List ℕ → Section → List (List ℕ) → ℕ → List ℕ
part_text secret section texts i =
    root_row_of secret section texts
    ++ (opening_row section i (salt_of secret section i) (path_of i (hashes_of secret section texts))
    ++ slice_index_or texts i [])

-- the part of a receipt about the result, if there is a result
abbrev pub result_text_if : List ℕ → Option (List (List ℕ)) → ℕ → List ℕ
result_text_if secret None i = []
result_text_if secret (Some texts) i = part_text secret Outcome texts i

-- the receipt of the member at place i
abbrev pub receipt_of : List ℕ → List ℕ → List ℕ → List (List ℕ) → Option (List (List ℕ)) → ℕ → List ℕ
receipt_of secret kind name lists results i =
    row (codes "receipt" ∷ codes "2" ∷ kind ∷ name ∷ []) ++ (part_text secret Lists lists i ++ result_text_if secret results i)

-- the row that names the member at place i, and the member's receipt
unfoldable pub receipt_text : List ℕ → List ℕ → List ℕ → List (List ℕ) → Option (List (List ℕ)) → ℕ → List ℕ
receipt_text secret kind name lists results i = row (codes "member" ∷ kind ∷ name ∷ []) ++ receipt_of secret kind name lists results i

-- the receipt of programme p, which stands at its number in the trees
abbrev pub programme_receipt : List ℕ → Contents → List (List ℕ) → Option (List (List ℕ)) → ℕ → List ℕ
programme_receipt secret d lists results p = receipt_text secret (codes "P") (programme_name d p) lists results p

-- the receipt of resident r, which stands behind all programmes in the trees
abbrev pub resident_receipt : List ℕ → Contents → List (List ℕ) → Option (List (List ℕ)) → ℕ → List ℕ
resident_receipt secret d lists results r = receipt_text secret (codes "R") (resident_name d r) lists results (length d.instance.quotas + r)

-- the receipts of all members: of the programmes, and then of the residents
abbrev pub receipts_text : List ℕ → Contents → List (List ℕ) → Option (List (List ℕ)) → List ℕ
receipts_text secret d lists results =
    flat_map (programme_receipt secret d lists results) (range_with_len 0 (length d.instance.quotas))
    ++ flat_map (resident_receipt secret d lists results) (range_with_len 0 (length d.instance.resident_lists))

-- the row of the result's root, if there is a result
abbrev pub result_root_if : List ℕ → Option (List (List ℕ)) → List ℕ
result_root_if secret None = []
result_root_if secret (Some texts) = root_row_of secret Outcome texts

-- the rows of the roots
abbrev pub roots_text : List ℕ → List (List ℕ) → Option (List (List ℕ)) → List ℕ
roots_text secret lists results = root_row_of secret Lists lists ++ result_root_if secret results
