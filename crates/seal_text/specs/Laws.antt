-- The laws of receipts and of texts. Each law is proved as the contract of one function.
use Rattle.std.specs.Prelude.{◌≡◌, ℕ, ◌<◌, ◌≤◌, List, None, Some, length, slice_get, slice_index_or}
use Rattle.match_model.specs.Draft.{Draft}
use Rattle.match_model.specs.Instance.{is_withdrawn, quota}
use Rattle.docket.specs.Contents.{Contents}
use Rattle.docket.specs.Texts.{programme_name, resident_name}
use Rattle.reasons_text.specs.RealNames.{Real}
use Rattle.seal_text.specs.Texts.{list_of_programme, list_of_resident, lists_texts}
use Rattle.seal.specs.Hashes.{leaf_hash}
use Rattle.seal.specs.Tree.{root, opened, path_of, seal_hash}
use Rattle.seal_text.specs.Sealed.{leaf_of, hashes_of}
use Rattle.seal_text.specs.declared.leaves.Section.{Section}

-- the opening in a receipt leads from the member's leaf to the root that the receipt names
abbrev pub ReceiptOpensLaw : Type 0
ReceiptOpensLaw =
    (secret : List ℕ) (section : Section) (texts : List (List ℕ)) (i : ℕ) (text : List ℕ) → slice_get texts i ≡ Some text →
    opened i (length texts) (leaf_hash (leaf_of secret section i text)) (path_of i (hashes_of secret section texts))
    ≡ Some (seal_hash (length texts) (root (hashes_of secret section texts)))

-- programme p has one name, quota, list and real name in two dockets, and is withdrawn from both or neither
pub record IsOneProgramme (d d' : Contents) (draft draft' : Draft) (real real' : Real) (p : ℕ) : Type 0 where
  pub name : programme_name d p ≡ programme_name d' p
  pub quota_is : quota d.instance p ≡ quota d'.instance p
  pub list : list_of_programme d draft p ≡ list_of_programme d' draft' p
  pub withdrawn : is_withdrawn d.instance.programmes_withdrawn p ≡ is_withdrawn d'.instance.programmes_withdrawn p
  pub real_name : slice_index_or real.programmes p None ≡ slice_index_or real'.programmes p None

-- resident r has one name, list and real name in two dockets, and is withdrawn from both or neither
pub record IsOneResident (d d' : Contents) (draft draft' : Draft) (real real' : Real) (r : ℕ) : Type 0 where
  pub name : resident_name d r ≡ resident_name d' r
  pub list : list_of_resident d draft r ≡ list_of_resident d' draft' r
  pub withdrawn : is_withdrawn d.instance.residents_withdrawn r ≡ is_withdrawn d'.instance.residents_withdrawn r
  pub real_name : slice_index_or real.residents r None ≡ slice_index_or real'.residents r None

-- Take two dockets with the same number of programmes, whose members have the same texts. The two dockets have the same
-- number of residents, and the same members.
pub record AreOneDocket (d d' : Contents) (draft draft' : Draft) (real real' : Real) : Type 0 where
  pub count : length d.instance.resident_lists ≡ length d'.instance.resident_lists
  pub programmes : (p : ℕ) → p < length d.instance.quotas → IsOneProgramme d d' draft draft' real real' p
  pub residents : (r : ℕ) → r < length d.instance.resident_lists → IsOneResident d d' draft draft' real real' r

abbrev pub SameTextsLaw : Type 0
SameTextsLaw =
    (d d' : Contents) (draft draft' : Draft) (real real' : Real) →
    ((p : ℕ) → quota d.instance p ≤ 10000) → ((p : ℕ) → quota d'.instance p ≤ 10000) → length d.instance.quotas ≡ length d'.instance.quotas →
    lists_texts d draft real ≡ lists_texts d' draft' real' → AreOneDocket d d' draft draft' real real'
