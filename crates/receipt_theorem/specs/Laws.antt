-- What the receipts of a sealed docket show. Each law is proved as the contract of a function with a like name.
use Rattle.std.specs.Prelude.{◌≡◌, ◌⊎◌, ℕ, ◌+◌, ◌<◌, Option, Some, None, Ok, List, [], ◌∷◌, codes, length, map, option_map, slice_get, slice_index_or}
use Rattle.std.specs.List.{range_with_len}
use Rattle.seal.specs.Hashes.{Leaf, leaf_hash, Collide}
use Rattle.seal.specs.Tree.{climb, sealed}
use Rattle.seal.specs.SealLaws.{sealed_at}
use Rattle.seal_text.specs.Secret.{secret_of}
use Rattle.seal_text.specs.Sealed.{leaves_from, published, receipt_of, receipts_text, roots_text}
use Rattle.seal_text.specs.Serving.{IsCaseIn, IsServed, draft_in}
use Rattle.seal_text.specs.Texts.{AreResultTexts, lists_texts}
use Rattle.seal_text.specs.declared.leaves.Section.{Section}
use Rattle.seal_text.specs.declared.leaves.Section.TheVariants.{Lists, Outcome}
use Rattle.seal_text.specs.declared.serve.Wanted.TheVariants.{Roots, Receipts}
use Rattle.audit_files.specs.Answer.{IsDocketIn}
use Rattle.docket.specs.Contents.{Contents}
use Rattle.docket.specs.Texts.{programme_name, resident_name}
use Rattle.reasons_text.specs.Answers.{CaseParts}
use Rattle.reasons_text.specs.RealNames.{AreReal, Real}
use Rattle.receipt_check.specs.Rows.{Cells, plain_text, split_rows}
use Rattle.receipt_check.specs.Receipt.{Receipt, lists_text, read, result_text}
use Rattle.receipt_check.specs.Faults.{digests_of, plain_number, receipt_fault}
use Rattle.receipt_check.specs.Good.{IsGoodReceipt}
use Rattle.receipt_check.specs.Pair.{compared_fault, content_of, difference}
use Rattle.receipt_check.specs.declared.kind.Kind.TheVariants.{Programme, Resident}
use Rattle.docket_names.specs.Texts.{number_in}
use Rattle.settle_law.specs.Stable.{IsStable}

-- What an office seals: its secret, the docket, the real names of a key, the texts of all members before the match,
-- and, if there is a sheet, their texts after it.
pub record Sealed : Type 0 where
  pub secret : List ℕ
  pub docket : Contents
  pub real : Real
  pub lists : List (List ℕ)
  pub results : Option (List (List ℕ))

-- the published root of the lists
abbrev pub lists_root : Sealed → List ℕ
lists_root s = published s.secret Lists s.lists

-- the published root of the result, if there is a sheet
abbrev pub result_root : Sealed → Option (List ℕ)
result_root s = option_map (published s.secret Outcome) s.results

-- what is sealed has the texts of the members of a docket with a sheet, before the match and after it
pub record AreTextsOfCase (docket sheet : List ℕ) (s : Sealed) : Type 0 where
  pub c : CaseParts
  pub read : IsCaseIn docket sheet c
  pub docket_is : s.docket ≡ c.docket
  pub lists_are : s.lists ≡ lists_texts c.docket (draft_in docket sheet) s.real
  pub results : List (List ℕ)
  pub are_results : AreResultTexts c results
  pub results_are : s.results ≡ Some results

-- what is sealed has the texts of the members of a docket without a sheet, only before the match
pub record AreTextsOfDocket (docket : List ℕ) (s : Sealed) : Type 0 where
  pub read : IsDocketIn docket [] [] s.docket
  pub lists_are : s.lists ≡ lists_texts s.docket (draft_in docket []) s.real
  pub results_are : s.results ≡ None

-- what is sealed has the texts that these files give, with or without a sheet's file
abbrev pub AreTextsOf : List ℕ → Option (List ℕ) → Sealed → Type 0
AreTextsOf docket None s = AreTextsOfDocket docket s
AreTextsOf docket (Some sheet) s = AreTextsOfCase docket sheet s

-- what is sealed has the secret, the real names and the texts that these files give
pub record IsSealed (docket : List ℕ) (sheet key : Option (List ℕ)) (secret_text : List ℕ) (s : Sealed) : Type 0 where
  pub is_secret : secret_of secret_text ≡ Ok s.secret
  pub are_real : AreReal s.docket key s.real
  pub texts : AreTextsOf docket sheet s

-- the same files always give the same sealed texts, so receipts and roots that are written for them belong
-- together
abbrev pub OneSealingLaw : Type 0
OneSealingLaw =
    (docket : List ℕ) (sheet key : Option (List ℕ)) (secret_text : List ℕ) (s s' : Sealed) →
    IsSealed docket sheet key secret_text s → IsSealed docket sheet key secret_text s' → s ≡ s'

-- what is written when the roots are wanted: the rows of the roots of what is sealed
pub record WritesRoots (docket : List ℕ) (sheet key : Option (List ℕ)) (secret_text text : List ℕ) : Type 0 where
  pub s : Sealed
  pub is_sealed : IsSealed docket sheet key secret_text s
  pub text_is : text ≡ roots_text s.secret s.lists s.results

-- the rows of roots that are written are the roots of what is sealed from the files
abbrev pub RootsLaw : Type 0
RootsLaw =
    (docket : List ℕ) (sheet key : Option (List ℕ)) (secret_text text : List ℕ) →
    IsServed Roots docket sheet key secret_text text → WritesRoots docket sheet key secret_text text

-- what is written when receipts are wanted: a receipt for each member, and each is good under the published roots
pub record WritesGoodReceipts (docket : List ℕ) (sheet key : Option (List ℕ)) (secret_text text : List ℕ) : Type 0 where
  pub s : Sealed
  pub is_sealed : IsSealed docket sheet key secret_text s
  pub text_is : text ≡ receipts_text s.secret s.docket s.lists s.results
  pub programmes : (p : ℕ) → p < length s.docket.instance.quotas →
      IsGoodReceipt (lists_root s) (result_root s) (receipt_of s.secret (codes "P") (programme_name s.docket p) s.lists s.results p)
  pub residents : (r : ℕ) → r < length s.docket.instance.resident_lists →
      IsGoodReceipt (lists_root s) (result_root s) (receipt_of s.secret (codes "R") (resident_name s.docket r) s.lists s.results (length s.docket.instance.quotas + r))

-- each receipt that is written is good under the published roots
abbrev pub GoodReceiptsLaw : Type 0
GoodReceiptsLaw =
    (docket : List ℕ) (sheet key : Option (List ℕ)) (secret_text text : List ℕ) →
    IsServed Receipts docket sheet key secret_text text → WritesGoodReceipts docket sheet key secret_text text

-- The fields of an opening are a salt and a path. The bytes hashed from the leaf with this salt and this text up to
-- the published root collide with the bytes hashed for the tree's own leaf at this place.
pub record CollidesAt (leaves : List Leaf) (count index : ℕ) (fields : Cells) (text : List ℕ) : Type 0 where
  pub salt : List ℕ
  pub path : List (List ℕ)
  pub top : List ℕ
  pub shown : digests_of fields ≡ Some (salt ∷ path)
  pub climbs : climb index count (leaf_hash (record { salt = salt; text = text })) path ≡ Some top
  pub collide : Collide (sealed index count (record { salt = salt; text = text }) path top)
      (sealed_at leaves index (slice_index_or leaves index (record { salt = salt; text = text })))

-- The text is the one sealed for the member at this place, and there are as many texts as the receipt says; or two
-- lists of hashed bytes collide.
abbrev pub IsSealedText : List ℕ → Section → List (List ℕ) → ℕ → ℕ → Cells → List ℕ → Type 0
IsSealedText secret section texts count index fields text =
    ((count ≡ length texts) × (slice_get texts index ≡ Some text)) ⊎ CollidesAt (leaves_from secret section 0 texts) count index fields text

-- What a receipt shows of what was sealed: it has a member's number, and its texts are those sealed for this member,
-- or hashed bytes collide.
pub record ShowsSealed (s : Sealed) (r : Receipt) : Type 0 where
  pub count : ℕ
  pub index : ℕ
  pub count_is : plain_number r.count ≡ Some count
  pub index_is : plain_number r.index ≡ Some index
  pub lists : IsSealedText s.secret Lists s.lists count index r.opening (lists_text r)
  pub result : (texts : List (List ℕ)) → s.results ≡ Some texts → IsSealedText s.secret Outcome texts count index r.second (result_text r)

-- a receipt that passes the check under the published roots shows what was sealed
abbrev pub SealedReceiptLaw : Type 0
SealedReceiptLaw =
    (docket : List ℕ) (sheet key : Option (List ℕ)) (secret_text : List ℕ) (s : Sealed) (bytes : List ℕ) →
    IsSealed docket sheet key secret_text s → receipt_fault (lists_root s) (result_root s) bytes ≡ None →
    ShowsSealed s (read (split_rows (plain_text bytes)))

-- For each member's number a receipt of this member, good under the root of the lists and this root of a result, with
-- the docket's number of members.
pub record AreReceiptsOf (s : Sealed) (result : List ℕ) (bytes : ℕ → List ℕ) : Type 0 where
  pub good : (i : ℕ) → i < length s.lists → compared_fault (length s.lists) (lists_root s) (length s.lists) result (bytes i) ≡ None
  pub numbers : (i : ℕ) → i < length s.lists → plain_number (content_of (bytes i)).index ≡ Some i

-- for each resident and each programme, the two receipts agree
abbrev pub AllAgree : ℕ → (ℕ → List ℕ) → Type 0
AllAgree count bytes =
    (i j : ℕ) → i < count → j < count → (content_of (bytes i)).kind ≡ Resident → (content_of (bytes j)).kind ≡ Programme →
    difference (content_of (bytes i)) (content_of (bytes j)) ≡ None

-- the number of the programme with this name
abbrev pub programme_named : Contents → Option (List ℕ) → Option ℕ
programme_named d None = None
programme_named d (Some name) = number_in d.programmes name

-- the placement in the residents' receipts; residents are numbered after all programmes
abbrev pub told_placement : Contents → (ℕ → List ℕ) → List (Option ℕ)
told_placement d bytes =
    map (λ r. programme_named d (content_of (bytes (length d.instance.quotas + r))).own) (range_with_len 0 (length d.instance.resident_lists))

-- for one of these receipts, the hashed bytes of its opening collide with those of the sealed lists
pub record OneCollides (s : Sealed) (bytes : ℕ → List ℕ) : Type 0 where
  pub index : ℕ
  pub is_member : index < length s.lists
  pub collides : CollidesAt (leaves_from s.secret Lists 0 s.lists) (length s.lists) index (content_of (bytes index)).opening (lists_text (content_of (bytes index)))

-- Let some root of a result be published, and let each member have a receipt that is good under it and under the root
-- of the docket's lists. If the receipts of each resident and each programme agree, the placement in the receipts is
-- stable for the docket, or two lists of hashed bytes collide.
abbrev pub AgreeingReceiptsLaw : Type 0
AgreeingReceiptsLaw =
    (docket : List ℕ) (sheet key : Option (List ℕ)) (secret_text : List ℕ) (s : Sealed) (result : List ℕ) (bytes : ℕ → List ℕ) →
    IsSealed docket sheet key secret_text s → AreReceiptsOf s result bytes → AllAgree (length s.lists) bytes →
    IsStable s.docket.instance (told_placement s.docket bytes) ⊎ OneCollides s bytes
