-- What a good receipt is, and the law of the check.
use Rattle.std.specs.Prelude.{◌≡◌, ◌≤◌, ◌↔◌, ⊤, Bool, true, false, Option, Some, None, List, [], ℕ, length}
use Rattle.receipt_check.specs.Rows.{Cells, plain_text}
use Rattle.receipt_check.specs.Receipt.{Receipt, receipt_text}
use Rattle.receipt_check.specs.Faults.{longest, receipt_fault, value_fault}
use Rattle.receipt_check.specs.declared.kind.Kind.{Kind}
use Rattle.receipt_check.specs.declared.kind.Kind.TheVariants.{Programme, Resident}
use Rattle.receipt_check.specs.declared.wrong.ReceiptFault.{ReceiptFault}
use Rattle.receipt_check.specs.declared.wrong.ReceiptFault.TheVariants as faults

-- No list is lost when the content is printed: a programme without a row for its list has no list, and a resident has
-- no such row.
abbrev pub ListIsShown : Kind → Bool → Cells → Type 0
ListIsShown Programme true list = ⊤
ListIsShown Programme false list = list ≡ []
ListIsShown Resident true list = ⊥
ListIsShown Resident false list = ⊤

-- The bytes are a good receipt under the published roots: they are not too many, they are the text of a receipt with
-- some content, no list of this content is missing from the text, and nothing is wrong with the content.
pub record IsGoodReceipt (lists_root : List ℕ) (result_root : Option (List ℕ)) (bytes : List ℕ) : Type 0 where
  pub content : Receipt
  pub is_short : length bytes ≤ longest
  pub text_is : plain_text bytes ≡ receipt_text lists_root result_root content
  pub list_is : ListIsShown content.kind content.has_list content.list
  pub nothing_wrong : value_fault lists_root result_root content ≡ None

-- the fault is the first fault of the receipt, unless memory or the writer failed
abbrev pub IsReceiptFault : List ℕ → Option (List ℕ) → List ℕ → ReceiptFault → Type 0
IsReceiptFault lists_root result_root bytes (faults.Wrong fault) = receipt_fault lists_root result_root bytes ≡ Some fault
IsReceiptFault lists_root result_root bytes faults.Memory = ⊤
IsReceiptFault lists_root result_root bytes faults.Write = ⊤

-- the check finds nothing wrong with a receipt exactly if it is a good receipt
abbrev pub GoodLaw : Type 0
GoodLaw =
    (lists_root : List ℕ) (result_root : Option (List ℕ)) (bytes : List ℕ) →
    (receipt_fault lists_root result_root bytes ≡ None) ↔ IsGoodReceipt lists_root result_root bytes
