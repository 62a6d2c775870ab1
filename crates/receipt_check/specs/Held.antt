-- The receipts of a folder, as the program keeps them.
use Rattle.std.specs.Prelude.{◌≡◌, ℕ, false, List, map, slice_index_or}
use Rattle.std.specs.List.{All}
use denote.Ref.{Bor}
use Rattle.std.specs.Global.{Vec}
use Rattle.receipt_check.specs.Rows.{Cells}
use Rattle.receipt_check.specs.Receipt.{Receipt}
use Rattle.receipt_check.specs.Shown.{rows_in}
use Rattle.receipt_check.specs.Folder.{files_from, has_number, names_of}
use Rattle.receipt_check.specs.Side.{IsSide, receipt_of}
use Rattle.receipt_check.specs.declared.folder.FolderReceipts.{FolderReceipts}
use Rattle.receipt_check.specs.declared.kind.Kind.{Kind}
use Rattle.receipt_check.specs.declared.kind.Kind.TheVariants.{Programme, Resident}
use Rattle.receipt_check.specs.declared.present.PresentMembers.{PresentMembers}

-- the bytes in these vectors
abbrev pub bytes_in : List (Vec ℕ) → List (List ℕ)
bytes_in files = map (λ (file : Vec ℕ). file.items) files

-- the rows of several texts
abbrev pub rows_of : List (Vec (Vec (Bor (List ℕ)))) → List (List Cells)
rows_of texts = map (λ (rows : Vec (Vec (Bor (List ℕ)))). rows_in rows.items) texts

-- the contents of the receipts that are kept
abbrev pub receipts_of : FolderReceipts → List Receipt
receipts_of h = map receipt_of h.receipts.items

-- what is kept of one side: the names of the members who have a receipt, and the numbers of their
-- receipts
pub record ArePresent (kind : Kind) (rs : List Receipt) (there : PresentMembers) : Type 0 where
  pub names_are : there.names ≡ names_of kind rs
  pub files_are : there.file_numbers.items ≡ files_from kind 0 rs

-- what is kept for looking things up agrees with the receipts: the parts of each receipt, the
-- members' numbers, and the names of both sides
pub record IsHeld (h : FolderReceipts) : Type 0 where
  pub each : All IsSide h.receipts.items
  pub numbers_are : (n : ℕ) → slice_index_or h.noted_members.items n false ≡ has_number (receipts_of h) n
  pub residents_are : ArePresent Resident (receipts_of h) h.residents
  pub programmes_are : ArePresent Programme (receipts_of h) h.programmes
