-- The first fault of two receipts that are to be compared.
use Rattle.std.specs.Prelude.{◌≡◌, ⊤, ℕ, Option, Some, None, List}
use Rattle.receipt_check.specs.Faults.{first_of}
use Rattle.receipt_check.specs.Pair.{in_file, side_fault}
use Rattle.receipt_check.specs.declared.kind.Kind.TheVariants.{Programme, Resident}
use Rattle.receipt_check.specs.declared.published.Published.{Published}
use Rattle.receipt_check.specs.declared.wrong.Fault.{Fault}
use Rattle.receipt_check.specs.declared.wrong.CompareFault.{CompareFault}
use Rattle.receipt_check.specs.declared.wrong.CompareFault.TheVariants as faults

-- the first fault of a resident's and a programme's receipt, with the number of the receipt: 0 for the resident's, 1
-- for the programme's
abbrev pub pair_fault : Published → Published → List ℕ → List ℕ → Option (ℕ × Fault)
pair_fault lists outcome resident programme =
    first_of (in_file 0 (side_fault Resident lists.members lists.root outcome.members outcome.root resident))
    (in_file 1 (side_fault Programme lists.members lists.root outcome.members outcome.root programme))

-- the fault is the first fault of the receipts, unless memory or the writer failed
abbrev pub IsCompareFault : Option (ℕ × Fault) → CompareFault → Type 0
IsCompareFault found (faults.Wrong file fault) = found ≡ Some (file, fault)
IsCompareFault found faults.Memory = ⊤
IsCompareFault found faults.Write = ⊤
