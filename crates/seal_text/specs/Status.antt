-- The exit status of the program.
use Rattle.std.specs.Prelude.{ℕ, Bool, if◌then◌else◌, Result, Ok, Err}
use Rattle.audit_files.specs.Status.{fault_status_of}
use Rattle.reasons_text.specs.Status.{names_status_of}
use Rattle.receipt_check.specs.Shape.{is_changed}
use Rattle.receipt_check.specs.declared.wrong.CompareFault.{CompareFault}
use Rattle.receipt_check.specs.declared.wrong.CompareFault.TheVariants as compare
use Rattle.receipt_check.specs.declared.wrong.ReceiptFault.{ReceiptFault}
use Rattle.receipt_check.specs.declared.wrong.ReceiptFault.TheVariants as receipt
use Rattle.seal_text.specs.declared.fault.SealFault.{SealFault}
use Rattle.seal_text.specs.declared.fault.SealFault.TheVariants.{Secret, Files, Key, Unstable}

-- the status after sealing: 0 if all was written, 3 if there is no secret or the sheet isn't stable, else the status of
-- the files' or the key's fault
abbrev pub seal_status_of : Result (Unit {0}) SealFault → ℕ
seal_status_of (Ok written) = 0
seal_status_of (Err (Secret fault)) = 3
seal_status_of (Err (Files fault)) = fault_status_of fault
seal_status_of (Err (Key fault)) = names_status_of fault
seal_status_of (Err Unstable) = 3

-- the status after a check: 0 for a good receipt, 3 for a file that isn't as it was given, 4 for a wrong receipt, 1 if
-- memory or the writer failed
abbrev pub receipt_status_of : Result (Unit {0}) ReceiptFault → ℕ
receipt_status_of (Ok shown) = 0
receipt_status_of (Err (receipt.Wrong fault)) = if is_changed fault.wrong then 3 else 4
receipt_status_of (Err receipt.Memory) = 1
receipt_status_of (Err receipt.Write) = 1

-- the status after receipts were compared: 0 if they agree or show that the placement is stable, 4 if not, 3 for a file at
-- fault, 1 if memory or the writer failed
abbrev pub compare_status_of : Result Bool CompareFault → ℕ
compare_status_of (Ok agree) = if agree then 0 else 4
compare_status_of (Err (compare.Wrong file fault)) = 3
compare_status_of (Err compare.Memory) = 1
compare_status_of (Err compare.Write) = 1
