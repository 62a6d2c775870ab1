use Rattle.std.proofs.Common.{◌≡◌, None, take}
use Rattle.receipt_check.specs.Faults.{first_in}
use Rattle.receipt_check.specs.Folder.{contents_of, file_fault}
use Rattle.receipt_check.specs.Held.{IsHeld, bytes_in, receipts_of}
use Rattle.receipt_check.specs.Pair.{in_file}
use Rattle.receipt_check.proofs.pairs.gather_receipts.Given as goal

abbrev pub invariant-loop-k : goal.invariant-loop-k
invariant-loop-k l =
    (first_in (λ k. in_file k (file_fault l.published_lists l.published_result (bytes_in l.receipt_files) k)) l.k ≡ None)
    × (receipts_of l.receipts ≡ take l.k (contents_of (bytes_in l.receipt_files))) × IsHeld l.receipts
