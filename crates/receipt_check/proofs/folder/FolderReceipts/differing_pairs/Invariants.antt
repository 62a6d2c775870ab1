use Rattle.std.proofs.Common.{◌≡◌, filter, take}
use Rattle.receipt_check.specs.Folder.{differs}
use Rattle.receipt_check.specs.Held.{receipts_of}
use Rattle.receipt_check.proofs.folder.FolderReceipts.differing_pairs.Given as goal

abbrev pub invariant-loop-k : goal.invariant-loop-k
invariant-loop-k l = l.differing_pairs.items ≡ filter (differs (receipts_of l.self)) (take l.k l.pairs)
