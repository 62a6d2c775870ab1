use Rattle.std.proofs.Common.{◌≡◌, ◌++◌}
use Rattle.std.specs.List.{flat_map, range_with_len}
use Rattle.receipt_check.specs.Folder.{resident_pairs}
use Rattle.receipt_check.specs.Held.{receipts_of}
use Rattle.receipt_check.proofs.folder.FolderReceipts.push_residents.Given as goal

abbrev pub invariant-loop-k : goal.invariant-loop-k
invariant-loop-k l = l.pairs.items ≡ l.fn.pairs.items ++ flat_map (resident_pairs (receipts_of l.self)) (range_with_len 0 l.k)
