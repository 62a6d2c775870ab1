use Rattle.std.proofs.Common.{◌≡◌, ◌++◌}
use Rattle.std.specs.List.{flat_map, range_with_len}
use Rattle.receipt_check.specs.Folder.{choice_pair}
use Rattle.receipt_check.specs.Held.{receipts_of}
use Rattle.receipt_check.proofs.folder.FolderReceipts.push_choices.Given as goal

abbrev pub invariant-loop-k : goal.invariant-loop-k
invariant-loop-k l = l.pairs.items ≡ l.fn.pairs.items ++ flat_map (choice_pair (receipts_of l.self) l.resident_file) (range_with_len 0 l.k)
