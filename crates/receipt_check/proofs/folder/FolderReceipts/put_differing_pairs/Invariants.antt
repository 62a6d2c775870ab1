use Rattle.std.proofs.Common.{take}
use Rattle.std.specs.List.{flat_map}
use Rattle.receipt_check.specs.Folder.{words_at}
use Rattle.receipt_check.specs.Held.{receipts_of}
use Rattle.receipt_check.specs.Rows.{Grows}
use Rattle.receipt_check.proofs.folder.FolderReceipts.put_differing_pairs.Given as goal

abbrev pub invariant-loop-k : goal.invariant-loop-k
invariant-loop-k l = Grows l.fn.sentences l.sentences (flat_map (words_at (receipts_of l.self)) (take l.k l.pairs))
