use Rattle.std.proofs.Common.{◌≡◌, false, take}
use Rattle.std.specs.List.{list_any}
use Rattle.std.specs.Prelude.{bytes_eq}
use Rattle.receipt_check.specs.Receipt.{members}
use Rattle.receipt_check.specs.Side.{receipt_of}
use Rattle.receipt_check.proofs.side.ComparedReceipt.has.Given as goal

abbrev pub invariant-loop-k : goal.invariant-loop-k
invariant-loop-k l = list_any (bytes_eq l.name) (take l.k (members (receipt_of l.self))) ≡ false
