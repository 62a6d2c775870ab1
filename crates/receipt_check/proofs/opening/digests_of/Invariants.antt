use Rattle.std.proofs.Common.{◌≡◌, ◌++◌, drop, option_map}
use Rattle.receipt_check.specs.Faults.{digests_of}
use Rattle.receipt_check.specs.Shown.{fields_in}
use Rattle.receipt_check.proofs.opening.digests_of.Given as goal

abbrev pub invariant-loop-k : goal.invariant-loop-k
invariant-loop-k l =
    option_map (λ rest. l.digests.items ++ rest) (digests_of (drop l.k (fields_in l.fields))) ≡ digests_of (fields_in l.fields)
