use Rattle.std.proofs.Common.{◌≡◌, ◌+◌, ◌≤◌, drop, option_map}
use Rattle.receipt_check.specs.Shape.{first_unlike}
use Rattle.receipt_check.proofs.shape.first_unlike.Given as goal

abbrev pub invariant-loop-i : goal.invariant-loop-i
invariant-loop-i l =
    (l.row ≤ l.i) × (option_map (λ rows. rows + l.row) (first_unlike (drop l.i l.text) (drop l.i l.other_text)) ≡ first_unlike l.text l.other_text)
