use Rattle.std.proofs.Common.{◌≡◌, ℕ, List, None, take, option_map}
use denote.Ref.{Bor}
use Rattle.receipt_check.specs.Faults.{first_in, name_at}
use Rattle.receipt_check.specs.Shown.{fields_in}
use Rattle.receipt_check.proofs.names.names_in.Given as goal

abbrev pub invariant-loop-k : goal.invariant-loop-k
invariant-loop-k l =
    (l.seen_names ≡ take l.k (fields_in l.names))
    × (first_in (name_at (option_map (λ (on : Bor (List (List ℕ))). on.now) l.list) (fields_in l.names)) l.k ≡ None)
