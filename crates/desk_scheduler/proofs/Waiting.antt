-- How many desks wait for room in a mailbox.
use Rattle.std.proofs.Common.{◌≡◌, ℕ, ◌<◌, ◌≤◌, List, Option, Some, None, length, get_or, set, ap, arith}
use Rattle.std.specs.Prelude.{sum_by}
use Rattle.std.proofs.lemmas.List.{length-set}
use Rattle.std.proofs.lemmas.List.Sums.{sum_by-set, sum_by-le}
use Rattle.desk_scheduler.specs.Waits.{one_waits}

at_most_one : (o : Option ℕ) → one_waits o ≤ 1
at_most_one (Some mailbox) = omega arith
at_most_one None = omega arith

-- if some desk does not wait, fewer desks wait than there are desks
pub fewer_wait : (row : List (Option ℕ)) (d : ℕ) → d < length row → get_or row d None ≡ None → sum_by one_waits row < length row
fewer_wait row d within none =
    let more = sum_by-set one_waits row d (Some 0) None within in
    let most = sum_by-le one_waits 1 (set row d (Some 0)) (λ k e l. at_most_one (get_or (set row d (Some 0)) k e)) in
    omega (arith, more, most, length-set row d (Some 0), ap one_waits none)
