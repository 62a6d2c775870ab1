use Rattle.std.proofs.Common.{◌≡◌, ◌+◌, ◌≤◌, ◌++◌, replicate, vec_len, vec_capacity}
use Rattle.match_model.proofs.rows.add_zeros.Given as goal

abbrev pub invariant-loop : goal.invariant-loop
invariant-loop l = record {
  added : l.items.items ≡ l.fn.items.items ++ replicate l.counter 0;
  room : vec_len l.items + l.zero_count ≤ vec_capacity l.items + l.counter;
}
