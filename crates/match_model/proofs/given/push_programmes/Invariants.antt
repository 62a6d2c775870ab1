use Rattle.std.proofs.Common.{◌≡◌, ◌+◌, ◌≤◌, ◌++◌, length, take, vec_len, vec_capacity}
use Rattle.match_model.proofs.given.push_programmes.Given as goal

abbrev pub invariant-loop-programme : goal.invariant-loop-programme
invariant-loop-programme l = record {
  pushed : l.items.items ≡ l.fn.items.items ++ take l.programme-index l.programmes;
  room : vec_len l.items + length l.programmes ≤ vec_capacity l.items + l.programme-index;
}
