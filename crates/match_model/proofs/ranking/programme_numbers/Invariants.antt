use Rattle.std.proofs.Common.{◌≡◌, ◌+◌, ◌≤◌, length, take, vec_len, vec_capacity}
use Rattle.match_model.proofs.ranking.programme_numbers.Given as goal

abbrev pub invariant-loop-number : goal.invariant-loop-number
invariant-loop-number l = record {
  named : l.programmes.items ≡ take l.number-index l.numbers;
  room : vec_len l.programmes + length l.numbers ≤ vec_capacity l.programmes + l.number-index;
}
