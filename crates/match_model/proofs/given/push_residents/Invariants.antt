use Rattle.std.proofs.Common.{◌≡◌, ◌+◌, ◌≤◌, ◌++◌, length, take, vec_len, vec_capacity}
use Rattle.match_model.proofs.given.push_residents.Given as goal

abbrev pub invariant-loop-resident : goal.invariant-loop-resident
invariant-loop-resident l = record {
  pushed : l.items.items ≡ l.fn.items.items ++ take l.resident-index l.residents;
  room : vec_len l.items + length l.residents ≤ vec_capacity l.items + l.resident-index;
}
