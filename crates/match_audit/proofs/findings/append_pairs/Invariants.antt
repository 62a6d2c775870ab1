use Rattle.std.proofs.Common.{◌≡◌, ◌++◌, map, take}
use Rattle.match_audit.proofs.findings.append_pairs.Given as goal

abbrev pub invariant-loop-programme : goal.invariant-loop-programme
invariant-loop-programme l = l.pairs.items ≡ l.fn.pairs.items ++ map (λ p. (l.resident, p)) (take l.programme-index l.programmes)
