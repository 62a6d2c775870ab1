use Rattle.std.proofs.Common.{◌≡◌, None, map, replicate}
use Rattle.reasons_text.specs.RealNames.{real_in}
use Rattle.reasons_text.proofs.real_names.no_names.Given as goal

abbrev pub invariant-loop-n : goal.invariant-loop-n
invariant-loop-n l = map real_in l.names.items ≡ replicate l._n None
