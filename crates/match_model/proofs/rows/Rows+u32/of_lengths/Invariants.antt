use Rattle.std.proofs.Common.{◌≡◌, [], map, replicate, take}
use Rattle.match_model.proofs.rows.Rows+u32.of_lengths.Given as goal

abbrev pub invariant-loop-length : goal.invariant-loop-length
invariant-loop-length l = l.rows ≡ record { rows = map (λ n. replicate n 0) (take l.length-index l.lengths); begun = [] }
