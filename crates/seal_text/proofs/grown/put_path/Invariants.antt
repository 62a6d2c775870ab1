use Rattle.std.proofs.Common.{take}
use Rattle.std.specs.List.{flat_map}
use Rattle.records.specs.Lines.{Grows}
use Rattle.seal_text.specs.Sealed.{digest_field}
use Rattle.seal_text.proofs.grown.put_path.Given as goal

abbrev pub invariant-loop-k : goal.invariant-loop-k
invariant-loop-k l = Grows l.fn.rows_text l.rows_text (flat_map digest_field (take l.k l.path))
