use Rattle.std.proofs.Common.{take}
use Rattle.receipt_check.specs.Rows.{Grows}
use Rattle.receipt_check.specs.Shown.{fields_in}
use Rattle.receipt_check.specs.Told.{more_names}
use Rattle.receipt_check.proofs.told.put_more_names.Given as goal

abbrev pub invariant-loop-k : goal.invariant-loop-k
invariant-loop-k l = Grows l.fn.sentences l.sentences (more_names (take l.k (fields_in l.names)))
