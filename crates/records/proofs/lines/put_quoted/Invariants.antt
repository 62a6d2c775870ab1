use Rattle.std.proofs.Common.{◌∷◌, take}
use Rattle.csv.specs.Writing.{escaped, quote_mark, default_writer}
use Rattle.records.specs.Lines.{Grows}
use Rattle.records.proofs.lines.put_quoted.Given as goal

abbrev pub invariant-loop-i : goal.invariant-loop-i
invariant-loop-i l = Grows l.fn.text l.text (quote_mark ∷ escaped default_writer (take l.i l.field))
