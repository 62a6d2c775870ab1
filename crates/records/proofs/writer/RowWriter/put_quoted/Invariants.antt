use Rattle.std.proofs.Common.{◌∷◌, take}
use Rattle.csv.specs.Writing.{escaped, quote_mark}
use Rattle.records.specs.RowText.{Adds, row_setup}
use Rattle.records.proofs.writer.RowWriter.put_quoted.Given as goal

abbrev pub invariant-loop-i : goal.invariant-loop-i
invariant-loop-i g l =
    Adds g.W.Write.contents l.fn.self l.self (quote_mark ∷ escaped row_setup (take l.i l.field))
