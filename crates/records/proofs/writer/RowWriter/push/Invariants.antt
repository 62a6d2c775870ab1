use Rattle.std.proofs.Common.{map, take}
use Rattle.csv.specs.Writing.{row_body}
use Rattle.records.specs.RowText.{Adds, row_setup}
use Rattle.records.proofs.writer.RowWriter.push.Given as goal

abbrev pub invariant-loop-i : goal.invariant-loop-i
invariant-loop-i g l =
    Adds g.W.Write.contents l.fn.self l.self (row_body row_setup (take l.i (map (λ f. f.now) l.fields)))
