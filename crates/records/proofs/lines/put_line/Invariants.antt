use Rattle.std.proofs.Common.{take}
use Rattle.csv.specs.Records.{fields_of}
use Rattle.csv.specs.Writing.{row_body, default_writer}
use Rattle.records.specs.Lines.{Grows}
use Rattle.records.proofs.lines.put_line.Given as goal

abbrev pub invariant-loop-i : goal.invariant-loop-i
invariant-loop-i l = Grows l.fn.text l.text (row_body default_writer (take l.i (fields_of l.row)))
