use Rattle.std.proofs.Common.{◌≡◌}
use Rattle.csv.specs.Records.{fields_of}
use Rattle.reasons_text.specs.Keys.{is_blank_below}
use Rattle.reasons_text.proofs.key.is_blank.Given as goal

abbrev pub invariant-loop-i : goal.invariant-loop-i
invariant-loop-i l = l.are_all_blank ≡ is_blank_below (fields_of l.row) l.i
