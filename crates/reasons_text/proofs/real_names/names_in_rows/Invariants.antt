use Rattle.std.proofs.Common.{map, take}
use Rattle.csv.specs.Records.{fields_of}
use Rattle.reasons_text.specs.Naming.{both_of}
use Rattle.reasons_text.proofs.RealFacts.{HasNamed}
use Rattle.reasons_text.proofs.real_names.names_in_rows.Given as goal

abbrev pub invariant-loop-k : goal.invariant-loop-k
invariant-loop-k l = HasNamed l.docket (take l.k (map fields_of l.rows)) (both_of l.key) l.names
