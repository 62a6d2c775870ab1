use Rattle.std.proofs.Common.{map}
use Rattle.csv.specs.Records.{fields_of}
use Rattle.reasons_text.proofs.KeyInvariant.{HasRows}
use Rattle.reasons_text.proofs.real_names.key_rows.Given as goal

abbrev pub invariant-loop-n : goal.invariant-loop-n
invariant-loop-n l = HasRows l.key_bytes l.reader (map fields_of l.rows.items)
