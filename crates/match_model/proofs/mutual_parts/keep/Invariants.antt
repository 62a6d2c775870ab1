use Rattle.std.proofs.Common.{◌≡◌, ◌++◌, take}
use Rattle.std.specs.List.{filter}
use Rattle.match_model.specs.Ranking.{is_listed}
use Rattle.match_model.proofs.mutual_parts.keep.Given as goal

abbrev pub invariant-loop-number : goal.invariant-loop-number
invariant-loop-number l = l.kept_rows ≡ record { rows = l.fn.kept_rows.rows; begun = l.fn.kept_rows.begun ++ filter (is_listed l.row) (take l.number-index l.items) }
