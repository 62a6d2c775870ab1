use Rattle.std.proofs.Common.{length}
use Rattle.match_model.specs.Owners.{AreBegun}
use Rattle.match_model.proofs.owners.owners_of_rows.Given as goal

abbrev pub invariant-loop-owner : goal.invariant-loop-owner
invariant-loop-owner l = AreBegun l.member_count (length l.lists.rows) l.owner (l.lists.rows) l.rows.rows l.counts.items
