use Rattle.std.proofs.Common.{length}
use Rattle.match_model.specs.Draft.{lists_left}
use Rattle.match_model.specs.Owners.{AreBegun}
use Rattle.match_model.proofs.owners.owners.Given as goal

abbrev pub invariant-loop-owner : goal.invariant-loop-owner
invariant-loop-owner l = AreBegun l.member_count (length l.lists) l.owner (lists_left l.lists l.withdrawn) l.rows.rows l.counts.items
