use Rattle.match_model.specs.Draft.{lists_left}
use Rattle.match_model.specs.Owners.{AreCounts}
use Rattle.match_model.proofs.owners.row_lengths.Given as goal

abbrev pub invariant-loop-owner : goal.invariant-loop-owner
invariant-loop-owner l = AreCounts l.member_count l.owner (lists_left l.lists l.withdrawn) l.counts.items
