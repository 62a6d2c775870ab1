use Rattle.match_model.specs.Owners.{AreCounts}
use Rattle.match_model.proofs.owners.lengths_by_rows.Given as goal

abbrev pub invariant-loop-owner : goal.invariant-loop-owner
invariant-loop-owner l = AreCounts l.member_count l.owner (l.lists.rows) l.counts.items
