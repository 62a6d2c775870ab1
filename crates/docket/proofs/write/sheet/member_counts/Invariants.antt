use Rattle.docket.proofs.WriteFacts.{AreCounts}
use Rattle.docket.proofs.write.sheet.member_counts.Given as goal

abbrev pub invariant-loop-r : goal.invariant-loop-r
invariant-loop-r l = AreCounts l.assignment l.counts.items l.programmes l.r
