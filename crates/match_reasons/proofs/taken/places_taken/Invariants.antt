use Rattle.match_model.specs.Instance.{list_at}
use Rattle.match_reasons.proofs.Tallies.{IsSoFar}
use Rattle.match_reasons.proofs.taken.places_taken.Given as goal

abbrev pub invariant-loop-r : goal.invariant-loop-r
invariant-loop-r l = IsSoFar (list_at l.listed.written.programme_lists l.programme) l.sheet l.programme l.r l.taken.members l.taken.last
