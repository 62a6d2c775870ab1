use Rattle.std.proofs.Common.{◌≡◌, length}
use Rattle.match_reasons.proofs.Tallies.{AreSoFar}
use Rattle.match_reasons.proofs.taken.all_places_taken.Given as goal

abbrev pub invariant-loop-r : goal.invariant-loop-r
invariant-loop-r l = record {
  each : length l.taken_places.items ≡ l.programmes;
  so_far : AreSoFar l.listed.written l.sheet l.r l.taken_places.items;
}
