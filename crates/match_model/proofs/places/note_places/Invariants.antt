use Rattle.std.proofs.Common.{take}
use Rattle.match_model.specs.Places.{ArePlaces}
use Rattle.match_model.proofs.places.note_places.Given as goal

abbrev pub invariant-loop-place : goal.invariant-loop-place
invariant-loop-place l = ArePlaces (take l.place l.list) l.places
