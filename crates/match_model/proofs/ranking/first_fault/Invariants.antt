use Rattle.std.proofs.Common.{◌≡◌, true, take, ltb}
use Rattle.std.specs.List.{list_all}
use Rattle.match_model.specs.Places.{ArePlaces}
use Rattle.match_model.specs.Draft.{has_no_repeats}
use Rattle.match_model.proofs.ranking.first_fault.Given as goal

abbrev pub invariant-loop-place : goal.invariant-loop-place
invariant-loop-place l = record {
  below : list_all (λ x. ltb x l.other_count) (take l.place l.items) ≡ true;
  distinct : has_no_repeats (take l.place l.items) ≡ true;
  noted : ArePlaces (take l.place l.items) l.item_places;
}
