use Rattle.std.proofs.Common.{arith}
use Rattle.match_model.proofs.Noted.{noted_rank, noted_none}
use Rattle.match_model.proofs.places.place_in.Goals.{else-place-list-via-then-place-list+else-list-place, else-place-list-via-else-place-list}
use Rattle.match_model.proofs.places.place_in.Goals as goal

pub returns-then-list-place : goal.returns-then-list-place
returns-then-list-place c = noted_rank c.args.list.now c.args.places.now c.args.number c.requires.noted c.if-place-list.true c.if-list-place.true

pub returns : goal.returns
returns c = noted_none c.args.list.now c.args.places.now c.args.number c.requires.noted (elim c.else-place-list.branch [
  | else-place-list-via-then-place-list+else-list-place w ↦ λ h e. w.if-list-place.false e
  | else-place-list-via-else-place-list w ↦ λ h e. let past = w.if-place-list.false in absurd (omega arith)
])
