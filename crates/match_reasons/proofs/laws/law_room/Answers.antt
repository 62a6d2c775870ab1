use Rattle.match_reasons.proofs.RoomProof.{room}
use Rattle.match_reasons.proofs.laws.law_room.Goals as goal

pub returns : goal.returns
returns c = room
