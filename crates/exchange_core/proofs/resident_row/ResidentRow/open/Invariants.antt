use Rattle.std.proofs.Common.{◌≡◌, ◌≤◌, ◌*◌, ℕ, List, map, length}
use Rattle.std.specs.List.{All, range_with_len}
use Rattle.match_model.specs.Instance.{list_of_resident}
use Rattle.exchange_core.specs.Left.{room_within}
use Rattle.exchange_core.specs.Notes.{AreLaid}
use Rattle.exchange_core.specs.Rows.{shown_resident, resident_span, IsResidentRing}
use Rattle.exchange_core.specs.Seats.{opened_resident}
use Rattle.exchange_core.proofs.resident_row.ResidentRow.open.Given as goal

abbrev pub invariant-loop-r : goal.invariant-loop-r
invariant-loop-r l = record {
  opened : (notes : List ℕ) → map (shown_resident notes) l.seats.items ≡ map (λ r. opened_resident (room_within l.cap (length (list_of_resident l.inst r)))) (range_with_len 0 l.r);
  laid : AreLaid (map resident_span l.seats.items) l.total_room;
  rings : All IsResidentRing l.seats.items;
  few : l.total_room ≤ 4294967296 * l.r;
}
