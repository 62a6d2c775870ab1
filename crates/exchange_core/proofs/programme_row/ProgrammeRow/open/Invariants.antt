use Rattle.std.proofs.Common.{◌≡◌, ◌≤◌, ◌*◌, ℕ, List, map, length}
use Rattle.std.specs.List.{All, count_by, range_with_len}
use Rattle.exchange_core.specs.Pending.{has_wish}
use Rattle.match_model.specs.Instance.{quota, list_of_programme}
use Rattle.exchange_core.specs.Left.{room_within}
use Rattle.exchange_core.specs.Notes.{AreLaid}
use Rattle.exchange_core.specs.Rows.{shown_programme, programme_span, IsProgrammeRing}
use Rattle.exchange_core.specs.Seats.{opened_programme}
use Rattle.exchange_core.proofs.programme_row.ProgrammeRow.open.Given as goal

abbrev pub invariant-loop-p : goal.invariant-loop-p
invariant-loop-p l = record {
  opened : (notes : List ℕ) → map (shown_programme notes) l.seats.items ≡ map (λ p. opened_programme (room_within l.cap (2 * length (list_of_programme l.inst p))) (quota l.inst p) (length (list_of_programme l.inst p))) (range_with_len 0 l.p);
  laid : AreLaid (map programme_span l.seats.items) l.total_room;
  rings : All IsProgrammeRing l.seats.items;
  counted : (notes : List ℕ) → l.programmes_with_wish ≡ count_by has_wish (map (shown_programme notes) l.seats.items);
  few : l.total_room ≤ 4294967296 * l.p;
}
