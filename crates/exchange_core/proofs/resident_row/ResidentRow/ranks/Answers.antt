use Rattle.std.proofs.Common.{length}
use Rattle.exchange_core.specs.declared.resident_row.ResidentSeat.{ResidentSeat}
use Rattle.exchange_core.specs.Rows.{shown_resident}
use Rattle.exchange_core.proofs.Rows.{index_within, part_within}
use Rattle.exchange_core.proofs.resident_row.ResidentRow.ranks.Goals as goal

pub first-requires-clause-within : goal.first-requires-clause-within
first-requires-clause-within c =
    part_within (λ (s : ResidentSeat). s.part) shown_resident c.self.inside.seats.items (length c.self.inside.notes.items) c.resident.inside.0 c.index.result.now
    (index_within (shown_resident c.self.inside.notes.items) c.self.inside.seats.items c.args.self.now c.resident.inside.0 c.args.resident c.self.view_is c.resident.view_is c.requires) c.index.ensures c.self.invariant.laid
