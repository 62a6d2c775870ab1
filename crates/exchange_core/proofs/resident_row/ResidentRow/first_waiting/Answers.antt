use Rattle.std.proofs.Common.{◌∙◌, Some, length, sym, ap, slice_get}
use Rattle.exchange_core.specs.declared.resident_row.ResidentSeat.{ResidentSeat}
use Rattle.exchange_core.specs.Left.{ResidentLeft}
use Rattle.exchange_core.specs.Notes.{waiting_in}
use Rattle.exchange_core.specs.Rows.{shown_resident, programme_of}
use Rattle.exchange_core.specs.Seats.{opened_resident}
use Rattle.exchange_core.proofs.Rows.{index_within, part_within, now_at, front_some, front_none}
use Rattle.exchange_core.proofs.resident_row.ResidentRow.first_waiting.Goals as goal

pub first-requires-clause-within : goal.first-requires-clause-within
first-requires-clause-within c =
    part_within (λ (s : ResidentSeat). s.part) shown_resident c.self.inside.seats.items (length c.self.inside.notes.items) c.resident.inside.0 c.index.result.now
    (index_within (shown_resident c.self.inside.notes.items) c.self.inside.seats.items c.args.self.now c.resident.inside.0 c.args.resident c.self.view_is c.resident.view_is c.requires) c.index.ensures c.self.invariant.laid

pub returns-in-Some : goal.returns-in-Some
returns-in-Some c =
    ap Some c.programme_of.ensures
    ∙ sym (front_some programme_of (waiting_in c.self.inside.notes.items c.index.result.now.part) c.in-Some.note (sym c.first.ensures ∙ c.in-Some.is))
    ∙ ap (λ (s : ResidentLeft). slice_get s.waiting 0) (sym (now_at (shown_resident c.self.inside.notes.items) c.self.inside.seats.items c.args.self.now c.resident.inside.0 c.args.resident c.index.result.now (opened_resident 0) c.self.view_is c.resident.view_is c.requires c.index.ensures))

pub returns-in-None : goal.returns-in-None
returns-in-None c =
    sym (front_none programme_of (waiting_in c.self.inside.notes.items c.index.result.now.part) (sym c.first.ensures ∙ c.in-None.is))
    ∙ ap (λ (s : ResidentLeft). slice_get s.waiting 0) (sym (now_at (shown_resident c.self.inside.notes.items) c.self.inside.seats.items c.args.self.now c.resident.inside.0 c.args.resident c.index.result.now (opened_resident 0) c.self.view_is c.resident.view_is c.requires c.index.ensures))
