use Rattle.std.proofs.Common.{◌∙◌, ℕ, None, List, length, refl, arith}
use Rattle.std.proofs.lemmas.List.{length-set}
use Rattle.exchange_core.specs.Pending.{has_offers, has_due}
use Rattle.exchange_core.proofs.Counted.{owes, counted_one, counted_set}
use Rattle.exchange_core.specs.declared.part.Part.{Part}
use Rattle.exchange_core.specs.declared.resident_row.ResidentSeat.{ResidentSeat}
use Rattle.exchange_core.specs.Left.{ResidentLeft}
use Rattle.exchange_core.specs.Rows.{shown_resident}
use Rattle.exchange_core.specs.Seats.{opened_resident, gave_answer}
use Rattle.exchange_core.proofs.Rows.{index_within, ring_at, laid_set, rings_set, changed}
use Rattle.exchange_core.proofs.Steps.{same_resident_left}
use Rattle.exchange_core.proofs.resident_row.ResidentRow.answer.Goals as goal

pub recounted-self-inside-requires-clause-counted : goal.recounted-self-inside-requires-clause-counted
recounted-self-inside-requires-clause-counted c passes =
    let notes : List ℕ = c.self.inside.notes.items in
    let seats : List ResidentSeat = c.self.inside.seats.items in
    let seat : ResidentSeat = c.index_mut-seat.result.now in
    let h = index_within (shown_resident notes) seats c.args.self.now c.resident.inside.0 c.args.resident c.self.view_is c.resident.view_is c.requires in
    counted_one has_due (shown_resident notes) seats c.resident.inside.0 c.self.inside.residents_with_due seat h c.index_mut-seat.ensures.value c.self.invariant.due_counted
    _ (c.is_some-owed_answer.ensures ∙ owes seat.first_due seat.second_due) passes

pub invariant_of-self : goal.invariant_of-self
invariant_of-self c =
    let part : ResidentSeat → Part = λ s. s.part in
    let notes : List ℕ = c.self.inside.notes.items in
    let seats : List ResidentSeat = c.self.inside.seats.items in
    let seat : ResidentSeat = c.index_mut-seat.result.now in
    let new : ResidentSeat = record { part = seat.part; first_due = c.due_next-seat.result; second_due = None; held = c.held_after-seat.result; taken_rank = seat.taken_rank; held_rank = c.rank_after-seat.result } in
    let h = index_within (shown_resident notes) seats c.args.self.now c.resident.inside.0 c.args.resident c.self.view_is c.resident.view_is c.requires in
    record {
      laid = laid_set part shown_resident seats (length c.self.inside.notes.items) c.resident.inside.0 seat _ c.index_mut-seat.ensures.value refl c.self.invariant.laid;
      rings = rings_set part shown_resident seats c.resident.inside.0 _ (ring_at part shown_resident seats c.resident.inside.0 seat h c.index_mut-seat.ensures.value c.self.invariant.rings) c.self.invariant.rings;
      few = omega (arith, c.self.invariant.few, length-set seats c.resident.inside.0 new);
      offers_counted = counted_set has_offers (shown_resident notes) seats c.resident.inside.0 c.self.inside.residents_with_offers seat h c.index_mut-seat.ensures.value c.self.invariant.offers_counted new c.self.inside.residents_with_offers
          _ _ refl refl refl;
      due_counted = counted_set has_due (shown_resident notes) seats c.resident.inside.0 c.self.inside.residents_with_due seat h c.index_mut-seat.ensures.value c.self.invariant.due_counted new c.recounted-self-inside.result
          _ _ (c.is_some-owed_answer.ensures ∙ owes seat.first_due seat.second_due) (c.is_some-still_owes.ensures ∙ owes c.due_next-seat.result None) c.recounted-self-inside.ensures;
    }

pub returns : goal.returns
returns c =
    let notes : List ℕ = c.self.inside.notes.items in
    let seats : List ResidentSeat = c.self.inside.seats.items in
    let seat : ResidentSeat = c.index_mut-seat.result.now in
    let new : ResidentSeat = record { part = seat.part; first_due = c.due_next-seat.result; second_due = None; held = c.held_after-seat.result; taken_rank = seat.taken_rank; held_rank = c.rank_after-seat.result } in
    changed (shown_resident notes) seats c.args.self.now c.resident.inside.0 c.args.resident seat new (λ (s : ResidentLeft). gave_answer s (c.args.programme, c.args.kind)) (opened_resident 0)
    c.self.view_is c.resident.view_is c.requires c.index_mut-seat.ensures.value
    (same_resident_left (shown_resident notes new) (gave_answer (shown_resident notes seat) (c.args.programme, c.args.kind)) refl c.due_next-seat.ensures c.held_after-seat.ensures refl)
