use Rattle.std.proofs.Common.{◌∙◌, ℕ, List, true, false, not, map, length, sym, ap, refl, subst, arith}
use Rattle.std.proofs.lemmas.List.{length-set}
use Rattle.exchange_core.specs.declared.part.Part.{Part}
use Rattle.exchange_core.specs.declared.resident_row.ResidentSeat.{ResidentSeat}
use Rattle.exchange_core.specs.Left.{ResidentLeft}
use Rattle.exchange_core.specs.Notes.{IsRing, waiting_in, span}
use Rattle.exchange_core.specs.Rows.{shown_resident, programme_of}
use Rattle.exchange_core.specs.Seats.{opened_resident, took_offer}
use Rattle.exchange_core.specs.Mail.{Answered}
use Rattle.exchange_core.specs.Refusal.{is_nil}
use Rattle.exchange_core.specs.Pending.{has_offers, has_due}
use Rattle.exchange_core.proofs.Counted.{waits, calls, counted_one, counted_set}
use Rattle.exchange_core.proofs.Notes.{ring_popped, span_popped, waiting_popped}
use Rattle.exchange_core.proofs.Rows.{index_within, now_at, ring_at, laid_set, rings_set, changed}
use Rattle.exchange_core.proofs.Steps.{same_resident_left}
use Rattle.std.proofs.lemmas.List.{drop-map}
use Rattle.exchange_core.proofs.resident_row.ResidentRow.take.Goals as goal

pub recounted-self-inside-requires-clause-counted : goal.recounted-self-inside-requires-clause-counted
recounted-self-inside-requires-clause-counted c passes =
    let notes : List ℕ = c.self.inside.notes.items in
    let seats : List ResidentSeat = c.self.inside.seats.items in
    let seat : ResidentSeat = c.index_mut-seat.result.now in
    let h = index_within (shown_resident notes) seats c.args.self.now c.resident.inside.0 c.args.resident c.self.view_is c.resident.view_is c.requires.member in
    counted_one has_offers (shown_resident notes) seats c.resident.inside.0 c.self.inside.residents_with_offers seat h c.index_mut-seat.ensures.value c.self.invariant.offers_counted
    _ (waits programme_of notes seat.part) passes

pub invariant_of-self : goal.invariant_of-self
invariant_of-self c =
    let part : ResidentSeat → Part = λ s. s.part in
    let notes : List ℕ = c.self.inside.notes.items in
    let seats : List ResidentSeat = c.self.inside.seats.items in
    let seat : ResidentSeat = c.index_mut-seat.result.now in
    let new : ResidentSeat = record { part = c.pop.new.self; first_due = c.called_for-due_answers.result.0; second_due = c.called_for-due_answers.result.1; held = seat.held; taken_rank = c.args.rank; held_rank = seat.held_rank } in
    let h = index_within (shown_resident notes) seats c.args.self.now c.resident.inside.0 c.args.resident c.self.view_is c.resident.view_is c.requires.member in
    let ring = ring_at part shown_resident seats c.resident.inside.0 seat h c.index_mut-seat.ensures.value c.self.invariant.rings in
    let nothing = sym (ap (λ (s : ResidentLeft). s.due) (now_at (shown_resident notes) seats c.args.self.now c.resident.inside.0 c.args.resident seat (opened_resident 0) c.self.view_is c.resident.view_is c.requires.member c.index_mut-seat.ensures.value)) ∙ c.requires.due in
    record {
      laid = laid_set part shown_resident seats (length c.self.inside.notes.items) c.resident.inside.0 seat _ c.index_mut-seat.ensures.value (ap span c.pop.ensures ∙ span_popped seat.part) c.self.invariant.laid;
      rings = rings_set part shown_resident seats c.resident.inside.0 _ (subst IsRing (sym c.pop.ensures) (ring_popped seat.part ring)) c.self.invariant.rings;
      few = omega (arith, c.self.invariant.few, length-set seats c.resident.inside.0 new);
      offers_counted = counted_set has_offers (shown_resident notes) seats c.resident.inside.0 c.self.inside.residents_with_offers seat h c.index_mut-seat.ensures.value c.self.invariant.offers_counted new c.recounted-self-inside.result
          _ _ (waits programme_of notes seat.part) (waits programme_of notes c.pop.new.self) c.recounted-self-inside.ensures;
      due_counted = counted_set has_due (shown_resident notes) seats c.resident.inside.0 c.self.inside.residents_with_due seat h c.index_mut-seat.ensures.value c.self.invariant.due_counted new c.recounted-self-inside-2.result
          false true (sym (ap (λ (xs : List Answered). not (is_nil xs)) nothing)) (calls c.args.better seat.held c.args.programme ∙ sym (ap (λ (xs : List Answered). not (is_nil xs)) c.called_for-due_answers.ensures)) c.recounted-self-inside-2.ensures;
    }

pub returns : goal.returns
returns c =
    let part : ResidentSeat → Part = λ s. s.part in
    let notes : List ℕ = c.self.inside.notes.items in
    let seats : List ResidentSeat = c.self.inside.seats.items in
    let seat : ResidentSeat = c.index_mut-seat.result.now in
    let new : ResidentSeat = record { part = c.pop.new.self; first_due = c.called_for-due_answers.result.0; second_due = c.called_for-due_answers.result.1; held = seat.held; taken_rank = c.args.rank; held_rank = seat.held_rank } in
    let h = index_within (shown_resident notes) seats c.args.self.now c.resident.inside.0 c.args.resident c.self.view_is c.resident.view_is c.requires.member in
    let ring = ring_at part shown_resident seats c.resident.inside.0 seat h c.index_mut-seat.ensures.value c.self.invariant.rings in
    changed (shown_resident notes) seats c.args.self.now c.resident.inside.0 c.args.resident seat new (λ (s : ResidentLeft). took_offer s c.args.better c.args.programme) (opened_resident 0)
    c.self.view_is c.resident.view_is c.requires.member c.index_mut-seat.ensures.value
    (same_resident_left (shown_resident notes new) (took_offer (shown_resident notes seat) c.args.better c.args.programme)
    (ap (λ (p : Part). map programme_of (waiting_in notes p)) c.pop.ensures ∙ ap (λ (xs : List ℕ). map programme_of xs) (waiting_popped notes seat.part ring) ∙ sym (drop-map programme_of 1 (waiting_in notes seat.part))) c.called_for-due_answers.ensures refl
    (ap (λ (p : Part). (span p).1) c.pop.ensures ∙ ap (λ (s : ℕ × ℕ). s.1) (span_popped seat.part)))
