use Rattle.std.proofs.Common.{◌∙◌, ℕ, List, map, length, sym, ap, refl, subst, arith}
use Rattle.std.proofs.lemmas.List.{length-set}
use Rattle.exchange_core.specs.Pending.{has_answers, has_wish}
use Rattle.exchange_core.proofs.Counted.{waits, counted_one, counted_set}
use Rattle.exchange_core.specs.declared.part.Part.{Part}
use Rattle.exchange_core.specs.declared.programme_row.ProgrammeSeat.{ProgrammeSeat}
use Rattle.exchange_core.specs.Left.{ProgrammeLeft}
use Rattle.exchange_core.specs.Notes.{IsRing, waiting_in, span}
use Rattle.exchange_core.specs.Rows.{shown_programme, answer_of}
use Rattle.exchange_core.specs.Seats.{opened_programme, heard_answer}
use Rattle.exchange_core.proofs.Notes.{ring_popped, span_popped, waiting_popped}
use Rattle.exchange_core.proofs.Rows.{index_within, ring_at, laid_set, rings_set, changed}
use Rattle.exchange_core.proofs.Steps.{same_programme_left}
use Rattle.exchange_core.proofs.programme_row.ProgrammeRow.hear.Goals as goal
use Rattle.std.proofs.lemmas.List.{drop-map}

pub recounted-self-inside-requires-clause-counted : goal.recounted-self-inside-requires-clause-counted
recounted-self-inside-requires-clause-counted c passes =
    let notes : List ℕ = c.self.inside.notes.items in
    let seats : List ProgrammeSeat = c.self.inside.seats.items in
    let seat : ProgrammeSeat = c.index_mut-seat.result.now in
    let h = index_within (shown_programme notes) seats c.args.self.now c.programme.inside.0 c.args.programme c.self.view_is c.programme.view_is c.requires in
    counted_one has_answers (shown_programme notes) seats c.programme.inside.0 c.self.inside.programmes_with_answers seat h c.index_mut-seat.ensures.value c.self.invariant.answers_counted
    _ (waits answer_of notes seat.part) passes

pub recounted-self-inside-requires-2-clause-counted : goal.recounted-self-inside-requires-2-clause-counted
recounted-self-inside-requires-2-clause-counted c passes =
    let notes : List ℕ = c.self.inside.notes.items in
    let seats : List ProgrammeSeat = c.self.inside.seats.items in
    let seat : ProgrammeSeat = c.index_mut-seat.result.now in
    let h = index_within (shown_programme notes) seats c.args.self.now c.programme.inside.0 c.args.programme c.self.view_is c.programme.view_is c.requires in
    counted_one has_wish (shown_programme notes) seats c.programme.inside.0 c.self.inside.programmes_with_wish seat h c.index_mut-seat.ensures.value c.self.invariant.wishes_counted
    _ c.has_wish-had_wish.ensures passes

pub invariant_of-self : goal.invariant_of-self
invariant_of-self c =
    let part : ProgrammeSeat → Part = λ s. s.part in
    let notes : List ℕ = c.self.inside.notes.items in
    let seats : List ProgrammeSeat = c.self.inside.seats.items in
    let seat : ProgrammeSeat = c.index_mut-seat.result.now in
    let h = index_within (shown_programme notes) seats c.args.self.now c.programme.inside.0 c.args.programme c.self.view_is c.programme.view_is c.requires in
    let ring = ring_at part shown_programme seats c.programme.inside.0 seat h c.index_mut-seat.ensures.value c.self.invariant.rings in
    let new : ProgrammeSeat = record { part = c.pop.new.self; offers_made = seat.offers_made; offers_out = c.out_after-seat.result; places = seat.places; list_length = seat.list_length } in
    record {
      laid = laid_set part shown_programme seats (length notes) c.programme.inside.0 seat _ c.index_mut-seat.ensures.value (ap span c.pop.ensures ∙ span_popped seat.part) c.self.invariant.laid;
      rings = rings_set part shown_programme seats c.programme.inside.0 _ (subst IsRing (sym c.pop.ensures) (ring_popped seat.part ring)) c.self.invariant.rings;
      few = omega (arith, c.self.invariant.few, length-set seats c.programme.inside.0 new);
      answers_counted = counted_set has_answers (shown_programme notes) seats c.programme.inside.0 c.self.inside.programmes_with_answers seat h c.index_mut-seat.ensures.value c.self.invariant.answers_counted new c.recounted-self-inside.result
          _ _ (waits answer_of notes seat.part) (waits answer_of notes c.pop.new.self) c.recounted-self-inside.ensures;
      wishes_counted = counted_set has_wish (shown_programme notes) seats c.programme.inside.0 c.self.inside.programmes_with_wish seat h c.index_mut-seat.ensures.value c.self.invariant.wishes_counted new c.recounted-self-inside-2.result
          _ _ c.has_wish-had_wish.ensures c.has_wish-still_has_wish.ensures c.recounted-self-inside-2.ensures;
    }

pub returns : goal.returns
returns c =
    let part : ProgrammeSeat → Part = λ s. s.part in
    let notes : List ℕ = c.self.inside.notes.items in
    let seats : List ProgrammeSeat = c.self.inside.seats.items in
    let seat : ProgrammeSeat = c.index_mut-seat.result.now in
    let h = index_within (shown_programme notes) seats c.args.self.now c.programme.inside.0 c.args.programme c.self.view_is c.programme.view_is c.requires in
    let ring = ring_at part shown_programme seats c.programme.inside.0 seat h c.index_mut-seat.ensures.value c.self.invariant.rings in
    let new : ProgrammeSeat = record { part = c.pop.new.self; offers_made = seat.offers_made; offers_out = c.out_after-seat.result; places = seat.places; list_length = seat.list_length } in
    changed (shown_programme notes) seats c.args.self.now c.programme.inside.0 c.args.programme seat new (λ (s : ProgrammeLeft). heard_answer s (c.args.resident, c.args.kind)) (opened_programme 0 0 0)
    c.self.view_is c.programme.view_is c.requires c.index_mut-seat.ensures.value
    (same_programme_left (shown_programme notes new) (heard_answer (shown_programme notes seat) (c.args.resident, c.args.kind)) refl c.out_after-seat.ensures
    (ap (λ (p : Part). map answer_of (waiting_in notes p)) c.pop.ensures ∙ ap (λ (xs : List ℕ). map answer_of xs) (waiting_popped notes seat.part ring) ∙ sym (drop-map answer_of 1 (waiting_in notes seat.part)))
    (ap (λ (p : Part). (span p).1) c.pop.ensures ∙ ap (λ (s : ℕ × ℕ). s.1) (span_popped seat.part)) refl refl)
