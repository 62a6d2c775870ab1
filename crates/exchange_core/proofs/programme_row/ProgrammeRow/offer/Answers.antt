use Rattle.std.proofs.Common.{◌<◌, ◌+◌, ℕ, List, length, refl, subst, arith}
use Rattle.std.proofs.lemmas.List.{length-set}
use Rattle.exchange_core.specs.Pending.{has_answers, has_wish}
use Rattle.exchange_core.proofs.Counted.{counted_one, counted_set}
use Rattle.exchange_core.specs.declared.part.Part.{Part}
use Rattle.exchange_core.specs.declared.programme_row.ProgrammeSeat.{ProgrammeSeat}
use Rattle.exchange_core.specs.Left.{ProgrammeLeft}
use Rattle.exchange_core.specs.Rows.{shown_programme}
use Rattle.exchange_core.specs.Seats.{opened_programme, made_offer}
use Rattle.exchange_core.proofs.Rows.{index_within, ring_at, laid_set, rings_set, now_at, changed}
use Rattle.exchange_core.proofs.Steps.{same_programme_left}
use Rattle.exchange_core.proofs.programme_row.ProgrammeRow.offer.Goals as goal

pub one_more-seat-requires : goal.one_more-seat-requires
one_more-seat-requires c =
    let notes : List ℕ = c.self.inside.notes.items in
    let shown = now_at (shown_programme notes) c.self.inside.seats.items c.args.self.now c.programme.inside.0 c.args.programme c.index_mut-seat.result.now (opened_programme 0 0 0) c.self.view_is c.programme.view_is c.requires.member c.index_mut-seat.ensures.value in
    subst (λ (s : ProgrammeLeft). s.out < s.places) shown c.requires.place

pub recounted-self-inside-requires-clause-counted : goal.recounted-self-inside-requires-clause-counted
recounted-self-inside-requires-clause-counted c passes =
    let notes : List ℕ = c.self.inside.notes.items in
    let seats : List ProgrammeSeat = c.self.inside.seats.items in
    let seat : ProgrammeSeat = c.index_mut-seat.result.now in
    let h = index_within (shown_programme notes) seats c.args.self.now c.programme.inside.0 c.args.programme c.self.view_is c.programme.view_is c.requires.member in
    counted_one has_wish (shown_programme notes) seats c.programme.inside.0 c.self.inside.programmes_with_wish seat h c.index_mut-seat.ensures.value c.self.invariant.wishes_counted
    _ c.has_wish-had_wish.ensures passes

pub invariant_of-self : goal.invariant_of-self
invariant_of-self c =
    let part : ProgrammeSeat → Part = λ s. s.part in
    let notes : List ℕ = c.self.inside.notes.items in
    let seats : List ProgrammeSeat = c.self.inside.seats.items in
    let seat : ProgrammeSeat = c.index_mut-seat.result.now in
    let h = index_within (shown_programme notes) seats c.args.self.now c.programme.inside.0 c.args.programme c.self.view_is c.programme.view_is c.requires.member in
    let new : ProgrammeSeat = record { part = seat.part; offers_made = seat.offers_made + 1; offers_out = c.one_more-seat.result; places = seat.places; list_length = seat.list_length } in
    record {
      laid = laid_set part shown_programme seats (length notes) c.programme.inside.0 seat _ c.index_mut-seat.ensures.value refl c.self.invariant.laid;
      rings = rings_set part shown_programme seats c.programme.inside.0 _ (ring_at part shown_programme seats c.programme.inside.0 seat h c.index_mut-seat.ensures.value c.self.invariant.rings) c.self.invariant.rings;
      few = omega (arith, c.self.invariant.few, length-set seats c.programme.inside.0 new);
      answers_counted = counted_set has_answers (shown_programme notes) seats c.programme.inside.0 c.self.inside.programmes_with_answers seat h c.index_mut-seat.ensures.value c.self.invariant.answers_counted new c.self.inside.programmes_with_answers
          _ _ refl refl refl;
      wishes_counted = counted_set has_wish (shown_programme notes) seats c.programme.inside.0 c.self.inside.programmes_with_wish seat h c.index_mut-seat.ensures.value c.self.invariant.wishes_counted new c.recounted-self-inside.result
          _ _ c.has_wish-had_wish.ensures c.has_wish-still_has_wish.ensures c.recounted-self-inside.ensures;
    }

pub returns : goal.returns
returns c =
    let part : ProgrammeSeat → Part = λ s. s.part in
    let notes : List ℕ = c.self.inside.notes.items in
    let seats : List ProgrammeSeat = c.self.inside.seats.items in
    let seat : ProgrammeSeat = c.index_mut-seat.result.now in
    let new : ProgrammeSeat = record { part = seat.part; offers_made = seat.offers_made + 1; offers_out = c.one_more-seat.result; places = seat.places; list_length = seat.list_length } in
    changed (shown_programme notes) seats c.args.self.now c.programme.inside.0 c.args.programme seat new (λ (s : ProgrammeLeft). made_offer s) (opened_programme 0 0 0)
    c.self.view_is c.programme.view_is c.requires.member c.index_mut-seat.ensures.value
    (same_programme_left (shown_programme notes new) (made_offer (shown_programme notes seat)) refl c.one_more-seat.ensures refl refl refl refl)
