use Rattle.std.proofs.Common.{true, ◌≡◌, ◌∙◌, ◌<◌, ◌++◌, ◌∷◌, [], ℕ, List, length, map, slice_set, sym, ap, refl, subst, arith}
use Rattle.std.proofs.lemmas.List.{length-set, length-map, map_push}
use Rattle.exchange_core.specs.declared.part.Part.{Part}
use Rattle.exchange_core.specs.declared.resident_row.ResidentSeat.{ResidentSeat}
use Rattle.std.proofs.lemmas.Bool.{lt-ltb}
use Rattle.exchange_core.specs.Pending.{has_offers, has_due}
use Rattle.exchange_core.proofs.Counted.{waits, counted_one, counted_anew}
use Rattle.exchange_core.specs.Left.{ResidentLeft}
use Rattle.exchange_core.specs.Notes.{IsRing, AreLaid, waiting_in, place_in, span}
use Rattle.exchange_core.specs.Rows.{shown_resident, resident_span, programme_of}
use Rattle.exchange_core.specs.Seats.{opened_resident, sent_offer}
use Rattle.exchange_core.proofs.Notes.{length-waiting, ring_pushed, waiting_pushed}
use Rattle.exchange_core.proofs.Rows.{index_within, part_within, ring_at, laid_set, rings_set, shown_pushed, now_at, updated}
use Rattle.exchange_core.proofs.Steps.{same_resident_left}
use Rattle.exchange_core.proofs.resident_row.ResidentRow.receive.Goals as goal

pub push-requires-clause-within : goal.push-requires-clause-within
push-requires-clause-within c =
    part_within (λ (s : ResidentSeat). s.part) shown_resident c.self.inside.seats.items (length c.self.inside.notes.items) c.resident.inside.0 c.index_mut-seat.result.now
    (index_within (shown_resident c.self.inside.notes.items) c.self.inside.seats.items c.args.self.now c.resident.inside.0 c.args.resident c.self.view_is c.resident.view_is c.requires.member) c.index_mut-seat.ensures.value c.self.invariant.laid

pub push-requires-clause-room : goal.push-requires-clause-room
push-requires-clause-room c =
    let shown = now_at (shown_resident c.self.inside.notes.items) c.self.inside.seats.items c.args.self.now c.resident.inside.0 c.args.resident c.index_mut-seat.result.now (opened_resident 0) c.self.view_is c.resident.view_is c.requires.member c.index_mut-seat.ensures.value in
    let fewer = subst (λ (s : ResidentLeft). length s.waiting < s.room) shown c.requires.room in
    omega (arith, fewer, length-map (waiting_in c.self.inside.notes.items c.index_mut-seat.result.now.part) programme_of, length-waiting c.self.inside.notes.items c.index_mut-seat.result.now.part)

pub recounted-self-inside-requires-clause-counted : goal.recounted-self-inside-requires-clause-counted
recounted-self-inside-requires-clause-counted c passes =
    let notes : List ℕ = c.self.inside.notes.items in
    let seats : List ResidentSeat = c.self.inside.seats.items in
    let seat : ResidentSeat = c.index_mut-seat.result.now in
    let h = index_within (shown_resident notes) seats c.args.self.now c.resident.inside.0 c.args.resident c.self.view_is c.resident.view_is c.requires.member in
    counted_one has_offers (shown_resident notes) seats c.resident.inside.0 c.self.inside.residents_with_offers seat h c.index_mut-seat.ensures.value c.self.invariant.offers_counted
    _ (waits programme_of notes seat.part) passes

pub invariant_of-self : goal.invariant_of-self
invariant_of-self c =
    let notes : List ℕ = c.self.inside.notes.items in
    let seats : List ResidentSeat = c.self.inside.seats.items in
    let seat : ResidentSeat = c.index_mut-seat.result.now in
    let part : ResidentSeat → Part = λ s. s.part in
    let new : ResidentSeat = record { part = c.push.new.self; first_due = seat.first_due; second_due = seat.second_due; held = seat.held; taken_rank = seat.taken_rank; held_rank = seat.held_rank } in
    let h = index_within (shown_resident notes) seats c.args.self.now c.resident.inside.0 c.args.resident c.self.view_is c.resident.view_is c.requires.member in
    let shown = now_at (shown_resident notes) seats c.args.self.now c.resident.inside.0 c.args.resident seat (opened_resident 0) c.self.view_is c.resident.view_is c.requires.member c.index_mut-seat.ensures.value in
    let fewer = subst (λ (s : ResidentLeft). length s.waiting < s.room) shown c.requires.room in
    let ring = ring_at part shown_resident seats c.resident.inside.0 seat h c.index_mut-seat.ensures.value c.self.invariant.rings in
    let more : seat.part.len < seat.part.room = omega (arith, fewer, length-map (waiting_in notes seat.part) programme_of, length-waiting notes seat.part) in
    let written : List ℕ = slice_set notes (place_in seat.part seat.part.len) c.note_of_offer.result in
    let after : List ℕ → List ResidentLeft = λ xs. map (shown_resident xs) (slice_set seats c.resident.inside.0 new) in
    let rows : after c.push.new.notes.items ≡ slice_set (map (shown_resident notes) seats) c.resident.inside.0 (shown_resident written new) =
    ap after c.push.ensures.notes
    ∙ shown_pushed part shown_resident (λ s a b e. same_resident_left (shown_resident a s) (shown_resident b s) (ap (λ (xs : List ℕ). map programme_of xs) e) refl refl refl)
    seats notes c.resident.inside.0 c.note_of_offer.result seat new (shown_resident written new) h c.index_mut-seat.ensures.value c.self.invariant.laid c.self.invariant.rings more refl in
    record {
      laid = laid_set part shown_resident seats (length c.push.new.notes.items) c.resident.inside.0 seat new c.index_mut-seat.ensures.value (ap span c.push.ensures.part)
          (subst (λ (n : ℕ). AreLaid (map resident_span seats) n) (sym (ap (λ (xs : List ℕ). length xs) c.push.ensures.notes ∙ length-set notes (place_in seat.part seat.part.len) c.note_of_offer.result)) c.self.invariant.laid);
      rings = rings_set part shown_resident seats c.resident.inside.0 new (subst IsRing (sym c.push.ensures.part) (ring_pushed seat.part ring more)) c.self.invariant.rings;
      few = omega (arith, c.self.invariant.few, length-set seats c.resident.inside.0 new);
      offers_counted = counted_anew has_offers (shown_resident notes) seats c.resident.inside.0 c.self.inside.residents_with_offers seat h c.index_mut-seat.ensures.value c.self.invariant.offers_counted
          (after c.push.new.notes.items) (shown_resident written new) c.recounted-self-inside.result _ true rows (waits programme_of notes seat.part)
          (sym (lt-ltb 0 c.push.new.self.len (omega (arith, ap (λ (p : Part). p.len) c.push.ensures.part))) ∙ waits programme_of written c.push.new.self) c.recounted-self-inside.ensures;
      due_counted = counted_anew has_due (shown_resident notes) seats c.resident.inside.0 c.self.inside.residents_with_due seat h c.index_mut-seat.ensures.value c.self.invariant.due_counted
          (after c.push.new.notes.items) (shown_resident written new) c.self.inside.residents_with_due _ _ rows refl refl refl;
    }

pub returns : goal.returns
returns c =
    let notes : List ℕ = c.self.inside.notes.items in
    let seats : List ResidentSeat = c.self.inside.seats.items in
    let seat : ResidentSeat = c.index_mut-seat.result.now in
    let part : ResidentSeat → Part = λ s. s.part in
    let new : ResidentSeat = record { part = c.push.new.self; first_due = seat.first_due; second_due = seat.second_due; held = seat.held; taken_rank = seat.taken_rank; held_rank = seat.held_rank } in
    let h = index_within (shown_resident notes) seats c.args.self.now c.resident.inside.0 c.args.resident c.self.view_is c.resident.view_is c.requires.member in
    let shown = now_at (shown_resident notes) seats c.args.self.now c.resident.inside.0 c.args.resident seat (opened_resident 0) c.self.view_is c.resident.view_is c.requires.member c.index_mut-seat.ensures.value in
    let first = now_at (shown_resident notes) seats (map (shown_resident notes) seats) c.resident.inside.0 c.resident.inside.0 seat (opened_resident 0) refl refl (omega (arith, h, length-map seats (shown_resident notes))) c.index_mut-seat.ensures.value in
    let few = subst (λ (s : ResidentLeft). length s.waiting < s.room) shown c.requires.room in
    let more : seat.part.len < seat.part.room = omega (arith, few, length-map (waiting_in notes seat.part) programme_of, length-waiting notes seat.part) in
    let ring = ring_at part shown_resident seats c.resident.inside.0 seat h c.index_mut-seat.ensures.value c.self.invariant.rings in
    let written : List ℕ = slice_set notes (place_in seat.part seat.part.len) c.note_of_offer.result in
    let here : shown_resident written new ≡ sent_offer (shown_resident notes seat) c.args.programme =
    same_resident_left (shown_resident written new) (sent_offer (shown_resident notes seat) c.args.programme)
    (ap (λ (p : Part). map programme_of (waiting_in written p)) c.push.ensures.part
    ∙ ap (λ (xs : List ℕ). map programme_of xs) (waiting_pushed notes seat.part c.note_of_offer.result ring more (part_within part shown_resident seats (length notes) c.resident.inside.0 seat h c.index_mut-seat.ensures.value c.self.invariant.laid))
    ∙ map_push programme_of (waiting_in notes seat.part) c.note_of_offer.result
    ∙ ap (λ (p : ℕ). map programme_of (waiting_in notes seat.part) ++ p ∷ []) c.note_of_offer.ensures.programme)
    refl
    refl
    (ap (λ (p : Part). p.room) c.push.ensures.part) in
    ap (λ (xs : List ℕ). map (shown_resident xs) (slice_set seats c.resident.inside.0 new)) c.push.ensures.notes
    ∙ shown_pushed part shown_resident (λ s a b e. same_resident_left (shown_resident a s) (shown_resident b s) (ap (λ (xs : List ℕ). map programme_of xs) e) refl refl refl)
    seats notes c.resident.inside.0 c.note_of_offer.result seat new (sent_offer (shown_resident notes seat) c.args.programme) h c.index_mut-seat.ensures.value c.self.invariant.laid c.self.invariant.rings more here
    ∙ ap (λ (s : ResidentLeft). slice_set (map (shown_resident notes) seats) c.resident.inside.0 (sent_offer s c.args.programme)) (sym first)
    ∙ updated (map (shown_resident notes) seats) c.args.self.now c.resident.inside.0 c.args.resident (λ (s : ResidentLeft). sent_offer s c.args.programme) (opened_resident 0) c.self.view_is c.resident.view_is
