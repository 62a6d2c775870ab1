use Rattle.std.proofs.Common.{true, ◌≡◌, ◌∙◌, ◌++◌, ◌∷◌, [], ◌<◌, ℕ, List, map, get_or, slice_set, length, sym, ap, refl, subst, arith}
use Rattle.std.proofs.lemmas.List.{length-set, length-map, map_push}
use Rattle.exchange_core.specs.declared.part.Part.{Part}
use Rattle.exchange_core.specs.declared.programme_row.ProgrammeSeat.{ProgrammeSeat}
use Rattle.std.proofs.lemmas.Bool.{lt-ltb}
use Rattle.exchange_core.specs.Pending.{has_answers, has_wish}
use Rattle.exchange_core.proofs.Counted.{waits, counted_one, counted_anew}
use Rattle.exchange_core.specs.Left.{ProgrammeLeft}
use Rattle.exchange_core.specs.Notes.{IsRing, AreLaid, waiting_in, place_in, span}
use Rattle.exchange_core.specs.Rows.{shown_programme, programme_span, answer_of}
use Rattle.exchange_core.specs.Seats.{opened_programme, sent_answer}
use Rattle.exchange_core.proofs.Notes.{length-waiting, ring_pushed, waiting_pushed}
use Rattle.exchange_core.proofs.Rows.{index_within, part_within, ring_at, laid_set, rings_set, shown_pushed, now_at, updated}
use Rattle.exchange_core.proofs.Steps.{same_programme_left}
use Rattle.exchange_core.proofs.programme_row.ProgrammeRow.receive.Goals as goal
use Rattle.exchange_core.specs.Mail.{Answered}
use Rattle.exchange_core.proofs.NoteCodes.{answer_of_note}

-- where fewer answers wait than the mailbox has room for, the part of the seat has room
room_left : (notes : List ℕ) (seats : List ProgrammeSeat) (rows : List ProgrammeLeft) (i r : ℕ) (seat : ProgrammeSeat) → map (shown_programme notes) seats ≡ rows → i ≡ r → r < length rows → seat ≡ get_or seats i seat
    → length (get_or rows r (opened_programme 0 0 0)).waiting < (get_or rows r (opened_programme 0 0 0)).room → seat.part.len < seat.part.room
room_left notes seats rows i r seat view same member is few =
    let here = subst (λ (s : ProgrammeLeft). length s.waiting < s.room) (now_at (shown_programme notes) seats rows i r seat (opened_programme 0 0 0) view same member is) few in
    omega (arith, here, length-map (waiting_in notes seat.part) answer_of, length-waiting notes seat.part)

pub push-requires-clause-within : goal.push-requires-clause-within
push-requires-clause-within c =
    let notes : List ℕ = c.self.inside.notes.items in
    let seats : List ProgrammeSeat = c.self.inside.seats.items in
    let h = index_within (shown_programme notes) seats c.args.self.now c.programme.inside.0 c.args.programme c.self.view_is c.programme.view_is c.requires.member in
    part_within (λ (s : ProgrammeSeat). s.part) shown_programme seats (length notes) c.programme.inside.0 c.index_mut-seat.result.now h c.index_mut-seat.ensures.value c.self.invariant.laid

pub push-requires-clause-room : goal.push-requires-clause-room
push-requires-clause-room c = room_left c.self.inside.notes.items c.self.inside.seats.items c.args.self.now c.programme.inside.0 c.args.programme c.index_mut-seat.result.now c.self.view_is c.programme.view_is c.requires.member c.index_mut-seat.ensures.value c.requires.room

pub recounted-self-inside-requires-clause-counted : goal.recounted-self-inside-requires-clause-counted
recounted-self-inside-requires-clause-counted c passes =
    let notes : List ℕ = c.self.inside.notes.items in
    let seats : List ProgrammeSeat = c.self.inside.seats.items in
    let seat : ProgrammeSeat = c.index_mut-seat.result.now in
    let h = index_within (shown_programme notes) seats c.args.self.now c.programme.inside.0 c.args.programme c.self.view_is c.programme.view_is c.requires.member in
    counted_one has_answers (shown_programme notes) seats c.programme.inside.0 c.self.inside.programmes_with_answers seat h c.index_mut-seat.ensures.value c.self.invariant.answers_counted
    _ (waits answer_of notes seat.part) passes

pub invariant_of-self : goal.invariant_of-self
invariant_of-self c =
    let part : ProgrammeSeat → Part = λ s. s.part in
    let notes : List ℕ = c.self.inside.notes.items in
    let seats : List ProgrammeSeat = c.self.inside.seats.items in
    let seat : ProgrammeSeat = c.index_mut-seat.result.now in
    let h = index_within (shown_programme notes) seats c.args.self.now c.programme.inside.0 c.args.programme c.self.view_is c.programme.view_is c.requires.member in
    let more = room_left notes seats c.args.self.now c.programme.inside.0 c.args.programme seat c.self.view_is c.programme.view_is c.requires.member c.index_mut-seat.ensures.value c.requires.room in
    let ring = ring_at part shown_programme seats c.programme.inside.0 seat h c.index_mut-seat.ensures.value c.self.invariant.rings in
    let new : ProgrammeSeat = record { part = c.push.new.self; offers_made = seat.offers_made; offers_out = seat.offers_out; places = seat.places; list_length = seat.list_length } in
    let written : List ℕ = slice_set notes (place_in seat.part seat.part.len) c.note_of.result in
    let after : List ℕ → List ProgrammeLeft = λ xs. map (shown_programme xs) (slice_set seats c.programme.inside.0 new) in
    let rows : after c.push.new.notes.items ≡ slice_set (map (shown_programme notes) seats) c.programme.inside.0 (shown_programme written new) =
    ap after c.push.ensures.notes
    ∙ shown_pushed part shown_programme (λ s a b e. same_programme_left (shown_programme a s) (shown_programme b s) refl refl (ap (λ (xs : List ℕ). map answer_of xs) e) refl refl refl)
    seats notes c.programme.inside.0 c.note_of.result seat new (shown_programme written new) h c.index_mut-seat.ensures.value c.self.invariant.laid c.self.invariant.rings more refl in
    record {
      laid = laid_set part shown_programme seats (length c.push.new.notes.items) c.programme.inside.0 seat new c.index_mut-seat.ensures.value (ap span c.push.ensures.part)
          (subst (λ (n : ℕ). AreLaid (map programme_span seats) n) (sym (ap (λ (xs : List ℕ). length xs) c.push.ensures.notes ∙ length-set notes (place_in seat.part seat.part.len) c.note_of.result)) c.self.invariant.laid);
      rings = rings_set part shown_programme seats c.programme.inside.0 new (subst IsRing (sym c.push.ensures.part) (ring_pushed seat.part ring more)) c.self.invariant.rings;
      few = omega (arith, c.self.invariant.few, length-set seats c.programme.inside.0 new);
      answers_counted = counted_anew has_answers (shown_programme notes) seats c.programme.inside.0 c.self.inside.programmes_with_answers seat h c.index_mut-seat.ensures.value c.self.invariant.answers_counted
          (after c.push.new.notes.items) (shown_programme written new) c.recounted-self-inside.result _ true rows (waits answer_of notes seat.part)
          (sym (lt-ltb 0 c.push.new.self.len (omega (arith, ap (λ (p : Part). p.len) c.push.ensures.part))) ∙ waits answer_of written c.push.new.self) c.recounted-self-inside.ensures;
      wishes_counted = counted_anew has_wish (shown_programme notes) seats c.programme.inside.0 c.self.inside.programmes_with_wish seat h c.index_mut-seat.ensures.value c.self.invariant.wishes_counted
          (after c.push.new.notes.items) (shown_programme written new) c.self.inside.programmes_with_wish _ _ rows refl refl refl;
    }

pub returns : goal.returns
returns c =
    let part : ProgrammeSeat → Part = λ s. s.part in
    let notes : List ℕ = c.self.inside.notes.items in
    let seats : List ProgrammeSeat = c.self.inside.seats.items in
    let seat : ProgrammeSeat = c.index_mut-seat.result.now in
    let h = index_within (shown_programme notes) seats c.args.self.now c.programme.inside.0 c.args.programme c.self.view_is c.programme.view_is c.requires.member in
    let more = room_left notes seats c.args.self.now c.programme.inside.0 c.args.programme seat c.self.view_is c.programme.view_is c.requires.member c.index_mut-seat.ensures.value c.requires.room in
    let ring = ring_at part shown_programme seats c.programme.inside.0 seat h c.index_mut-seat.ensures.value c.self.invariant.rings in
    let new : ProgrammeSeat = record { part = c.push.new.self; offers_made = seat.offers_made; offers_out = seat.offers_out; places = seat.places; list_length = seat.list_length } in
    let first = now_at (shown_programme notes) seats (map (shown_programme notes) seats) c.programme.inside.0 c.programme.inside.0 seat (opened_programme 0 0 0) refl refl (omega (arith, h, length-map seats (shown_programme notes))) c.index_mut-seat.ensures.value in
    let written : List ℕ = slice_set notes (place_in seat.part seat.part.len) c.note_of.result in
    let answer : Answered = (c.args.resident, c.args.kind) in
    let here : shown_programme written new ≡ sent_answer (shown_programme notes seat) answer =
    same_programme_left (shown_programme written new) (sent_answer (shown_programme notes seat) answer)
    refl refl
    (ap (λ (p : Part). map answer_of (waiting_in written p)) c.push.ensures.part
    ∙ ap (λ (xs : List ℕ). map answer_of xs) (waiting_pushed notes seat.part c.note_of.result ring more (part_within part shown_programme seats (length notes) c.programme.inside.0 seat h c.index_mut-seat.ensures.value c.self.invariant.laid))
    ∙ map_push answer_of (waiting_in notes seat.part) c.note_of.result
    ∙ ap (λ (a : Answered). map answer_of (waiting_in notes seat.part) ++ a ∷ []) (ap answer_of c.note_of.ensures ∙ answer_of_note c.args.resident c.args.kind))
    (ap (λ (p : Part). p.room) c.push.ensures.part) refl refl in
    ap (λ (xs : List ℕ). map (shown_programme xs) (slice_set seats c.programme.inside.0 new)) c.push.ensures.notes
    ∙ shown_pushed part shown_programme (λ s a b e. same_programme_left (shown_programme a s) (shown_programme b s) refl refl (ap (λ (xs : List ℕ). map answer_of xs) e) refl refl refl)
    seats notes c.programme.inside.0 c.note_of.result seat new (sent_answer (shown_programme notes seat) answer) h c.index_mut-seat.ensures.value c.self.invariant.laid c.self.invariant.rings more here
    ∙ ap (λ (s : ProgrammeLeft). slice_set (map (shown_programme notes) seats) c.programme.inside.0 (sent_answer s answer)) (sym first)
    ∙ updated (map (shown_programme notes) seats) c.args.self.now c.programme.inside.0 c.args.programme (λ (s : ProgrammeLeft). sent_answer s answer) (opened_programme 0 0 0) c.self.view_is c.programme.view_is
