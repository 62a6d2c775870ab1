use Rattle.std.proofs.Common.{rules, ◌≡◌, ◌∙◌, ◌++◌, ◌∷◌, [], ◌<◌, ◌+◌, ℕ, None, List, map, length, sym, ap, refl, subst, arith, zero-add}
use Rattle.std.specs.List.{range_with_len}
use Rattle.std.proofs.lemmas.List.{map_push}
use Rattle.std.proofs.lemmas.List.FromFn.{map-range_with_len_more}
use Rattle.exchange_core.specs.declared.part.Part.{Part}
use Rattle.exchange_core.specs.declared.resident_row.ResidentSeat.{ResidentSeat}
use Rattle.exchange_core.specs.Left.{ResidentLeft, room_within}
use Rattle.exchange_core.specs.Notes.{IsRing, AreLaid, waiting_in, span}
use Rattle.exchange_core.specs.Rows.{shown_resident, resident_span, programme_of}
use Rattle.exchange_core.specs.Seats.{opened_resident}
use Rattle.std.proofs.lemmas.List.{length-map}
use Rattle.std.proofs.lemmas.List.FromFn.{length-map-range_with_len}
use Rattle.std.specs.List.{count_by}
use Rattle.exchange_core.specs.Pending.{has_offers, has_due}
use Rattle.exchange_core.proofs.Quiet.{none_made}
use Rattle.exchange_core.proofs.Notes.{ring_opened, laid_more}
use Rattle.exchange_core.proofs.Rows.{all_more}
use Rattle.exchange_core.proofs.Steps.{same_resident_left}
use Rattle.exchange_core.proofs.resident_row.ResidentRow.open.Goals as goal
use Rattle.match_model.specs.Instance.{list_of_resident}
use Rattle.std.specs.Prelude.{slice_index_or}

pub loop-r-preserved : goal.loop-r-preserved
loop-r-preserved c =
    let old : List ResidentSeat = c.loop-r.seats.items in
    let seat : ResidentSeat = record { part = c.open.result; first_due = None; second_due = None; held = None; taken_rank = 0; held_rank = 0 } in
    let made : ℕ → ResidentLeft = λ r. opened_resident (room_within c.args.cap (length (list_of_resident c.args.inst.now r))) in
    let room : c.room-room.result ≡ room_within c.args.cap (length (list_of_resident c.args.inst.now c.loop-r.r)) =
    c.room-room.ensures ∙ ap (λ (xs : List ℕ). room_within c.args.cap (length xs)) c.list_of_resident.ensures.list in
    record {
      opened = λ notes. ap (λ (xs : List ResidentSeat). map (shown_resident notes) xs) c.in_ok-push.ensures.items ∙ map_push (shown_resident notes) old seat
          ∙ ap (λ (xs : List ResidentLeft). xs ++ shown_resident notes seat ∷ []) (c.loop-r.invariant.opened notes)
          ∙ ap (λ (s : ResidentLeft). map made (range_with_len 0 c.loop-r.r) ++ s ∷ [])
          (same_resident_left (shown_resident notes seat) (made c.loop-r.r) (ap (λ (p : Part). map programme_of (waiting_in notes p)) c.open.ensures) refl refl (ap (λ (p : Part). p.room) c.open.ensures ∙ room))
          ∙ sym (map-range_with_len_more made 0 c.loop-r.r c.loop-r.r (zero-add c.loop-r.r));
      laid = subst (λ (spans : List (ℕ × ℕ)). AreLaid spans (c.loop-r.total_room + c.room-room.result))
          (sym (ap (λ (xs : List ResidentSeat). map resident_span xs) c.in_ok-push.ensures.items ∙ map_push resident_span old seat ∙ ap (λ (p : Part). map resident_span old ++ span p ∷ []) c.open.ensures))
          (laid_more (map resident_span old) c.loop-r.total_room c.room-room.result c.loop-r.invariant.laid);
      rings = subst (λ (xs : List ResidentSeat). (k : ℕ) (d : ResidentSeat) → k < length xs → IsRing (slice_index_or xs k d).part) (sym c.in_ok-push.ensures.items)
          (all_more (λ (s : ResidentSeat). IsRing s.part) old seat c.loop-r.invariant.rings (subst IsRing (sym c.open.ensures) (ring_opened c.loop-r.total_room c.room-room.result)));
      few = omega (arith, c.loop-r.invariant.few, room, c.list_of_resident.ensures.within);
    }

pub invariant_of-result : goal.invariant_of-result
invariant_of-result c =
    let made : ℕ → ResidentLeft = λ r. opened_resident (room_within c.args.cap (length (list_of_resident c.args.inst.now r))) in
    let notes : List ℕ = c.in_ok-vec.field-0.items in
    let seats : List ResidentSeat = c.loop-r.seats.items in
    let opened : map (shown_resident notes) seats ≡ map made (range_with_len 0 c.loop-r.r) = c.loop-r.invariant.opened notes in
    record {
      laid = search rules;
      rings = c.loop-r.invariant.rings;
      few = omega (arith, length-map seats (shown_resident notes), ap (λ (xs : List ResidentLeft). length xs) opened, length-map-range_with_len made 0 c.loop-r.r, c.loop-r.auto.r-end, c.residents-resident_count.type_inv);
      offers_counted = none_made has_offers made (λ r. refl) 0 c.loop-r.r ∙ ap (λ (xs : List ResidentLeft). count_by has_offers xs) (sym opened);
      due_counted = none_made has_due made (λ r. refl) 0 c.loop-r.r ∙ ap (λ (xs : List ResidentLeft). count_by has_due xs) (sym opened);
    }
