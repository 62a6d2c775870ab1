use Rattle.std.proofs.Common.{rules, Bool, cond, ◌≡◌, ◌∙◌, ◌++◌, ◌∷◌, [], ◌<◌, ◌*◌, ◌+◌, ℕ, List, map, length, sym, ap, refl, subst, arith, zero-add}
use Rattle.std.specs.List.{range_with_len}
use Rattle.std.proofs.lemmas.List.{map_push}
use Rattle.std.proofs.lemmas.List.FromFn.{map-range_with_len_more}
use Rattle.exchange_core.specs.declared.part.Part.{Part}
use Rattle.exchange_core.specs.declared.programme_row.ProgrammeSeat.{ProgrammeSeat}
use Rattle.exchange_core.specs.Left.{ProgrammeLeft, room_within}
use Rattle.exchange_core.specs.Notes.{IsRing, AreLaid, waiting_in, span}
use Rattle.exchange_core.specs.Rows.{shown_programme, programme_span, answer_of}
use Rattle.exchange_core.specs.Seats.{opened_programme}
use Rattle.std.proofs.lemmas.List.{length-map}
use Rattle.std.proofs.lemmas.List.FromFn.{length-map-range_with_len}
use Rattle.std.proofs.lemmas.List.Sums.{count_by-le-length}
use Rattle.std.specs.List.{count_by}
use Rattle.exchange_core.specs.Pending.{has_answers, has_wish}
use Rattle.exchange_core.proofs.Quiet.{none_made, counted_more}
use Rattle.exchange_core.proofs.Notes.{ring_opened, laid_more}
use Rattle.exchange_core.proofs.Rows.{all_more}
use Rattle.exchange_core.proofs.Steps.{same_programme_left}
use Rattle.exchange_core.proofs.programme_row.ProgrammeRow.open.Goals as goal
use Rattle.match_model.specs.Instance.{quota, list_of_programme}
use Rattle.std.specs.Prelude.{slice_index_or}

pub loop-p-preserved : goal.loop-p-preserved
loop-p-preserved c =
    let old : List ProgrammeSeat = c.loop-p.seats.items in
    let listed : c.list_of_programme-list_length.result.now ≡ list_of_programme c.args.inst.now c.loop-p.p = c.list_of_programme-list_length.ensures.list in
    let seat : ProgrammeSeat = record { part = c.open.result; offers_made = 0; offers_out = 0; places = c.quota.result; list_length = length c.list_of_programme-list_length.result.now } in
    let made : ℕ → ProgrammeLeft = λ p. opened_programme (room_within c.args.cap (2 * length (list_of_programme c.args.inst.now p))) (quota c.args.inst.now p) (length (list_of_programme c.args.inst.now p)) in
    let room : c.room-room.result ≡ room_within c.args.cap (2 * length (list_of_programme c.args.inst.now c.loop-p.p)) =
    c.room-room.ensures ∙ ap (λ (xs : List ℕ). room_within c.args.cap (2 * length xs)) listed in
    record {
      opened = λ notes. ap (λ (xs : List ProgrammeSeat). map (shown_programme notes) xs) c.in_ok-push.ensures.items ∙ map_push (shown_programme notes) old seat
          ∙ ap (λ (xs : List ProgrammeLeft). xs ++ shown_programme notes seat ∷ []) (c.loop-p.invariant.opened notes)
          ∙ ap (λ (s : ProgrammeLeft). map made (range_with_len 0 c.loop-p.p) ++ s ∷ [])
          (same_programme_left (shown_programme notes seat) (made c.loop-p.p) refl refl (ap (λ (p : Part). map answer_of (waiting_in notes p)) c.open.ensures) (ap (λ (p : Part). p.room) c.open.ensures ∙ room)
          c.quota.ensures (ap (λ (xs : List ℕ). length xs) listed))
          ∙ sym (map-range_with_len_more made 0 c.loop-p.p c.loop-p.p (zero-add c.loop-p.p));
      laid = subst (λ (spans : List (ℕ × ℕ)). AreLaid spans (c.loop-p.total_room + c.room-room.result))
          (sym (ap (λ (xs : List ProgrammeSeat). map programme_span xs) c.in_ok-push.ensures.items ∙ map_push programme_span old seat ∙ ap (λ (p : Part). map programme_span old ++ span p ∷ []) c.open.ensures))
          (laid_more (map programme_span old) c.loop-p.total_room c.room-room.result c.loop-p.invariant.laid);
      rings = subst (λ (xs : List ProgrammeSeat). (k : ℕ) (d : ProgrammeSeat) → k < length xs → IsRing (slice_index_or xs k d).part) (sym c.in_ok-push.ensures.items)
          (all_more (λ (s : ProgrammeSeat). IsRing s.part) old seat c.loop-p.invariant.rings (subst IsRing (sym c.open.ensures) (ring_opened c.loop-p.total_room c.room-room.result)));
      counted = λ notes. counted_more has_wish (map (shown_programme notes) old) (shown_programme notes seat) c.loop-p.programmes_with_wish c.recounted-programmes_with_wish.result (c.loop-p.invariant.counted notes)
          (omega (arith, c.recounted-programmes_with_wish.ensures, ap (λ (b : Bool). cond {A = ℕ} b 1 0) c.has_wish.ensures))
          ∙ ap (λ (xs : List ProgrammeLeft). count_by has_wish xs) (sym (ap (λ (xs : List ProgrammeSeat). map (shown_programme notes) xs) c.in_ok-push.ensures.items ∙ map_push (shown_programme notes) old seat));
      few = omega (arith, c.loop-p.invariant.few, room, c.list_of_programme-list_length.ensures.within);
    }

pub recounted-programmes_with_wish-requires-clause-few : goal.recounted-programmes_with_wish-requires-clause-few
recounted-programmes_with_wish-requires-clause-few c =
    let made : ℕ → ProgrammeLeft = λ p. opened_programme (room_within c.args.cap (2 * length (list_of_programme c.args.inst.now p))) (quota c.args.inst.now p) (length (list_of_programme c.args.inst.now p)) in
    let shown : List ProgrammeLeft = map (shown_programme []) c.loop-p.seats.items in
    omega (arith, c.loop-p.invariant.counted [], count_by-le-length has_wish shown, ap (λ (xs : List ProgrammeLeft). length xs) (c.loop-p.invariant.opened []), length-map-range_with_len made 0 c.loop-p.p, c.loop-p-test.true, c.programmes-programme_count.type_inv)

pub invariant_of-result : goal.invariant_of-result
invariant_of-result c =
    let made : ℕ → ProgrammeLeft = λ p. opened_programme (room_within c.args.cap (2 * length (list_of_programme c.args.inst.now p))) (quota c.args.inst.now p) (length (list_of_programme c.args.inst.now p)) in
    let notes : List ℕ = c.in_ok-vec.field-0.items in
    let seats : List ProgrammeSeat = c.loop-p.seats.items in
    let opened : map (shown_programme notes) seats ≡ map made (range_with_len 0 c.loop-p.p) = c.loop-p.invariant.opened notes in
    record {
      laid = search rules;
      rings = c.loop-p.invariant.rings;
      few = omega (arith, length-map seats (shown_programme notes), ap (λ (xs : List ProgrammeLeft). length xs) opened, length-map-range_with_len made 0 c.loop-p.p, c.loop-p.auto.p-end, c.programmes-programme_count.type_inv);
      answers_counted = none_made has_answers made (λ p. refl) 0 c.loop-p.p ∙ ap (λ (xs : List ProgrammeLeft). count_by has_answers xs) (sym opened);
      wishes_counted = c.loop-p.invariant.counted notes;
    }
