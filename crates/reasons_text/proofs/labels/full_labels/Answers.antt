use Rattle.std.proofs.Common.{◌≡◌, ◌+◌, ◌∷◌, [], ap, arith, length, map, refl, sym}
use Rattle.std.specs.Prelude.{string_bytes}
use Rattle.std.proofs.lemmas.List.{length-map, map-append}
use Rattle.std.proofs.lemmas.List.FromFn.{map-range_with_len_more}
use Rattle.reasons_text.specs.Naming.{side_of}
use Rattle.reasons_text.specs.Numbers.{full_label}
use Rattle.reasons_text.proofs.LabelFacts.{all_full}
use Rattle.reasons_text.proofs.labels.full_labels.Goals as goal

pub loop-number-init : goal.loop-number-init
loop-number-init c = rw c.new-labels.ensures.items refl

pub loop-number-preserved : goal.loop-number-preserved
loop-number-preserved c =
    let zero : 0 + c.loop-number.number ≡ c.loop-number.number = omega arith in
    rw (c.in_ok-push.ensures.items, map-append string_bytes c.loop-number.labels.items (c.in_ok-label.label ∷ []), c.loop-number.invariant, c.in_ok-label.ensures)
    (sym (map-range_with_len_more (full_label (side_of c.args.side_key.now)) 0 c.loop-number.number c.loop-number.number zero))

pub returns : goal.returns
returns c =
    let past = c.loop-number-test.false in
    let members = c.named_count-number-end.ensures.members in
    let rows = c.named_count-number-end.ensures.rows in
    let names = length-map c.args.side_key.now.names.items string_bytes in
    let slice = ap length c.as_slice.ensures.value in
    all_full c.args.docket.now c.args.side (side_of c.args.side_key.now) (map string_bytes c.loop-number.labels.items) c.loop-number.number (omega (arith, past, members)) (omega (arith, past, rows, names, slice)) c.loop-number.invariant
