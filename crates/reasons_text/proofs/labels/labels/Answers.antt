use Rattle.std.proofs.Common.{◌≡◌, ℕ, [], ◌∷◌, map, arith, subst}
use Rattle.std.proofs.lemmas.List.{map-append}
use Rattle.std.specs.Prelude.{string_bytes}
use Rattle.reasons_text.specs.Keys.{AreLabelsBelow}
use Rattle.reasons_text.specs.Naming.{member_count, side_of}
use Rattle.reasons_text.specs.Numbers.{owner_in}
use Rattle.reasons_text.proofs.LabelFacts.{is_label, labels_more, labels_none}
use Rattle.reasons_text.proofs.labels.labels.Goals as goal

pub loop-number-init : goal.loop-number-init
loop-number-init c = rw c.new-labels.ensures.items (labels_none c.args.docket.now c.args.side (side_of c.args.side_key.now))

pub loop-number-preserved : goal.loop-number-preserved
loop-number-preserved c =
    let d = c.args.docket.now in
    let read = side_of c.args.side_key.now in
    let owners = c.in_ok-owners.ensures in
    let label = string_bytes c.in_ok-label.label in
    rw (c.in_ok-push.ensures.items, map-append string_bytes c.loop-number.labels.items (c.in_ok-label.label ∷ []))
    (labels_more d c.args.side read c.loop-number.number (map string_bytes c.loop-number.labels.items) label c.loop-number.invariant
    (is_label d c.args.side read c.loop-number.number (owner_in c.in_ok-owners.owners) label owners c.in_ok-label.ensures))

pub returns : goal.returns
returns c =
    let past = c.loop-number-test.false in
    let within = c.loop-number.auto.number-end in
    let count = c.member_count-number-end.ensures in
    let same : c.loop-number.number ≡ member_count c.args.docket.now c.args.side = omega (arith, past, within, count) in
    subst (λ (n : ℕ). AreLabelsBelow c.args.docket.now c.args.side (side_of c.args.side_key.now) n (map string_bytes c.loop-number.labels.items)) same c.loop-number.invariant
