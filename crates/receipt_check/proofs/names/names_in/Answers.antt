use Rattle.std.proofs.Common.{◌≡◌, ◌<◌, ◌≤◌, length, option_map, ap, sym, ◌∙◌, arith, take_all}
use Rattle.std.proofs.lemmas.List.{length-map}
use Rattle.receipt_check.specs.Faults.{wrong_name}
use Rattle.receipt_check.specs.Shown.{fields_in}
use Rattle.receipt_check.specs.declared.wrong.Wrong.{Wrong}
use Rattle.receipt_check.proofs.Firsts.{first_here}
use Rattle.receipt_check.proofs.names.names_in.Goals as goal

pub returns-in-Some : goal.returns-in-Some
unfolding wrong_name
returns-in-Some c =
    let names = fields_in c.args.names.now in
    let within : c.loop-k.k < length names = omega (arith, c.loop-k-test.true, length-map c.args.names.now (λ f. f.now)) in
    let found = rw (c.loop-k.invariant.0, c.field-name.ensures) at c.in-Some.ensures in
    (c.loop-k-test.true, first_here _ c.loop-k.k (length names) (c.loop-k.k, c.in-Some.defect) within c.loop-k.invariant.1 (ap (option_map (λ (w : Wrong). (c.loop-k.k, w))) (sym found)))

pub returns : goal.returns
unfolding wrong_name
returns c =
    let names = fields_in c.args.names.now in
    let same : c.loop-k.k ≡ length names = omega (arith, c.loop-k-test.false, c.loop-k.auto.k-end, length-map c.args.names.now (λ f. f.now)) in
    let past : length names ≤ c.loop-k.k = omega (arith, same) in
    (c.loop-k.invariant.0 ∙ take_all c.loop-k.k names past, rw same at c.loop-k.invariant.1)
