use Rattle.std.proofs.Common.{◌≡◌, ◌<◌, length, option_map, ap, sym, arith}
use Rattle.std.proofs.lemmas.List.{length-map}
use Rattle.receipt_check.specs.Faults.{wrong_reason}
use Rattle.receipt_check.specs.Shown.{fields_in}
use Rattle.receipt_check.specs.declared.wrong.Wrong.{Wrong}
use Rattle.receipt_check.proofs.Firsts.{first_here}
use Rattle.receipt_check.proofs.reasons.wrong_reason.Goals as goal

pub returns-in-Some-clause-found : goal.returns-in-Some-clause-found
unfolding wrong_reason
returns-in-Some-clause-found c =
    let list = fields_in c.args.contents.now.list.now in
    let within : c.loop-k.k < length list = omega (arith, c.loop-k-test.true, length-map c.args.contents.now.list.now (λ f. f.now)) in
    let found = rw (c.choice_place_of.ensures, c.answer.ensures) at c.in-Some.ensures in
    sym (first_here _ c.loop-k.k (length list) (c.loop-k.k, c.in-Some.defect) within c.loop-k.invariant (ap (option_map (λ (w : Wrong). (c.loop-k.k, w))) (sym found)))

pub returns-clause-found : goal.returns-clause-found
unfolding wrong_reason
returns-clause-found c =
    let list = fields_in c.args.contents.now.list.now in
    let same : c.loop-k.k ≡ length list = omega (arith, c.loop-k-test.false, c.loop-k.auto.k-end, length-map c.args.contents.now.list.now (λ f. f.now)) in
    sym (rw same at c.loop-k.invariant)
