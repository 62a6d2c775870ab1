use Rattle.std.proofs.Common.{◌≡◌, ◌<◌, ap, sym, ◌∙◌, arith, Some, length}
use Rattle.std.proofs.lemmas.List.{length-map}
use Rattle.docket_names.specs.Texts.{number_in}
use Rattle.receipt_check.specs.Shown.{fields_in}
use Rattle.receipt_check.proofs.PairFacts.{place_below}
use Rattle.receipt_check.proofs.side.position_of.Goals as goal

pub returns-in_default-clause-place : goal.returns-in_default-clause-place
returns-in_default-clause-place c =
    let list = fields_in c.args.contents.now.list.now in
    let found : number_in list c.args.name.now ≡ Some c.in-Some.position = ap (λ names. number_in names c.args.name.now) (sym c.requires) ∙ sym c.find.ensures ∙ c.in-Some.is in
    let below = place_below list c.args.name.now c.in-Some.position found in
    absurd (omega (arith, below, c.if-position-contents.false, length-map c.args.contents.now.list.now (λ field. field.now)))
