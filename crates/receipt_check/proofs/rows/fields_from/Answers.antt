use Rattle.std.proofs.Common.{[], arith, drop, sym, ap, ◌∙◌}
use Rattle.std.proofs.lemmas.List.{drop-map}
use Rattle.receipt_check.specs.Shown.{fields_in}
use Rattle.receipt_check.proofs.Steps.{there}
use Rattle.receipt_check.proofs.rows.fields_from.Goals as goal

pub returns : goal.returns
returns c =
    ap fields_in c.tail.ensures ∙ sym (drop-map (λ f. f.now) c.args.start c.as_slice.result.now)
    ∙ ap (drop c.args.start) (ap fields_in c.as_slice.ensures.value
    ∙ sym (there (λ row. fields_in row.items) c.args.rows.now c.args.row_number c.index-rows-row_number.result [] (omega (arith, c.if-row_number-rows.false)) c.index-rows-row_number.is))
