use Rattle.std.proofs.Common.{◌-◌, ◌≤◌, length, drop, ap, sym, ◌∙◌, arith, take_all, length-drop}
use Rattle.std.proofs.lemmas.List.{drop-map}
use Rattle.receipt_check.specs.Shown.{fields_in, rows_in}
use Rattle.receipt_check.proofs.shown.rows_from.Goals as goal

pub returns-then-start-rows : goal.returns-then-start-rows
returns-then-start-rows c =
    let rows = c.args.rows.now in
    let all : length (drop c.args.start rows) ≤ length rows - c.args.start = omega (arith, length-drop c.args.start rows) in
    ap rows_in (take_all (length rows - c.args.start) (drop c.args.start rows) all) ∙ sym (drop-map (λ row. fields_in row.items) c.args.start rows)
