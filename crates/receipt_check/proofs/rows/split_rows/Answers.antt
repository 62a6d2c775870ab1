use Rattle.std.proofs.Common.{◌≡◌, ◌-◌, ap, ◌∙◌, arith, length, map, take}
use Rattle.std.proofs.lemmas.List.{length-map}
use Rattle.receipt_check.specs.Rows.{but_last, pieces, split_rows}
use Rattle.receipt_check.specs.Shown.{fields_in}
use Rattle.receipt_check.proofs.rows.split_rows.Goals as goal

pub returns : goal.returns
unfolding split_rows
returns c =
    let lines = fields_in c.in_ok-lines.lines.items in
    let end : c.loop-k.k ≡ length lines - 1 =
    omega (arith, c.loop-k-test.false, c.loop-k.auto.k-end, c.len.ensures, c.saturating_sub-k-end.ensures, length-map c.in_ok-lines.lines.items (λ f. f.now)) in
    c.loop-k.invariant ∙ ap (λ n. map (pieces 44) (take n lines)) end ∙ ap (λ ls. map (pieces 44) (but_last ls)) c.in_ok-lines.ensures
