use Rattle.std.proofs.Common.{◌≡◌, ◌∙◌, ℕ, length, ap, arith}
use Rattle.csv.specs.Records.{fields_of}
use Rattle.reasons_text.specs.Keys.{is_blank_below}
use Rattle.reasons_text.proofs.KeyFacts.{blank_more, blank_none}
use Rattle.reasons_text.proofs.key.is_blank.Goals as goal

pub loop-i-init : goal.loop-i-init
loop-i-init c = blank_none (fields_of c.args.row.now)

pub loop-i-preserved : goal.loop-i-preserved
loop-i-preserved c =
    blank_more (fields_of c.args.row.now) c.loop-i.i c.loop-i.are_all_blank c.still_blank-are_all_blank.result c.field.result.now c.loop-i.invariant c.field.ensures c.still_blank-are_all_blank.ensures

pub returns : goal.returns
returns c =
    let past = c.loop-i-test.false in
    let within = c.loop-i.auto.i-end in
    let many = c.len-i-end.ensures in
    let same : c.loop-i.i ≡ length (fields_of c.args.row.now) = omega (arith, past, within, many) in
    c.loop-i.invariant ∙ ap (λ (n : ℕ). is_blank_below (fields_of c.args.row.now) n) same
