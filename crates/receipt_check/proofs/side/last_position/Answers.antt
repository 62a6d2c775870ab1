use Rattle.std.proofs.Common.{◌≡◌, ◌<◌, ◌^◌, IfSome, length, map, sym, ap, ap₂, ◌∙◌, refl, arith}
use Rattle.std.proofs.lemmas.List.{length-map}
use Rattle.docket_names.specs.Texts.{number_in}
use Rattle.receipt_check.specs.Pair.{last_within, later}
use Rattle.receipt_check.specs.Receipt.{members}
use Rattle.receipt_check.specs.Rows.{text_at}
use Rattle.receipt_check.specs.Shown.{content, fields_in, rows_in}
use Rattle.receipt_check.proofs.PairFacts.{last_next, later_small, member_at}
use Rattle.receipt_check.proofs.side.last_position.Goals as goal

pub loop-k-init : goal.loop-k-init
unfolding last_within
loop-k-init c = (refl, record {})

pub loop-k-preserved : goal.loop-k-preserved
loop-k-preserved c =
    let list = fields_in c.args.contents.now.list.now in
    let names = members (content c.args.contents.now) in
    let k = c.loop-k.k in
    let name = c.cell.ensures ∙ sym (member_at (rows_in c.args.contents.now.detail_rows.now) k) in
    let place = c.position_of.ensures.place ∙ ap (number_in list) name in (
      c.later-last_member_position.ensures ∙ ap₂ later c.loop-k.invariant.0 place ∙ sym (last_next list names k),
      rw c.later-last_member_position.ensures (later_small c.loop-k.last_member_position c.position_of.result c.loop-k.invariant.1 c.position_of.ensures.within),
    )

pub returns-clause-last : goal.returns-clause-last
returns-clause-last c =
    let end : c.loop-k.k ≡ length (members (content c.args.contents.now)) =
    omega (arith, c.loop-k-test.false, c.loop-k.auto.k-end, length-map (rows_in c.args.contents.now.detail_rows.now) (λ row. text_at row 1), length-map c.args.contents.now.detail_rows.now (λ row. fields_in row.items)) in
    rw end at c.loop-k.invariant.0

pub returns-clause-within : goal.returns-clause-within
returns-clause-within c = c.loop-k.invariant.1
