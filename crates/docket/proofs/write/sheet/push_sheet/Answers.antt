use Rattle.std.proofs.Common.{length, ap, arith}
use Rattle.docket.proofs.WriteFacts.{sheet_text-rows}
use Rattle.docket.proofs.write.sheet.push_sheet.Goals as goal

pub returns-clause-rows : goal.returns-clause-rows
returns-clause-rows g c =
    sheet_text-rows g.W.Write.contents c.args.docket.now c.args.assignment.now c.args.rows.now c.push_residents.new.rows c.push_programmes.new.rows c.in_ok-push_residents.ensures
    (c.in_ok-push_programmes.ensures c.args.assignment.now (λ p h. rw c.as_slice.ensures.value (c.in_ok-counts.ensures.counts p
    (omega (arith, h, c.programmes-programmes.ensures.count, c.instance.ensures.whole.programmes, ap (λ i. length i.quotas) c.instance.ensures.instance)))))
