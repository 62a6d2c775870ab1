use Rattle.docket.specs.Texts.{resident_row}
use Rattle.docket.proofs.WriteFacts.{rows_next}
use Rattle.docket.proofs.write.sheet.push_residents.Goals as goal

pub loop-r-preserved : goal.loop-r-preserved
loop-r-preserved g c =
    rows_next g.W.Write.contents (resident_row c.args.docket.now c.args.assignment.now) c.args.rows.now c.loop-r.rows c.push_mark.new.rows c.loop-r.r c.loop-r.invariant (rw c.get.ensures at c.in_ok-push_mark.ensures)
