use Rattle.csv.specs.Writing.{escaped}
use Rattle.records.proofs.RowTextFacts.{quoted_next}
use Rattle.records.proofs.writer.RowWriter.put_quoted.Goals as goal

pub loop-i-init : goal.loop-i-init
unfolding escaped
loop-i-init g c = c.in_ok-put.ensures

pub loop-i-preserved : goal.loop-i-preserved
loop-i-preserved g c =
    quoted_next g.W.Write.contents c.args.self.now c.loop-i.self c.put_escaped.new.self c.args.field.now c.loop-i.i c.loop-i-test.true c.loop-i.invariant c.in_ok-put_escaped.ensures
