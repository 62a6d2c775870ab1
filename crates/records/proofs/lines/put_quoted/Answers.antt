use Rattle.csv.specs.Writing.{escaped}
use Rattle.records.proofs.LineFacts.{quoted_next}
use Rattle.records.proofs.lines.put_quoted.Goals as goal

pub loop-i-init : goal.loop-i-init
unfolding escaped
loop-i-init c = c.in_ok-put.ensures

pub loop-i-preserved : goal.loop-i-preserved
loop-i-preserved c =
    quoted_next c.args.text.now c.loop-i.text c.put_escaped.new.text c.args.field.now c.loop-i.i c.loop-i-test.true c.loop-i.invariant c.in_ok-put_escaped.ensures
