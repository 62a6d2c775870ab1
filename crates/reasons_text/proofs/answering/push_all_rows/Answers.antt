use Rattle.std.proofs.Common.{refl}
use Rattle.reasons_text.specs.Naming.{naming_of}
use Rattle.reasons_text.proofs.LineFacts.{rows_more, rows_none}
use Rattle.reasons_text.proofs.answering.push_all_rows.Goals as goal

pub loop-r-init : goal.loop-r-init
loop-r-init g c =
    rows_none g.W.Write.contents c.args.case.now (naming_of c.args.manner.now.names) c.args.manner.now.without_ranks c.args.rows.now

pub loop-r-preserved : goal.loop-r-preserved
loop-r-preserved g c =
    rows_more g.W.Write.contents c.args.case.now (naming_of c.args.manner.now.names) c.args.manner.now.without_ranks c.loop-r.r c.args.rows.now c.loop-r.rows
    c.push_rows.new.rows _ c.loop-r.invariant
    (record {
      told = record {
        programmes = c.as_slice-programmes.result.now;
        reasons = c.as_slice-reasons.result.now;
        first = rw (c.as_slice-programmes.ensures.value, c.as_slice-reasons.ensures.value) c.in_ok-answers.ensures.first;
        record_is = rw c.as_slice-programmes.ensures.value c.in_ok-answers.ensures.record;
      };
      text_is = refl;
    })
    c.in_ok-push_rows.ensures
