use Rattle.std.proofs.Common.{◌≤◌, ℕ, length, arith, take_all}
use Rattle.std.specs.List.{enumerate_from, zip}
use Rattle.std.proofs.lemmas.List.FromFn.{length-enumerate_from}
use Rattle.std.proofs.lemmas.Slice.Zip.{length-zip}
use Rattle.match_reasons.specs.declared.reason.Why.{Why}
use Rattle.reasons_text.specs.Naming.{naming_of}
use Rattle.reasons_text.specs.Table.{answer_row}
use Rattle.reasons_text.proofs.LineFacts.{row_next}
use Rattle.reasons_text.proofs.answering.push_rows.Goals as goal

pub loop-row_index-preserved : goal.loop-row_index-preserved
loop-row_index-preserved g c =
    row_next g.W.Write.contents
    (λ (told : ℕ × (ℕ × Why)). answer_row (naming_of c.args.manner.now.names) c.args.manner.now.without_ranks c.args.resident told.0 told.1.0 told.1.1)
    c.args.programmes.now c.args.reasons.now c.loop-row_index.row_index c.index-programmes-row_index.result c.index-reasons-row_index.result c.args.rows.now c.loop-row_index.rows c.push_row.new.rows
    c.loop-row_index-test.true (let same = c.requires in let below = c.loop-row_index-test.true in omega (arith, same, below)) c.index-programmes-row_index.is c.index-reasons-row_index.is
    c.loop-row_index.invariant c.in_ok-push_row.ensures

pub returns : goal.returns
returns g c =
    let pairs = zip c.args.programmes.now c.args.reasons.now in
    let past : length (enumerate_from 1 pairs) ≤ c.loop-row_index.row_index =
    omega (arith, length-enumerate_from 1 pairs, length-zip c.args.programmes.now c.args.reasons.now, c.loop-row_index-test.false) in
    rw (take_all c.loop-row_index.row_index (enumerate_from 1 pairs) past) at c.loop-row_index.invariant
