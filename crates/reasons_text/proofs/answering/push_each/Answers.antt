use Rattle.std.proofs.Common.{◌≤◌, ℕ, length, arith, take_all}
use Rattle.std.specs.List.{zip}
use Rattle.std.proofs.lemmas.Slice.Zip.{length-zip}
use Rattle.match_reasons.specs.declared.reason.Why.{Why}
use Rattle.reasons_text.specs.Lines.{line}
use Rattle.reasons_text.specs.Naming.{naming_of}
use Rattle.reasons_text.proofs.LineFacts.{line_next}
use Rattle.reasons_text.proofs.answering.push_each.Goals as goal

pub loop-choice_index-preserved : goal.loop-choice_index-preserved
loop-choice_index-preserved c =
    line_next (λ (told : ℕ × Why). line (naming_of c.args.manner.now.names) c.args.manner.now.without_ranks c.args.resident told.0 told.1)
    c.args.programmes.now c.args.reasons.now c.loop-choice_index.choice_index c.index-programmes-choice_index.result c.index-reasons-choice_index.result _ _ _ c.loop-choice_index-test.true
    (let same = c.requires in let below = c.loop-choice_index-test.true in omega (arith, same, below)) c.index-programmes-choice_index.is c.index-reasons-choice_index.is c.loop-choice_index.invariant c.in_ok-push_line.ensures

pub returns : goal.returns
returns c =
    let pairs = zip c.args.programmes.now c.args.reasons.now in
    let past : length pairs ≤ c.loop-choice_index.choice_index = omega (arith, length-zip c.args.programmes.now c.args.reasons.now, c.loop-choice_index-test.false) in
    rw (take_all c.loop-choice_index.choice_index pairs past) at c.loop-choice_index.invariant
