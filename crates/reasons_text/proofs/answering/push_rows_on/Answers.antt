use Rattle.std.proofs.Common.{refl}
use Rattle.reasons_text.specs.Naming.{side_of}
use Rattle.reasons_text.proofs.AnswerFacts.{names_own}
use Rattle.reasons_text.proofs.answering.push_rows_on.Goals as goal

pub returns : goal.returns
returns g c =
    let key = c.none-key.result in
    let same = names_own c.docket.result.now c.args.case.now.docket (side_of key.residents) (side_of key.programmes) c.docket.ensures c.none-key.ensures.0 c.none-key.ensures.1 in
    record {
      text = _;
      rows = record {
        told = record {
          programmes = c.as_slice-programmes.result.now;
          reasons = c.as_slice-reasons.result.now;
          first = rw (c.as_slice-programmes.ensures.value, c.as_slice-reasons.ensures.value) c.in_ok-answers.ensures.first;
          record_is = rw c.as_slice-programmes.ensures.value c.in_ok-answers.ensures.record;
        };
        text_is = refl;
      };
      added = rw same at c.in_ok-push_rows.ensures;
    }
