use Rattle.std.proofs.Common.{refl}
use Rattle.std.proofs.lemmas.Result.{on_ok_weaker}
use Rattle.match_model.specs.Placement.{programme_of}
use Rattle.reasons_text.specs.Lines.{text_on}
use Rattle.reasons_text.specs.Naming.{naming_of}
use Rattle.reasons_text.proofs.LineFacts.{text_made}
use Rattle.reasons_text.proofs.answering.push_lines.Goals as goal

pub push_each-requires : goal.push_each-requires
push_each-requires c = rw (c.as_slice-programmes.ensures.value, c.as_slice-reasons.ensures.value) c.in_ok-answers.ensures.first.each

pub returns : goal.returns
returns c =
    let names = naming_of c.args.manner.now.names in
    let own = programme_of c.args.case.now.sheet c.args.resident in
    on_ok_weaker c.push_each.result
    (λ h. record {
      text = text_on names c.args.manner.now.without_ranks c.args.resident own c.as_slice-programmes.result.now c.as_slice-reasons.result.now;
      wanted = record {
        told = record {
          programmes = c.as_slice-programmes.result.now;
          reasons = c.as_slice-reasons.result.now;
          first = rw (c.as_slice-programmes.ensures.value, c.as_slice-reasons.ensures.value) c.in_ok-answers.ensures.first;
          record_is = rw c.as_slice-programmes.ensures.value c.in_ok-answers.ensures.record;
        };
        text_is = refl;
      };
      appended = text_made names c.args.manner.now.without_ranks c.args.resident own _ _ _ _ _ _ c.place_of-own_programme.ensures c.in_ok-push_first_line.ensures h;
    })
    c.push_each.ensures
