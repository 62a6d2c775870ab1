use Rattle.std.proofs.Common.{inr, ap, ◌∙◌, option_copied, rules}
use Rattle.std.specs.Prelude.{is_some}
use Rattle.program_shell.proofs.OfAnswers.{answered}
use Rattle.reasons_text.proofs.program.serve.Goals as goal

pub returns : goal.returns
returns g c = inr (record {
  answer = c.serve_why_within-question_result.result;
  appends = record {
    key = option_copied c.lent-key_bytes.result;
    keyed = ap is_some c.lent-key_bytes.ensures ∙ c.in-Ok.ensures;
    answers = rw c.in-None.is (answered g.W.Write.contents _ _ c.serve_why_within-question_result.result _ _ _ c.serve_why_within-question_result.ensures.text c.serve_why_within-question_result.ensures.fault c.serve_why_within-question_result.ensures.before);
  };
  tells = search rules;
})
