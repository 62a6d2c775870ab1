use Rattle.std.proofs.Common.{inr, ap, ◌∙◌, option_copied, rules}
use Rattle.std.specs.Prelude.{is_some}
use Rattle.program_shell.proofs.OfAnswers.{answered}
use Rattle.seal_text.proofs.program.seal_files.Goals as goal

pub returns : goal.returns
returns g c = inr (record {
  answer = c.serve-seal_result.result;
  appends = record {
    docket = c.as_slice-docket.result.now;
    sheet = option_copied c.lent-sheet.result;
    key = option_copied c.lent-key.result;
    secret = c.as_slice-secret.result.now;
    docket_is = search rules;
    sheet_is = ap is_some c.lent-sheet.ensures ∙ c.in-Ok-load_path_if.ensures;
    key_is = ap is_some c.lent-key.ensures ∙ c.in-Ok-load_path_if-2.ensures;
    answers = answered g.W.Write.contents _ _ c.serve-seal_result.result _ _ _ c.serve-seal_result.ensures.text c.serve-seal_result.ensures.fault c.serve-seal_result.ensures.before;
  };
  tells = search rules;
})
