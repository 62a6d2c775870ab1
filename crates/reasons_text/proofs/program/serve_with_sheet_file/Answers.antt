use Rattle.std.proofs.Common.{inr, rules}
use Rattle.program_shell.proofs.OfAnswers.{answered}
use Rattle.reasons_text.proofs.program.serve_with_sheet_file.Goals as goal

pub returns : goal.returns
returns g c = inr (record {
  answer = c.serve_why_files_within-question_result.result;
  appends = record {
    docket = c.as_slice.result.now;
    sheet = c.as_slice-2.result.now;
    docket_is = search rules;
    answers = answered g.W.Write.contents _ _ c.serve_why_files_within-question_result.result _ _ _ c.serve_why_files_within-question_result.ensures.text c.serve_why_files_within-question_result.ensures.fault c.serve_why_files_within-question_result.ensures.before;
  };
  tells = search rules;
})
