use Rattle.std.proofs.Common.{rules}
use Rattle.program_shell.proofs.OfAnswers.{answered}
use Rattle.audit_files.proofs.program.serve_loaded.Goals as goal

pub returns : goal.returns
returns g c = λ input files. record {
  answer = c.serve_files-serve_result.result;
  appends = record {
    docket = c.as_slice.result.now;
    sheet = c.as_slice-2.result.now;
    journal = _;
    files = search rules;
    answers = answered g.W.Write.contents _ _ c.serve_files-serve_result.result _ _ _ c.serve_files-serve_result.ensures.answer c.serve_files-serve_result.ensures.fault c.serve_files-serve_result.ensures.before;
  };
  tells = search rules;
}
