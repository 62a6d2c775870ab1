use Rattle.std.proofs.Common.{inr, rules}
use Rattle.std.specs.Prelude.{OnOk, Result, Ok, Err}
use Rattle.program_shell.proofs.OfAnswers.{answered}
use Rattle.seal_text.proofs.program.check_input.Goals as goal

-- two facts of a success are one
both : {T E : Type 0} (A B : Type 0) (r : Result T E) → OnOk r A → OnOk r B → OnOk r (A × B)
both A B (Ok x) a b = (a, b)
both A B (Err e) a b = a

pub returns : goal.returns
returns g c = inr (record {
  answer = c.serve_receipt-check_result.result;
  appends = record {
    bytes = c.as_slice.result.now;
    bytes_are = search rules;
    answers = answered g.W.Write.contents _ _ c.serve_receipt-check_result.result _ _ _ (both _ _ c.serve_receipt-check_result.result c.serve_receipt-check_result.ensures.good c.serve_receipt-check_result.ensures.told) c.serve_receipt-check_result.ensures.fault c.serve_receipt-check_result.ensures.unwritten;
  };
  tells = search rules;
})
