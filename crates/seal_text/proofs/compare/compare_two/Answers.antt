use Rattle.std.proofs.Common.{◌≡◌, inr, rules}
use Rattle.std.specs.Prelude.{IfOk, MatchResult, OnOk, Result, Ok, Err}
use Rattle.seal_text.proofs.CompareFacts.{compared}
use Rattle.seal_text.proofs.compare.compare_two.Goals as goal

pub returns : goal.returns
returns g c = inr (record {
  answer = c.serve_pair-compare_result.result;
  appends = record {
    resident = c.as_slice-resident.result.now;
    programme = c.as_slice-programme.result.now;
    answers = compared g.W.Write.contents _ _ c.serve_pair-compare_result.result _ _ _ _ _ c.serve_pair-compare_result.ensures.good c.serve_pair-compare_result.ensures.told c.serve_pair-compare_result.ensures.agree c.serve_pair-compare_result.ensures.fault c.serve_pair-compare_result.ensures.unwritten;
  };
  tells = search rules;
})
