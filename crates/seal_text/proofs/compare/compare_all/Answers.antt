use Rattle.std.proofs.Common.{◌≡◌, inr, rules}
use Rattle.std.specs.Prelude.{IfOk, MatchResult, OnOk, Result, Ok, Err}
use Rattle.receipt_check.specs.Held.{bytes_in}
use Rattle.seal_text.proofs.CompareFacts.{compared}
use Rattle.seal_text.proofs.compare.compare_all.Goals as goal

pub returns : goal.returns
returns g c = inr (record {
  answer = c.serve_pairs-compare_result.result;
  appends = record {
    files = bytes_in c.as_slice-2.result.now;
    answers = compared g.W.Write.contents _ _ c.serve_pairs-compare_result.result _ _ _ _ _ c.serve_pairs-compare_result.ensures.good c.serve_pairs-compare_result.ensures.told c.serve_pairs-compare_result.ensures.stable c.serve_pairs-compare_result.ensures.fault c.serve_pairs-compare_result.ensures.unwritten;
  };
  tells = search rules;
})
