use Rattle.std.proofs.Common.{List, ℕ, ◌++◌, ap, ◌∙◌}
use Rattle.reasons_text.specs.Lines.{line}
use Rattle.reasons_text.specs.Naming.{naming_of}
use Rattle.reasons_text.proofs.answering.line_of.Goals as goal

pub returns : goal.returns
returns c =
    let said = line (naming_of c.args.manner.now.names) c.args.manner.now.without_ranks c.args.resident c.args.programme c.reason-reason.result in
    record {
      reason = c.reason-reason.result;
      first = c.reason-reason.ensures;
      text_is = ap (λ v. v.items) c.into_bytes.ensures.value ∙ c.in_ok-push_line.ensures ∙ ap (λ (t : List ℕ). t ++ said) c.new-answer_line.ensures.bytes;
    }
