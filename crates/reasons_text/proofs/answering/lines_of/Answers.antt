use Rattle.std.proofs.Common.{ap}
use Rattle.reasons_text.specs.Naming.{naming_of}
use Rattle.reasons_text.specs.Texts.{IsTextOn}
use Rattle.reasons_text.proofs.LineFacts.{of_new}
use Rattle.reasons_text.proofs.answering.lines_of.Goals as goal

pub returns : goal.returns
returns c =
    of_new (IsTextOn c.args.case.now (naming_of c.args.manner.now.names) c.args.manner.now.without_ranks c.args.resident) _ _ _
    (ap (λ v. v.items) c.into_bytes.ensures.value) c.new-answer_lines.ensures.bytes c.in_ok-push_lines.ensures
