use Rattle.program_shell.proofs.OfTexts.{ends_refused, ends_served}
use Rattle.audit_files.specs.Line.{Orders, Refuses}
use Rattle.audit_files.proofs.program.audit_words.Goals as goal

pub returns-in-Ok-read_line : goal.returns-in-Ok-read_line
returns-in-Ok-read_line g c =
    ends_served Refuses Orders _ c.args.words c.in-Ok.word_texts c.as_slice.result.now c.in-Ok.ensures.texts c.as_slice.ensures.value _ _ _ c.in-Ok-read_line.order c.in-Ok-read_line.ensures.order c.serve_order.ensures

pub returns : goal.returns
returns g c =
    ends_refused Refuses Orders _ c.args.words c.in-Ok.word_texts c.as_slice.result.now c.in-Ok.ensures.texts c.as_slice.ensures.value _ _ c.in-Err-read_line.fault c.in-Err-read_line.ensures.refused c.refuse-in-Err-read_line.ensures
