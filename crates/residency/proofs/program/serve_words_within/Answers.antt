use Rattle.program_shell.proofs.OfTexts.{ends_refused, ends_served}
use Rattle.command_line.specs.Line.{Orders, Refuses}
use Rattle.residency.proofs.program.serve_words_within.Goals as goal

pub returns-in-Ok-read_line : goal.returns-in-Ok-read_line
returns-in-Ok-read_line g c =
    ends_served Refuses Orders _ c.args.words c.in-Ok.word_texts c.as_slice.result.now c.in-Ok.ensures.texts c.as_slice.ensures.value _ _ _ c.in-Ok-read_line.order c.in-Ok-read_line.ensures.order (c.in-Ok-read_line.ensures.limits, c.serve_and_tell.ensures)

pub returns-in-Err-read_line : goal.returns-in-Err-read_line
returns-in-Err-read_line g c =
    ends_refused Refuses Orders _ c.args.words c.in-Ok.word_texts c.as_slice.result.now c.in-Ok.ensures.texts c.as_slice.ensures.value _ _ c.in-Err-read_line.fault c.in-Err-read_line.ensures.refused c.refuse-in-Err-read_line.ensures
