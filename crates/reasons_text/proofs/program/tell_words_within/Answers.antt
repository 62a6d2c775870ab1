use Rattle.program_shell.proofs.OfTexts.{ends_refused, ends_served}
use Rattle.reasons_text.specs.Line.{Asks, Refuses}
use Rattle.reasons_text.proofs.program.tell_words_within.Goals as goal

pub returns-in-Ok-read_line : goal.returns-in-Ok-read_line
returns-in-Ok-read_line g c =
    ends_served Refuses Asks _ c.args.words c.in-Ok.word_texts c.as_slice.result.now c.in-Ok.ensures.texts c.as_slice.ensures.value _ _ _ c.in-Ok-read_line.question c.in-Ok-read_line.ensures.question c.serve.ensures

pub returns-in-Err-read_line : goal.returns-in-Err-read_line
returns-in-Err-read_line g c =
    ends_refused Refuses Asks _ c.args.words c.in-Ok.word_texts c.as_slice.result.now c.in-Ok.ensures.texts c.as_slice.ensures.value _ _ c.in-Err-read_line.fault c.in-Err-read_line.ensures.refused c.refuse-in-Err-read_line.ensures
