use Rattle.program_shell.proofs.OfTexts.{ends_refused}
use Rattle.seal_text.specs.Line.{OrdersSeal, RefusesSeal}
use Rattle.seal_text.proofs.program.seal_words.Goals as goal

pub returns : goal.returns
returns g c =
    ends_refused RefusesSeal OrdersSeal _ c.args.words c.in-Ok.word_texts c.as_slice.result.now c.in-Ok.ensures.texts c.as_slice.ensures.value _ _ c.in-Err-read_line.fault c.in-Err-read_line.ensures.refused c.refuse-in-Err-read_line.ensures
