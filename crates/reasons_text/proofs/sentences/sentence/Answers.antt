use Rattle.std.proofs.Common.{sym}
use Rattle.reasons_text.specs.Lines.{sentence}
use Rattle.reasons_text.proofs.sentences.sentence.Goals as goal

pub returns-in-PrefersOwn : goal.returns-in-PrefersOwn
unfolding sentence
returns-in-PrefersOwn c = rw (c.in-PrefersOwn.is, sym c.programme-own_name.ensures) c.format-in-PrefersOwn.ensures.ok
