use Rattle.std.proofs.lemmas.Bool.{ne_eqb}
use Rattle.reasons_text.specs.Lines.{full_sentence}
use Rattle.reasons_text.proofs.sentences.full_sentence.Goals as goal

pub returns-then-quota-eq1 : goal.returns-then-quota-eq1
unfolding full_sentence
returns-then-quota-eq1 c = rw (c.in-Some.is, c.if-without_ranks.false, c.if-quota-eq1.true) c.format-then-quota-eq1.ensures.ok

pub returns : goal.returns
unfolding full_sentence
returns c =
    let more = ne_eqb _ 1 c.if-quota-eq1.false in
    rw (c.in-Some.is, c.if-without_ranks.false, more) c.format-2.ensures.ok
