use Rattle.reasons_text.proofs.answering.serve_why_within.Goals as goal

pub returns-in-Ok-write_all-clause-text : goal.returns-in-Ok-write_all-clause-text
returns-in-Ok-write_all-clause-text g c = record {
  text = c.in-Ok.answer.items;
  wanted = c.in-Ok.ensures.text;
  appended = rw c.as_slice.ensures.value at c.in-Ok-write_all.ensures.bytes;
}
