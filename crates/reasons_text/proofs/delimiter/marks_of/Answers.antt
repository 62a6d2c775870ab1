use Rattle.std.proofs.Common.{arith, sym, ◌∙◌}
use Rattle.reasons_text.specs.Delimiter.{marks_of, no_marks}
use Rattle.reasons_text.proofs.DelimiterFacts.{marks_end, marks_more, marks_stop}
use Rattle.reasons_text.proofs.delimiter.marks_of.Goals as goal

pub loop-byte-preserved : goal.loop-byte-preserved
loop-byte-preserved c =
    marks_more c.args.key_bytes.now (marks_of no_marks c.args.key_bytes.now) c.loop-byte.marks c.count.new.self c.loop-byte.byte-index (omega arith)
    (sym c.ends_line.ensures ∙ c.if-ends_line.false) c.count.ensures c.loop-byte.invariant

pub returns-then-ends_line : goal.returns-then-ends_line
returns-then-ends_line c =
    marks_stop c.args.key_bytes.now (marks_of no_marks c.args.key_bytes.now) c.loop-byte.marks c.loop-byte.byte-index (omega arith)
    (sym c.ends_line.ensures ∙ c.if-ends_line.true) c.loop-byte.invariant

pub returns : goal.returns
returns c = marks_end c.args.key_bytes.now (marks_of no_marks c.args.key_bytes.now) c.loop-byte.marks c.loop-byte.byte-index (omega arith) c.loop-byte.invariant
