use Rattle.std.proofs.lemmas.Result.{on_ok_weaker}
use Rattle.records.proofs.RowTextFacts.{escaped_quote, escaped_other}
use Rattle.records.proofs.writer.RowWriter.put_escaped.Goals as goal

pub returns-then-byte-eq34 : goal.returns-then-byte-eq34
returns-then-byte-eq34 g c =
    on_ok_weaker c.put.result (λ h. rw (escaped_quote c.args.byte c.if-byte-eq34.true) h) c.put.ensures

pub returns-else-byte-eq34 : goal.returns-else-byte-eq34
returns-else-byte-eq34 g c =
    on_ok_weaker c.put-else-byte-eq34.result (λ h. rw (escaped_other c.args.byte c.if-byte-eq34.false) h) c.put-else-byte-eq34.ensures
