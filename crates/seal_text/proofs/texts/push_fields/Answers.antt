use Rattle.std.proofs.Common.{◌∙◌, arith}
use Rattle.csv.specs.Records.{fields_of}
use Rattle.records.proofs.LineFacts.{field_is}
use Rattle.seal_text.proofs.RecordFacts.{extends_all, extends_more, extends_none}
use Rattle.seal_text.proofs.texts.push_fields.Goals as goal

pub loop-k-init : goal.loop-k-init
loop-k-init c = extends_none c.args.row.now c.requires

pub push_field-requires : goal.push_field-requires
push_field-requires c = c.loop-k.invariant.whole

pub loop-k-preserved : goal.loop-k-preserved
loop-k-preserved c =
    let fields = fields_of c.args.fields.now in
    extends_more fields c.loop-k.k _ _ _ _ (omega (arith, c.loop-k-test.true, c.len-k-end.ensures)) c.loop-k.invariant (c.field.ensures ∙ field_is fields c.loop-k.k) c.in_ok-push_field.ensures

pub returns : goal.returns
returns c = extends_all (fields_of c.args.fields.now) c.loop-k.k _ _ (omega (arith, c.loop-k-test.false, c.len-k-end.ensures)) c.loop-k.invariant
