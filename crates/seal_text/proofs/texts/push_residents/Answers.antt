use Rattle.std.proofs.Common.{◌∙◌, ap, arith, map}
use Rattle.std.proofs.lemmas.List.{length-map}
use Rattle.docket.specs.Texts.{resident_name}
use Rattle.seal_text.proofs.RecordFacts.{extends_all, extends_more, extends_none, item_there, name_there, one_below}
use Rattle.seal_text.proofs.texts.push_residents.Goals as goal

pub loop-k-init : goal.loop-k-init
loop-k-init c = extends_none c.args.row.now c.requires.whole

pub resident_name-requires : goal.resident_name-requires
resident_name-requires c =
    let below = one_below _ c.args.list.now c.loop-k.k c.requires.list c.loop-k-test.true in
    let here = item_there c.args.list.now c.loop-k.k c.index-list-k.result c.loop-k-test.true c.index-list-k.is in
    omega (arith, below, here, c.instance-instance.ensures.whole.residents)

pub push_field-requires : goal.push_field-requires
push_field-requires c = c.loop-k.invariant.whole

pub loop-k-preserved : goal.loop-k-preserved
loop-k-preserved c =
    let name = resident_name c.args.docket.now in
    let list = c.args.list.now in
    let here = item_there list c.loop-k.k c.index-list-k.result c.loop-k-test.true c.index-list-k.is in
    extends_more (map name list) c.loop-k.k _ _ _ _ (omega (arith, c.loop-k-test.true, length-map list name)) c.loop-k.invariant
    (name_there name list c.loop-k.k _ c.loop-k-test.true (c.as_bytes.ensures.value ∙ c.resident_name.ensures ∙ ap name here)) c.in_ok-push_field.ensures

pub returns : goal.returns
returns c =
    let name = resident_name c.args.docket.now in
    extends_all (map name c.args.list.now) c.loop-k.k _ _ (omega (arith, c.loop-k-test.false, length-map c.args.list.now name)) c.loop-k.invariant
