use Rattle.std.proofs.Common.{◌<◌, ◌∙◌, ap, arith, length, map, sym}
use Rattle.std.proofs.lemmas.List.{length-map}
use Rattle.match_model.specs.Instance.{list_at}
use Rattle.docket.specs.Texts.{programme_name}
use Rattle.seal_text.proofs.RecordFacts.{chosen, extends_all, extends_more, extends_none, name_there, one_below}
use Rattle.seal_text.proofs.texts.push_choices.Goals as goal

pub loop-k-init : goal.loop-k-init
loop-k-init c = extends_none c.args.row.now c.requires.whole

pub push_field-requires : goal.push_field-requires
push_field-requires c = c.loop-k.invariant.whole

pub programme_name-requires : goal.programme_name-requires
programme_name-requires c =
    let list = list_at c.args.written_lists.now.resident_lists c.args.resident in
    let within : c.loop-k.k < length list = omega (arith, c.loop-k-test.true, c.listed_by_resident-k-end.ensures) in
    let below = one_below _ list c.loop-k.k c.requires.list within in
    let here = chosen list c.loop-k.k c.in-Some.programme (sym c.choice.ensures ∙ c.in-Some.is) in
    omega (arith, below, here, c.instance-instance.ensures.whole.programmes)

pub loop-k-preserved : goal.loop-k-preserved
loop-k-preserved c =
    let name = programme_name c.args.docket.now in
    let list = list_at c.args.written_lists.now.resident_lists c.args.resident in
    let within : c.loop-k.k < length list = omega (arith, c.loop-k-test.true, c.listed_by_resident-k-end.ensures) in
    let here = chosen list c.loop-k.k c.in-Some.programme (sym c.choice.ensures ∙ c.in-Some.is) in
    extends_more (map name list) c.loop-k.k _ _ _ _ (omega (arith, within, length-map list name)) c.loop-k.invariant
    (name_there name list c.loop-k.k _ within (c.as_bytes.ensures.value ∙ c.programme_name.ensures ∙ ap name here)) c.in_ok-push_field.ensures

pub returns : goal.returns
returns c =
    let name = programme_name c.args.docket.now in
    let list = list_at c.args.written_lists.now.resident_lists c.args.resident in
    extends_all (map name list) c.loop-k.k _ _ (omega (arith, c.loop-k-test.false, c.listed_by_resident-k-end.ensures, length-map list name)) c.loop-k.invariant
