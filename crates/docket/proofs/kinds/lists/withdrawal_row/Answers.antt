use Rattle.std.proofs.Common.{arith, ◌∙◌, ◌≡◌, sym, inr, length, is_some, ap, refl}
use Rattle.csv.specs.Records.{fields_of}
use Rattle.docket.specs.Fields.{unless}
use Rattle.docket.specs.Lists.{gone_entry}
use Rattle.docket.specs.Passes.{next_place}
use Rattle.docket.specs.declared.fault.DocketFault.TheVariants.{BadName}
use Rattle.docket.proofs.ListFacts.{lists_added}
use Rattle.docket.proofs.ListRecordFacts.{gone_entry_in, gone_tested, gone_unsided, side_is}
use Rattle.docket.proofs.kinds.lists.withdrawal_row.Goals as goal

pub returns-in_default-clause-fault : goal.returns-in_default-clause-fault
returns-in_default-clause-fault c =
    let three : length (fields_of c.args.row.now) ≡ 3 = omega arith in
    inr (gone_unsided c.args.record_no (fields_of c.args.row.now) three (rw c.field.ensures at (sym c.side_of.ensures ∙ c.in_default.is)))

pub returns-in-Some-2-clause-side : goal.returns-in-Some-2-clause-side
returns-in-Some-2-clause-side c = (side_is _ c.in-Some.side (rw c.field.ensures at (sym c.side_of.ensures ∙ c.in-Some.is))).0

pub returns-in-Some-2-clause-kept : goal.returns-in-Some-2-clause-kept
returns-in-Some-2-clause-kept c rows place h =
    let sided = rw c.field.ensures at (sym c.side_of.ensures ∙ c.in-Some.is) in
    lists_added c.args.name_texts.now c.add_withdrawal.new.name_texts c.args.lists.now c.add_withdrawal.new.self rows (fields_of c.args.row.now) (gone_entry c.args.record_no c.in-Some.side (fields_of c.args.row.now))
    (c.in_ok-name.ensures.kept (rw c.in-Some-2.is refl)) c.in_ok-name.ensures.texts
    (gone_entry_in (next_place rows) c.args.record_no c.in-Some.side (fields_of c.args.row.now) c.requires.kind sided place) h

pub returns-in-Some-2-clause-fault : goal.returns-in-Some-2-clause-fault
returns-in-Some-2-clause-fault c =
    let three : length (fields_of c.args.row.now) ≡ 3 = omega arith in
    let sided = rw c.field.ensures at (sym c.side_of.ensures ∙ c.in-Some.is) in
    gone_tested c.args.record_no (fields_of c.args.row.now) c.in-Some.side (is_some c.in_ok-name.field-0) three sided c.in_ok-name.ensures.named ∙ ap (λ o. unless (is_some o) (BadName c.args.record_no)) c.in-Some-2.is

pub returns-in-None-clause-fault : goal.returns-in-None-clause-fault
returns-in-None-clause-fault c =
    let three : length (fields_of c.args.row.now) ≡ 3 = omega arith in
    let sided = rw c.field.ensures at (sym c.side_of.ensures ∙ c.in-Some.is) in
    inr (gone_tested c.args.record_no (fields_of c.args.row.now) c.in-Some.side (is_some c.in_ok-name.field-0) three sided c.in_ok-name.ensures.named ∙ ap (λ o. unless (is_some o) (BadName c.args.record_no)) c.in-None.is)
