use Rattle.std.proofs.Common.{arith, ◌∙◌, ◌≤◌, refl, inr, length, is_some, ap}
use Rattle.csv.specs.Records.{fields_of}
use Rattle.docket.specs.Fields.{unless}
use Rattle.docket.specs.Lists.{list_entry}
use Rattle.docket.specs.Passes.{next_place}
use Rattle.docket.specs.declared.fault.DocketFault.TheVariants.{BadName}
use Rattle.docket.proofs.ListFacts.{lists_added}
use Rattle.docket.proofs.ListRecordFacts.{list_entry_in, list_tested}
use Rattle.docket.proofs.kinds.lists.list_row.Goals as goal

pub returns-in-Some-clause-kept : goal.returns-in-Some-clause-kept
returns-in-Some-clause-kept c rows place h =
    lists_added c.args.name_texts.now c.add_list.new.name_texts c.args.lists.now c.add_list.new.self rows (fields_of c.args.row.now) (list_entry c.args.record_no c.args.side (fields_of c.args.row.now))
    (c.in_ok-owner.ensures.kept (rw c.in-Some.is refl)) c.in_ok-owner.ensures.texts
    (list_entry_in (next_place rows) c.args.record_no c.args.side (fields_of c.args.row.now) c.requires.kind place) h

pub returns-in-Some-clause-fault : goal.returns-in-Some-clause-fault
returns-in-Some-clause-fault c =
    let wide : 2 ≤ length (fields_of c.args.row.now) = omega arith in
    list_tested c.args.record_no (fields_of c.args.row.now) (is_some c.in_ok-owner.field-0) wide c.in_ok-owner.ensures.named ∙ ap (λ o. unless (is_some o) (BadName c.args.record_no)) c.in-Some.is

pub returns-in-None-clause-fault : goal.returns-in-None-clause-fault
returns-in-None-clause-fault c =
    let wide : 2 ≤ length (fields_of c.args.row.now) = omega arith in
    inr (list_tested c.args.record_no (fields_of c.args.row.now) (is_some c.in_ok-owner.field-0) wide c.in_ok-owner.ensures.named ∙ ap (λ o. unless (is_some o) (BadName c.args.record_no)) c.in-None.is)
