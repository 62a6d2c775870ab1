use Rattle.std.proofs.Common.{◌∙◌, sym, refl, inr}
use Rattle.records.specs.Reading.{field}
use Rattle.csv.specs.Records.{fields_of}
use Rattle.docket.proofs.SheetRowFacts.{is_number-some, is_number-none}
use Rattle.docket.proofs.kinds.sheet.count_in.Goals as goal

pub returns-in-Some-clause-fault : goal.returns-in-Some-clause-fault
returns-in-Some-clause-fault c =
    let e = is_number-some (field (fields_of c.args.row.now) c.args.field_index) c.in-Some.number (rw (← c.field.ensures) (sym c.number_of.ensures ∙ c.in-Some.is)) in rw e refl

pub returns-in-None-clause-fault : goal.returns-in-None-clause-fault
returns-in-None-clause-fault c =
    let e = is_number-none (field (fields_of c.args.row.now) c.args.field_index) (rw (← c.field.ensures) (sym c.number_of.ensures ∙ c.in-None.is)) in rw e (inr refl)
