use Rattle.csv.specs.Records.{fields_of}
use Rattle.docket.proofs.SheetRowFacts.{sheet_grow}
use Rattle.docket.proofs.kinds.sheet.unmatched_row.Goals as goal

pub returns-clause-kept : goal.returns-clause-kept
returns-clause-kept c = λ rows place h.
    c.in_ok-add.ensures c.name_in.new.name_texts rows (fields_of c.args.row.now) place (c.requires.kind, c.in_ok-resident.ensures.number)
    (sheet_grow c.args.name_texts.now c.name_in.new.name_texts c.args.sheet_rows.now rows c.name_in.ensures.texts h)
