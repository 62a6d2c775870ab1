use Rattle.csv.specs.Records.{fields_of}
use Rattle.docket_names.proofs.TextFacts.{starts_more}
use Rattle.docket.proofs.SheetRowFacts.{text_kept, sheet_grow}
use Rattle.docket.proofs.kinds.sheet.matched_row.Goals as goal

pub returns-clause-kept : goal.returns-clause-kept
returns-clause-kept c = λ rows place h.
    let row = fields_of c.args.row.now in
    let first = c.name_in.ensures.texts in
    let second = c.name_in-2.ensures.texts in
    let resident = text_kept c.name_in.new.name_texts c.name_in-2.new.name_texts c.in_ok-resident.resident 1 row second c.in_ok-resident.ensures.number in
    let all = starts_more c.args.name_texts.now c.name_in.new.name_texts c.name_in-2.new.name_texts first second in
    c.in_ok-add.ensures c.name_in-2.new.name_texts rows row place (c.requires.kind, resident, c.in_ok-programme.ensures.number) (sheet_grow c.args.name_texts.now c.name_in-2.new.name_texts c.args.sheet_rows.now rows all h)
