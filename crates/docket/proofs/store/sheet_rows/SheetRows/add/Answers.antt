use Rattle.docket.proofs.SheetRowFacts.{sheet_more}
use Rattle.docket.proofs.store.sheet_rows.SheetRows.add.Goals as goal

pub returns : goal.returns
returns c = λ texts rows row place says h.
    rw (c.in_ok-push.ensures.items, c.self.view_is) (sheet_more texts c.args.self.now rows (record { record_no = c.args.record_no; mark = c.args.mark }) row c.requires place says h)
