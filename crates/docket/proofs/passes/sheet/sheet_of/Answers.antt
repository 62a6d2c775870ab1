use Rattle.std.proofs.Common.{inr}
use Rattle.std.proofs.lemmas.Result.{err_from_is_err_and}
use Rattle.docket.proofs.DeclarationFacts.{refuses_first, refuses_second, no_fault}
use Rattle.docket.proofs.SheetMarkFacts.{blank_marked, missing_is, sheet_all}
use Rattle.docket.proofs.passes.sheet.sheet_of.Goals as goal

pub returns-in_err-add_rows-clause-fault : goal.returns-in_err-add_rows-clause-fault
returns-in_err-add_rows-clause-fault c = λ texts all h known quotas size.
    let blank = blank_marked c.in_ok-marks.marks texts c.args.programmes.now c.args.residents.now all _ _ c.in_ok-marks.ensures.blank c.len.ensures c.len-2.ensures known in
    let p = err_from_is_err_and c.from_residual-in_err-add_rows.result c.from_residual-in_err-add_rows.ensures.1 in
    let fault = rw c.rows.ensures at c.in_err-add_rows.ensures.fault in
    rw (p.1, p.2) (refuses_first _ _ _ (fault texts all h known blank))

pub returns-then-not-is_complete-clause-fault : goal.returns-then-not-is_complete-clause-fault
returns-then-not-is_complete-clause-fault c = λ texts all h known quotas size.
    let blank = blank_marked c.in_ok-marks.marks texts c.args.programmes.now c.args.residents.now all _ _ c.in_ok-marks.ensures.blank c.len.ensures c.len-2.ensures known in
    let none = rw c.rows.ensures at c.in_ok-add_rows.ensures.fault in
    let marked = rw c.rows.ensures at c.in_ok-add_rows.ensures.marked in
    let missing = missing_is c.add_rows.new.self all c.args.record_count (marked texts all h known blank) size in
    let is = rw (← c.is_complete.ensures, c.if-not-is_complete.true) at missing in
    refuses_second _ _ _ (none texts all h known blank) (refuses_first _ _ _ (inr is))

pub returns-in_err-check_filled-clause-fault : goal.returns-in_err-check_filled-clause-fault
returns-in_err-check_filled-clause-fault c = λ texts all h known quotas size.
    let blank = blank_marked c.in_ok-marks.marks texts c.args.programmes.now c.args.residents.now all _ _ c.in_ok-marks.ensures.blank c.len.ensures c.len-2.ensures known in
    let none = rw c.rows.ensures at c.in_ok-add_rows.ensures.fault in
    let marked = rw c.rows.ensures at c.in_ok-add_rows.ensures.marked in
    let missing = missing_is c.add_rows.new.self all c.args.record_count (marked texts all h known blank) size in
    let is = rw (← c.is_complete.ensures, c.if-not-is_complete.false) at missing in
    let fault = rw c.rows-2.ensures at c.in_err-check_filled.ensures in
    let p = err_from_is_err_and c.from_residual-in_err-check_filled.result c.from_residual-in_err-check_filled.ensures.1 in
    rw (p.1, p.2) (refuses_second _ _ _ (none texts all h known blank) (refuses_second _ _ _ is
    (fault texts c.args.residents.now all h known (marked texts all h known blank) quotas (none texts all h known blank))))

pub returns-clause-sheet : goal.returns-clause-sheet
returns-clause-sheet c = λ texts all h known quotas size.
    let blank = blank_marked c.in_ok-marks.marks texts c.args.programmes.now c.args.residents.now all _ _ c.in_ok-marks.ensures.blank c.len.ensures c.len-2.ensures known in
    let marked = rw c.rows.ensures at c.in_ok-add_rows.ensures.marked in
    sheet_all c.add_rows.new.self all (marked texts all h known blank)

pub returns-clause-fault : goal.returns-clause-fault
returns-clause-fault c = λ texts all h known quotas size.
    let blank = blank_marked c.in_ok-marks.marks texts c.args.programmes.now c.args.residents.now all _ _ c.in_ok-marks.ensures.blank c.len.ensures c.len-2.ensures known in
    let none = rw c.rows.ensures at c.in_ok-add_rows.ensures.fault in
    let marked = rw c.rows.ensures at c.in_ok-add_rows.ensures.marked in
    let missing = missing_is c.add_rows.new.self all c.args.record_count (marked texts all h known blank) size in
    let is = rw (← c.is_complete.ensures, c.if-not-is_complete.false) at missing in
    let fault = rw c.rows-2.ensures at c.in_ok-check_filled.ensures in
    no_fault _ _ (none texts all h known blank) (no_fault _ _ is
    (fault texts c.args.residents.now all h known (marked texts all h known blank) quotas (none texts all h known blank)))
