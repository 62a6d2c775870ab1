use Rattle.std.proofs.Common.{◌∙◌, refl}
use Rattle.std.proofs.lemmas.Result.{err_from_is_err_and}
use Rattle.records.specs.Reading.{field}
use Rattle.docket.proofs.DeclarationFacts.{refuses_first, refuses_second, no_fault}
use Rattle.docket.proofs.RankingFacts.{distinct_residents}
use Rattle.docket.proofs.SheetMarkFacts.{unmatched_fault_is, unmatched_resident, marked_at, second_row, first_row, marks_unmatched}
use Rattle.docket.proofs.passes.sheet.Marks.add_unmatched.Goals as goal

pub returns-in_err-resident-clause-fault : goal.returns-in_err-resident-clause-fault
returns-in_err-resident-clause-fault c = λ programmes texts all before row h marked.
    let p = err_from_is_err_and c.from_residual.result c.from_residual.ensures.1 in
    rw (p.1, p.2, unmatched_fault_is texts programmes c.args.residents.now all before c.args.record_no c.args.resident row h) (refuses_first _ _ _ c.in_err-resident.ensures.fault)

pub returns-then-index-clause-fault : goal.returns-then-index-clause-fault
returns-then-index-clause-fault c = λ programmes texts all before row h marked.
    let at = unmatched_resident texts programmes c.args.residents.now all before c.args.record_no c.args.resident c.in_ok-resident.resident row h c.in_ok-resident.ensures.member in
    let same = c.index.ensures ∙ marked_at c.args.self.now all before (field row 1) c.in_ok-resident.resident _ marked at in
    rw (unmatched_fault_is texts programmes c.args.residents.now all before c.args.record_no c.args.resident row h)
    (refuses_second _ _ _ c.in_ok-resident.ensures.fault (second_row _ _ c.index.result.now _ refl same c.if-index.true))

pub returns-clause-fault : goal.returns-clause-fault
returns-clause-fault c = λ programmes texts all before row h marked.
    let at = unmatched_resident texts programmes c.args.residents.now all before c.args.record_no c.args.resident c.in_ok-resident.resident row h c.in_ok-resident.ensures.member in
    let same = c.index.ensures ∙ marked_at c.args.self.now all before (field row 1) c.in_ok-resident.resident _ marked at in
    unmatched_fault_is texts programmes c.args.residents.now all before c.args.record_no c.args.resident row h
    ∙ no_fault _ _ c.in_ok-resident.ensures.fault (first_row _ _ c.index.result.now _ refl same c.if-index.false)

pub returns-clause-marked : goal.returns-clause-marked
returns-clause-marked c = λ programmes texts all before row h marked.
    let at = unmatched_resident texts programmes c.args.residents.now all before c.args.record_no c.args.resident c.in_ok-resident.resident row h c.in_ok-resident.ensures.member in
    marks_unmatched c.args.self.now _ all before row c.in_ok-resident.resident (distinct_residents all h.known.sound h.known.few) h.says.0 at marked refl refl refl refl
