use Rattle.std.proofs.Common.{◌∙◌, refl}
use Rattle.std.proofs.lemmas.Result.{err_from_is_err_and}
use Rattle.records.specs.Reading.{field}
use Rattle.docket.proofs.DeclarationFacts.{refuses_first, refuses_second, no_fault}
use Rattle.docket.proofs.RankingFacts.{distinct_programmes}
use Rattle.docket.proofs.SheetMarkFacts.{filled_fault_is, filled_programme, filled_at, second_row, first_row, marks_filled}
use Rattle.docket.proofs.passes.sheet.Marks.add_filled.Goals as goal

pub returns-in_err-programme-clause-fault : goal.returns-in_err-programme-clause-fault
returns-in_err-programme-clause-fault c = λ filled quota residents texts all before row h marked.
    let p = err_from_is_err_and c.from_residual.result c.from_residual.ensures.1 in
    rw (p.1, p.2, filled_fault_is texts c.args.programmes.now residents all before c.args.record_no c.args.programme filled quota row h) (refuses_first _ _ _ c.in_err-programme.ensures.fault)

pub returns-then-index-clause-fault : goal.returns-then-index-clause-fault
returns-then-index-clause-fault c = λ filled quota residents texts all before row h marked.
    let at = filled_programme texts c.args.programmes.now residents all before c.args.record_no c.args.programme filled quota c.in_ok-programme.programme row h c.in_ok-programme.ensures.member in
    let same = c.index.ensures ∙ filled_at c.args.self.now all before (field row 1) c.in_ok-programme.programme _ marked at in
    rw (filled_fault_is texts c.args.programmes.now residents all before c.args.record_no c.args.programme filled quota row h)
    (refuses_second _ _ _ c.in_ok-programme.ensures.fault (second_row _ _ c.index.result.now _ refl same c.if-index.true))

pub returns-clause-fault : goal.returns-clause-fault
returns-clause-fault c = λ filled quota residents texts all before row h marked.
    let at = filled_programme texts c.args.programmes.now residents all before c.args.record_no c.args.programme filled quota c.in_ok-programme.programme row h c.in_ok-programme.ensures.member in
    let same = c.index.ensures ∙ filled_at c.args.self.now all before (field row 1) c.in_ok-programme.programme _ marked at in
    filled_fault_is texts c.args.programmes.now residents all before c.args.record_no c.args.programme filled quota row h
    ∙ no_fault _ _ c.in_ok-programme.ensures.fault (first_row _ _ c.index.result.now _ refl same c.if-index.false)

pub returns-clause-marked : goal.returns-clause-marked
returns-clause-marked c = λ filled quota residents texts all before row h marked.
    let at = filled_programme texts c.args.programmes.now residents all before c.args.record_no c.args.programme filled quota c.in_ok-programme.programme row h c.in_ok-programme.ensures.member in
    marks_filled c.args.self.now _ all before row c.in_ok-programme.programme (distinct_programmes all h.known.sound h.known.few) h.says.0 at marked refl refl refl refl
