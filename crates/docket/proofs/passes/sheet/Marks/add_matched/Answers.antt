use Rattle.std.proofs.Common.{◌∙◌, ◌+◌, ◌≡◌, ap, refl, sym, arith}
use Rattle.std.specs.Prelude.{slice_set, count_by}
use Rattle.std.proofs.lemmas.Result.{err_from_is_err_and}
use Rattle.docket.specs.Contents.{is_matched_with}
use Rattle.records.specs.Reading.{field}
use Rattle.docket.proofs.DeclarationFacts.{refuses_first, refuses_second, no_fault}
use Rattle.docket.proofs.RankingFacts.{distinct_programmes, distinct_residents}
use Rattle.docket.proofs.SheetMarkFacts.{matched_fault_is, matched_resident, matched_programme, marked_at, counts_at, count_few, second_row, first_row, room, marks_matched}
use Rattle.docket.proofs.passes.sheet.Marks.add_matched.Goals as goal

pub returns-in_err-resident-clause-fault : goal.returns-in_err-resident-clause-fault
returns-in_err-resident-clause-fault c = λ texts all before row h marked.
    let p = err_from_is_err_and c.from_residual.result c.from_residual.ensures.1 in
    rw (p.1, p.2, matched_fault_is texts c.args.programmes.now c.args.residents.now all before c.args.record_no c.args.resident c.args.programme row h) (refuses_first _ _ _ c.in_err-resident.ensures.fault)

pub returns-in_err-programme-clause-fault : goal.returns-in_err-programme-clause-fault
returns-in_err-programme-clause-fault c = λ texts all before row h marked.
    let p = err_from_is_err_and c.from_residual-in_err-programme.result c.from_residual-in_err-programme.ensures.1 in
    rw (p.1, p.2, matched_fault_is texts c.args.programmes.now c.args.residents.now all before c.args.record_no c.args.resident c.args.programme row h)
    (refuses_second _ _ _ c.in_ok-resident.ensures.fault (refuses_first _ _ _ c.in_err-programme.ensures.fault))

pub returns-then-index-clause-fault : goal.returns-then-index-clause-fault
returns-then-index-clause-fault c = λ texts all before row h marked.
    let at = matched_resident texts c.args.programmes.now c.args.residents.now all before c.args.record_no c.args.resident c.args.programme c.in_ok-resident.resident row h c.in_ok-resident.ensures.member in
    let same = c.index.ensures ∙ marked_at c.args.self.now all before (field row 1) c.in_ok-resident.resident _ marked at in
    rw (matched_fault_is texts c.args.programmes.now c.args.residents.now all before c.args.record_no c.args.resident c.args.programme row h)
    (refuses_second _ _ _ c.in_ok-resident.ensures.fault (refuses_second _ _ _ c.in_ok-programme.ensures.fault (second_row _ _ c.index.result.now _ refl same c.if-index.true)))

pub returns-clause-fault : goal.returns-clause-fault
returns-clause-fault c = λ texts all before row h marked.
    let at = matched_resident texts c.args.programmes.now c.args.residents.now all before c.args.record_no c.args.resident c.args.programme c.in_ok-resident.resident row h c.in_ok-resident.ensures.member in
    let same = c.index.ensures ∙ marked_at c.args.self.now all before (field row 1) c.in_ok-resident.resident _ marked at in
    matched_fault_is texts c.args.programmes.now c.args.residents.now all before c.args.record_no c.args.resident c.args.programme row h
    ∙ no_fault _ _ c.in_ok-resident.ensures.fault (no_fault _ _ c.in_ok-programme.ensures.fault (first_row _ _ c.index.result.now _ refl same c.if-index.false))

pub returns-clause-marked : goal.returns-clause-marked
returns-clause-marked c = λ texts all before row h marked.
    let at = matched_resident texts c.args.programmes.now c.args.residents.now all before c.args.record_no c.args.resident c.args.programme c.in_ok-resident.resident row h c.in_ok-resident.ensures.member in
    let to = matched_programme texts c.args.programmes.now c.args.residents.now all before c.args.record_no c.args.resident c.args.programme c.in_ok-programme.programme row h c.in_ok-programme.ensures.member in
    let free = sym (c.index.ensures ∙ marked_at c.args.self.now all before (field row 1) c.in_ok-resident.resident _ marked at) ∙ c.if-index.false in
    let count = c.index-2.ensures ∙ counts_at c.args.self.now all before (field row 2) c.in_ok-programme.programme _ marked to in
    let few = count_few (is_matched_with (field row 2)) before in
    let less = room texts c.args.programmes.now c.args.residents.now all before c.args.record_no _ row h in
    let more : c.saturating_add.result ≡ count_by (is_matched_with (field row 2)) before + 1 = omega (arith, c.saturating_add.ensures, count, few, less) in
    marks_matched c.args.self.now _ all before row c.in_ok-resident.resident c.in_ok-programme.programme (distinct_programmes all h.known.sound h.known.few) (distinct_residents all h.known.sound h.known.few)
    h.says.0 at to free marked c.set.ensures refl refl (ap (λ n. slice_set c.args.self.now.matched_counts.items c.in_ok-programme.programme n) more)
