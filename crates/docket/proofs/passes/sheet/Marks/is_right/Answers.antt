use Rattle.std.proofs.Common.{◌∙◌, ap, sym, refl, rules, []}
use Rattle.std.specs.Prelude.{slice_index_or, ◌==◌, unwrap_or, Option, ℕ}
use Rattle.records.specs.Reading.{field}
use Rattle.docket.specs.Contents.{quotas_of}
use Rattle.docket.specs.Passes.{first_from, mark_fault}
use Rattle.docket.proofs.SheetMarkFacts.{counts_at, clean_here, filled_is, filled_known, filled_other, filled_programme, filled_unknown, test_true, test_false}
use Rattle.docket.proofs.SheetWalkFacts.{not_filled}
use Rattle.docket.proofs.passes.sheet.Marks.is_right.Goals as goal

pub returns-in_default : goal.returns-in_default
returns-in_default c = λ texts residents all before row h marked quotas none.
    filled_other all before row (not_filled texts c.args.sheet_row.mark row h.says c.in_default.not-Filled)

pub returns-in_default-member : goal.returns-in_default-member
returns-in_default-member c = λ texts residents all before row h marked quotas none.
    let s = rw c.in-Filled.is at h in
    let unknown = filled_unknown texts c.args.programmes.now residents all before c.args.sheet_row.record_no c.in-Filled.programme c.in-Filled.filled c.in-Filled.quota row s (sym c.member.ensures ∙ c.in_default-member.is) in
    let here = clean_here (mark_fault all) before h.rest row (ap (first_from (mark_fault all) []) (sym h.all_are) ∙ none) in
    absurd (filled_known all before row here s.says.0 unknown)

pub returns-then-filled-index : goal.returns-then-filled-index
returns-then-filled-index c = λ texts residents all before row h marked quotas none.
    let s = rw c.in-Filled.is at h in
    let at = filled_programme texts c.args.programmes.now residents all before c.args.sheet_row.record_no c.in-Filled.programme c.in-Filled.filled c.in-Filled.quota c.in-Some.programme row s (sym c.member.ensures ∙ c.in-Some.is) in
    let f = sym (ap (λ (o : Option ℕ). unwrap_or o 0) s.says.2) in
    let q = sym (ap (λ (o : Option ℕ). unwrap_or o 0) s.says.3) in
    let count = c.index.ensures ∙ counts_at c.args.self.now all all (field row 1) c.in-Some.programme _ marked at in
    let quota = c.quota.ensures ∙ ap (λ l. slice_index_or l c.in-Some.programme 0) quotas in
    test_true (c.in-Filled.filled == c.index.result.now) _ _ _
    (filled_is all before row c.args.sheet_row.record_no c.in-Some.programme c.in-Filled.filled c.index.result.now c.in-Filled.quota c.quota.result s.says.0 at f count q quota h.place_is) (search (rules, c.if-filled-index.true))

pub returns-else-filled-index : goal.returns-else-filled-index
returns-else-filled-index c = λ texts residents all before row h marked quotas none.
    let s = rw c.in-Filled.is at h in
    let at = filled_programme texts c.args.programmes.now residents all before c.args.sheet_row.record_no c.in-Filled.programme c.in-Filled.filled c.in-Filled.quota c.in-Some.programme row s (sym c.member.ensures ∙ c.in-Some.is) in
    let f = sym (ap (λ (o : Option ℕ). unwrap_or o 0) s.says.2) in
    let q = sym (ap (λ (o : Option ℕ). unwrap_or o 0) s.says.3) in
    let count = c.index.ensures ∙ counts_at c.args.self.now all all (field row 1) c.in-Some.programme _ marked at in
    test_false (c.in-Filled.filled == c.index.result.now) _ _ _
    (filled_is all before row c.args.sheet_row.record_no c.in-Some.programme c.in-Filled.filled c.index.result.now c.in-Filled.quota (slice_index_or (quotas_of all) c.in-Some.programme 0) s.says.0 at f count q refl h.place_is)
    (search (rules, c.if-filled-index.false))
