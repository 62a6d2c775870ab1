use Rattle.std.proofs.Common.{arith, rules, inr, ◌≡◌, true, false}
use Rattle.docket.specs.Passes.{filled_fault}
use Rattle.docket.proofs.PassFacts.{first_from-none, first_from-push}
use Rattle.docket.proofs.SheetWalkFacts.{IsRightSo, right_passes, walk_start, walk_at, walk_more, walk_fault, stands, right_end}
use Rattle.docket.proofs.passes.sheet.Marks.check_filled.Goals as goal

pub loop-sheet_row-init : goal.loop-sheet_row-init
loop-sheet_row-init c = λ texts residents all h known marked quotas none. walk_start texts h.front c.args.rows.now (IsRightSo all) h.kept_are (first_from-none (filled_fault all))

pub returns-then-not-is_right : goal.returns-then-not-is_right
returns-then-not-is_right c = λ texts residents all h known marked quotas none.
    let e : c.is_right.result ≡ false = search (rules, c.if-not-is_right.true) in
    let n = walk_at texts h.front c.args.rows.now c.loop-sheet_row.sheet_row-index _ (IsRightSo all) (right_passes all) c.loop-sheet_row-test.true (c.loop-sheet_row.invariant texts residents all h known marked quotas none) in
    let s = stands texts c.args.programmes.now residents c.args.rows.now all h _ _ (IsRightSo all) n known in
    let fault = rw e at c.is_right.ensures texts residents all n.before n.row s marked quotas none in
    walk_fault (filled_fault all) all n.before s.rest n.row _ s.all_are n.here (inr fault)

pub loop-sheet_row-preserved : goal.loop-sheet_row-preserved
loop-sheet_row-preserved c = λ texts residents all h known marked quotas none.
    let e : c.is_right.result ≡ true = search (rules, c.if-not-is_right.false) in
    let n = walk_at texts h.front c.args.rows.now c.loop-sheet_row.sheet_row-index _ (IsRightSo all) (right_passes all) c.loop-sheet_row-test.true (c.loop-sheet_row.invariant texts residents all h known marked quotas none) in
    let s = stands texts c.args.programmes.now residents c.args.rows.now all h _ _ (IsRightSo all) n known in
    let fine = rw e at c.is_right.ensures texts residents all n.before n.row s marked quotas none in
    walk_more texts h.front _ _ (IsRightSo all) (IsRightSo all) n (first_from-push (filled_fault all) n.before n.row n.here fine)

pub returns : goal.returns
returns c = λ texts residents all h known marked quotas none.
    right_end texts c.args.programmes.now residents c.args.rows.now all c.loop-sheet_row.sheet_row-index h known none (omega (arith, c.loop-sheet_row-test.false)) (c.loop-sheet_row.invariant texts residents all h known marked quotas none)
