use Rattle.std.proofs.Common.{arith}
use Rattle.std.proofs.lemmas.Result.{err_from_is_err_and}
use Rattle.docket.specs.Passes.{mark_fault}
use Rattle.docket.proofs.PassFacts.{first_from-none, first_from-push}
use Rattle.docket.proofs.SheetWalkFacts.{IsMarkedSo, marked_passes, walk_start, walk_at, walk_more, walk_fault, stands, marked_end}
use Rattle.docket.proofs.passes.sheet.Marks.add_rows.Goals as goal

pub loop-sheet_row-init : goal.loop-sheet_row-init
loop-sheet_row-init c = record {
  sizes = c.requires.sizes;
  walk = λ texts all h known marked. walk_start texts h.front c.args.rows.now (IsMarkedSo c.args.self.now all) h.kept_are (marked, first_from-none (mark_fault all));
}

pub returns-in_err-add_row-clause-fault : goal.returns-in_err-add_row-clause-fault
returns-in_err-add_row-clause-fault c = λ texts all h known marked.
    let p = err_from_is_err_and c.from_residual.result c.from_residual.ensures.1 in
    let so = IsMarkedSo c.loop-sheet_row.self all in
    let n = walk_at texts h.front c.args.rows.now c.loop-sheet_row.sheet_row-index _ so (marked_passes c.loop-sheet_row.self all) c.loop-sheet_row-test.true (c.loop-sheet_row.invariant.walk texts all h known marked) in
    let s = stands texts c.args.programmes.now c.args.residents.now c.args.rows.now all h _ _ so n known in
    rw (p.1, p.2) (walk_fault (mark_fault all) all n.before s.rest n.row _ s.all_are n.here.1 (c.in_err-add_row.ensures.fault texts all n.before n.row s n.here.0))

pub loop-sheet_row-preserved : goal.loop-sheet_row-preserved
loop-sheet_row-preserved c = record {
  sizes = c.in_ok-add_row.ensures.sizes;
  walk = λ texts all h known marked.
      let so = IsMarkedSo c.loop-sheet_row.self all in
      let n = walk_at texts h.front c.args.rows.now c.loop-sheet_row.sheet_row-index _ so (marked_passes c.loop-sheet_row.self all) c.loop-sheet_row-test.true (c.loop-sheet_row.invariant.walk texts all h known marked) in
      let s = stands texts c.args.programmes.now c.args.residents.now c.args.rows.now all h _ _ so n known in
      walk_more texts h.front _ _ so (IsMarkedSo c.add_row.new.self all) n
      (c.in_ok-add_row.ensures.marked texts all n.before n.row s n.here.0, first_from-push (mark_fault all) n.before n.row n.here.1 (c.in_ok-add_row.ensures.fault texts all n.before n.row s n.here.0));
}

pub returns-clause-marked : goal.returns-clause-marked
returns-clause-marked c = λ texts all h known marked.
    (marked_end texts c.args.programmes.now c.args.residents.now c.args.rows.now all c.loop-sheet_row.self c.loop-sheet_row.sheet_row-index h known (omega (arith, c.loop-sheet_row-test.false)) (c.loop-sheet_row.invariant.walk texts all h known marked)).0

pub returns-clause-fault : goal.returns-clause-fault
returns-clause-fault c = λ texts all h known marked.
    (marked_end texts c.args.programmes.now c.args.residents.now c.args.rows.now all c.loop-sheet_row.self c.loop-sheet_row.sheet_row-index h known (omega (arith, c.loop-sheet_row-test.false)) (c.loop-sheet_row.invariant.walk texts all h known marked)).1
