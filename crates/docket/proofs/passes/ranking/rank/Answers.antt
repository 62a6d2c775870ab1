use Rattle.std.proofs.Common.{◌≤◌, ◌+◌, ◌∙◌, refl, arith, length, drop}
use Rattle.std.proofs.lemmas.Result.{err_from_is_err_and}
use Rattle.docket.specs.Passes.{ranking_fault}
use Rattle.docket.proofs.PassFacts.{pass_fault}
use Rattle.docket.proofs.ListBeginFacts.{begin_at}
use Rattle.docket.proofs.ListPassFacts.{next_at, all_done, entries_split, no_more}
use Rattle.docket.proofs.passes.ranking.rank.Goals as goal

pub loop-row_index-init : goal.loop-row_index-init
loop-row_index-init c = (λ texts rows lists known start. begin_at texts c.args.programmes.now c.args.residents.now c.args.lists.now rows c.args.builder.now lists known start, refl, λ same. same)

pub loop-row_index-preserved : goal.loop-row_index-preserved
loop-row_index-preserved c = (
  λ texts rows lists known start.
      let s = entries_split c.args.lists.now.entries c.loop-row_index.row_index (omega arith) in
      let n = next_at texts c.args.programmes.now c.args.residents.now c.loop-row_index.builder rows s.entry (drop (c.loop-row_index.row_index + 1) c.args.lists.now.entries) known
      (rw s.split at (c.loop-row_index.invariant.0 texts rows lists known start)) in
      n.after c.rank_row.new.builder (c.in_ok-rank_row.ensures.ranked texts rows n.k s.entry s.at n.next) (c.in_ok-rank_row.ensures.fault texts rows n.k s.entry s.at n.next),
  c.in_ok-rank_row.ensures.limits ∙ c.loop-row_index.invariant.1,
  λ same. c.in_ok-rank_row.ensures.given (c.loop-row_index.invariant.2 same),
)

pub returns-in_err-rank_row-clause-fault : goal.returns-in_err-rank_row-clause-fault
returns-in_err-rank_row-clause-fault c texts rows lists known start =
    let s = entries_split c.args.lists.now.entries c.loop-row_index.row_index (omega arith) in
    let n = next_at texts c.args.programmes.now c.args.residents.now c.loop-row_index.builder rows s.entry (drop (c.loop-row_index.row_index + 1) c.args.lists.now.entries) known
    (rw s.split at (c.loop-row_index.invariant.0 texts rows lists known start)) in
    let p = err_from_is_err_and c.from_residual.result c.from_residual.ensures.1 in
    rw (p.1, p.2) (pass_fault (ranking_fault rows) rows n.k _ n.next.there n.none (c.in_err-rank_row.ensures.fault texts rows n.k s.entry s.at n.next))

pub returns-clause-ranked : goal.returns-clause-ranked
returns-clause-ranked c texts rows lists known start =
    let end : length c.args.lists.now.entries ≤ c.loop-row_index.row_index = omega arith in
    (all_done texts rows c.loop-row_index.builder (rw (no_more c.args.lists.now.entries c.loop-row_index.row_index end) at (c.loop-row_index.invariant.0 texts rows lists known start))).0

pub returns-clause-fault : goal.returns-clause-fault
returns-clause-fault c texts rows lists known start =
    let end : length c.args.lists.now.entries ≤ c.loop-row_index.row_index = omega arith in
    (all_done texts rows c.loop-row_index.builder (rw (no_more c.args.lists.now.entries c.loop-row_index.row_index end) at (c.loop-row_index.invariant.0 texts rows lists known start))).1

pub returns-clause-limits : goal.returns-clause-limits
returns-clause-limits c = c.loop-row_index.invariant.1

pub returns-clause-given : goal.returns-clause-given
returns-clause-given c = c.loop-row_index.invariant.2
