use Rattle.std.proofs.Common.{◌≡◌, ℕ, ◌<◌, List, length, take, sym, ap, subst, arith}
use Rattle.std.specs.Prelude.{◌==◌, count_by}
use Rattle.std.specs.List.{All}
use Rattle.std.proofs.lemmas.List.{take_all}
use Rattle.match_pool.specs.Done.{Each}
use Rattle.match_pool.proofs.WorkerCounts.{so_far_next, each_counted}
use Rattle.match_pool.proofs.after_joins.count.Goals as goal

pub loop-worker-preserved : goal.loop-worker-preserved
loop-worker-preserved g c =
    let workers = g.J.ExchangeIdentity.workers in
    let all = subst (λ (ws : List ℕ). All (λ w. w < workers) ws) (sym c.who-who.ensures.who) c.who-who.ensures.by_worker.among_the_workers in
    let known = all c.loop-worker.worker-index 0 c.loop-worker-test.true in
    so_far_next workers c.who-who.result.now c.loop-worker.entered.items c.loop-worker.worker-index c.from.result c.index_mut.result.now c.loop-worker.invariant c.loop-worker-test.true (sym c.from.ensures)
    (omega (arith, known, c.from.ensures)) c.index_mut.ensures.value

pub returns : goal.returns
returns g c =
    let who = c.who-who.ensures.who in
    let by = c.who-who.ensures.by_worker in
    let k = c.loop-worker.worker-index in
    let whole : take k c.who-who.result.now ≡ c.who-who.result.now = take_all k c.who-who.result.now (omega arith) in
    let counts = each_counted g.J.ExchangeIdentity.workers c.who-who.result.now c.loop-worker.entered.items k c.loop-worker.invariant whole in
    record {
      one_worker_each = by.one_worker_each;
      among_the_workers = by.among_the_workers;
      counted = subst (λ (ws : List ℕ). Each c.loop-worker.entered.items g.J.ExchangeIdentity.workers (λ w n. n ≡ count_by (λ v. v == w) ws)) who counts;
      all_counted = omega (arith, c.loop-worker.invariant.added_up, ap length who, by.one_worker_each);
    }
