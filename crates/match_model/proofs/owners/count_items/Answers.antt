use Rattle.std.proofs.Common.{◌+◌, ℕ, List, get_or, take, arith}
use Rattle.match_model.proofs.Mutual.{list_all_at}
use Rattle.match_model.proofs.Entered.{AreStepped-more, AreStepped-unlisted, new_item}
use Rattle.match_model.proofs.owners.count_items.Goals as goal

pub overflow_add-counts : goal.overflow_add-counts
overflow_add-counts c =
    let i : ℕ = c.loop-item.item-index in
    let list : List ℕ = c.args.items.now in
    let x : ℕ = get_or list i 0 in
    let below = list_all_at _ list i c.requires.below c.loop-item-test.true in
    let same = AreStepped-unlisted 0 (λ _ n. n + 1) (take i list) c.args.counts.now c.loop-item.counts x c.loop-item.invariant below (new_item list i c.requires.distinct c.loop-item-test.true) in
    let few = c.requires.few x below in
    omega arith

pub loop-item-preserved : goal.loop-item-preserved
loop-item-preserved c =
    let i : ℕ = c.loop-item.item-index in
    let list : List ℕ = c.args.items.now in
    let below = list_all_at _ list i c.requires.below c.loop-item-test.true in
    AreStepped-more 0 (λ _ n. n + 1) list i c.args.counts.now c.loop-item.counts c.loop-item-test.true (new_item list i c.requires.distinct c.loop-item-test.true) below c.loop-item.invariant
