use Rattle.std.proofs.Common.{◌≡◌, ◌+◌, ◌∙◌, ℕ, List, [], length, get_or, set, take, sym, ap, subst, arith}
use Rattle.match_model.specs.Instance.{list_at}
use Rattle.match_model.specs.Owners.{AreStepped}
use Rattle.match_model.specs.Rows.{RowLists}
use Rattle.match_model.proofs.Mutual.{list_all_at}
use Rattle.match_model.proofs.Rankings.{is_listed_at}
use Rattle.match_model.proofs.Entered.{AreStepped-more, AreStepped-unlisted, new_item}
use Rattle.match_model.proofs.owners.enter.Goals as goal

pub set-choice-requires : goal.set-choice-requires
set-choice-requires c =
    let i : ℕ = c.loop-item.item-index in
    let list : List ℕ = c.args.items.now in
    let x : ℕ = get_or list i 0 in
    let below = list_all_at _ list i c.requires.below c.loop-item-test.true in
    let new = new_item list i c.requires.distinct c.loop-item-test.true in
    let many = c.requires.one_each in
    let count = AreStepped-unlisted 0 (λ (x n : ℕ). n + 1) (take i list) c.args.counts.now c.loop-item.counts x c.loop-item.invariant.counted below new in
    let same = AreStepped-unlisted [] (λ (x : ℕ) (row : List ℕ). set row (get_or c.args.counts.now x 0) c.args.owner) (take i list) c.args.rows.now.rows c.loop-item.rows.rows x c.loop-item.invariant.entered (omega arith) new in
    let room = c.requires.room x (is_listed_at list x i c.loop-item-test.true (λ _. x)) in
    let long = ap (λ (row : List ℕ). length row) same in
    omega arith

pub overflow_add-counts : goal.overflow_add-counts
overflow_add-counts c =
    let i : ℕ = c.loop-item.item-index in
    let list : List ℕ = c.args.items.now in
    let x : ℕ = get_or list i 0 in
    let below = list_all_at _ list i c.requires.below c.loop-item-test.true in
    let count = AreStepped-unlisted 0 (λ (x n : ℕ). n + 1) (take i list) c.args.counts.now c.loop-item.counts x c.loop-item.invariant.counted below (new_item list i c.requires.distinct c.loop-item-test.true) in
    let few = c.requires.few x below in
    omega arith

pub loop-item-preserved : goal.loop-item-preserved
loop-item-preserved c =
    let i : ℕ = c.loop-item.item-index in
    let list : List ℕ = c.args.items.now in
    let x : ℕ = get_or list i 0 in
    let below = list_all_at _ list i c.requires.below c.loop-item-test.true in
    let new = new_item list i c.requires.distinct c.loop-item-test.true in
    let many = c.requires.one_each in
    let step : ℕ → List ℕ → List ℕ = λ x row. set row (get_or c.args.counts.now x 0) c.args.owner in
    let count : get_or c.loop-item.counts x 0 ≡ get_or c.args.counts.now x 0 = AreStepped-unlisted 0 (λ (x n : ℕ). n + 1) (take i list) c.args.counts.now c.loop-item.counts x c.loop-item.invariant.counted below new in
    let made = ap (λ (v : RowLists ℕ). v.rows) c.set-choice.ensures ∙ ap (λ (k : ℕ). set c.loop-item.rows.rows x (set (list_at c.loop-item.rows.rows x) k c.args.owner)) count in
    record {
      entered = subst (AreStepped [] step (take (i + 1) list) c.args.rows.now.rows) (sym made)
          (AreStepped-more [] step list i c.args.rows.now.rows c.loop-item.rows.rows c.loop-item-test.true new (omega arith) c.loop-item.invariant.entered);
      counted = AreStepped-more 0 (λ (x n : ℕ). n + 1) list i c.args.counts.now c.loop-item.counts c.loop-item-test.true new below c.loop-item.invariant.counted;
    }
