use Rattle.std.proofs.Common.{◌+◌, take}
use Rattle.match_model.specs.Owners.{AreStepped}
use Rattle.match_model.proofs.owners.count_items.Given as goal

abbrev pub invariant-loop-item : goal.invariant-loop-item
invariant-loop-item l = AreStepped 0 (λ _ n. n + 1) (take l.item-index l.items) l.fn.counts l.counts
