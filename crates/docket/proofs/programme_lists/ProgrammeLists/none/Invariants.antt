use Rattle.std.proofs.Common.{◌≡◌, None, map, replicate}
use Rattle.docket.specs.Lists.{items_of}
use Rattle.docket.proofs.programme_lists.ProgrammeLists.none.Given as goal

abbrev pub invariant-loop-p : goal.invariant-loop-p
invariant-loop-p l = map items_of l.lists.items ≡ replicate l._p None
