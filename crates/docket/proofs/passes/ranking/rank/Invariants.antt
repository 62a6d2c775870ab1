use Rattle.std.proofs.Common.{◌≡◌, [], List, drop}
use Rattle.records.specs.Reading.{Fields}
use Rattle.docket.specs.Known.{AreKnown}
use Rattle.docket.specs.Lists.{AreLists}
use Rattle.docket.specs.Ranking.{IsRanked}
use Rattle.docket.proofs.ListPassFacts.{IsAt}
use Rattle.docket.proofs.passes.ranking.rank.Given as goal

abbrev pub invariant-loop-row_index : goal.invariant-loop-row_index
invariant-loop-row_index l = ((texts : Fields) (rows : List Fields) → AreLists texts l.lists rows → AreKnown texts l.programmes l.residents rows → IsRanked l.initial.builder rows [] → IsAt texts rows l.builder (drop l.row_index l.lists.entries))
    × (l.builder.limits ≡ l.initial.builder.limits) × (l.initial.programme_lists ≡ l.initial.builder.programme_lists → l.programme_lists ≡ l.builder.programme_lists)
