-- The second pass begins with all entries of the store.
use Rattle.std.proofs.Common.{◌⊎◌, ◌≤◌, ◌<◌, ℕ, List, [], map, sym, subst, inl, inr, refl}
use Rattle.match_model.specs.Draft.{Draft}
use Rattle.records.specs.Reading.{Fields}
use Rattle.docket.specs.Known.{AreKnown}
use Rattle.docket.specs.Lists.{KeptLists, ListEntry, AreLists, named}
use Rattle.docket.specs.Passes.{ranking_fault}
use Rattle.docket.specs.Ranking.{IsRanked}
use Rattle.docket.specs.declared.vocabulary.TheConstants.{MOST_NAMES}
use Rattle.docket.proofs.FewFacts.{few_members}
use Rattle.docket.proofs.PassFacts.{first_from-none}
use Rattle.docket.proofs.ListCutFacts.{left_cut, too_many, no_entries}
use Rattle.docket.proofs.ListLeftFacts.{AreLeft}
use Rattle.docket.proofs.ListPassFacts.{IsAt}
use Rattle.docket.proofs.ListStartFacts.{left_whole}
use Rattle.docket.proofs.ListWalkFacts.{within_or_over}

pub begin_at : (texts : Fields) (programmes residents : List ℕ) (lists : KeptLists) (rows : List Fields) (builder : Draft) → AreLists texts lists rows → AreKnown texts programmes residents rows
    → IsRanked builder rows [] → IsAt texts rows builder lists.entries
begin_at texts programmes residents lists rows builder h known start = record {
  done = [];
  rest = rows;
  all = refl;
  ranked = start;
  none = first_from-none (ranking_fault rows);
  within = h.within;
  enough = by (within_or_over lists.brought MOST_NAMES);
}
  where
    by : (lists.brought ≤ MOST_NAMES) ⊎ (MOST_NAMES < lists.brought) → AreLeft rows [] rows (map (named texts) lists.entries)
    by (inl few) = subst (λ (l : List ListEntry). AreLeft rows [] rows l) (sym (h.whole few)) (left_whole rows [] rows known.sound known.few refl)
    by (inr over) = left_cut rows [] rows (map (named texts) lists.entries) (record { none = known.sound; few = known.few }) refl h.front
        (λ names. too_many texts rows _ lists.brought (few_members rows known.sound known.few) known.distinct over h.counted (no_entries rows (map (named texts) lists.entries) names))
