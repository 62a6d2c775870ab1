use Rattle.std.proofs.Common.{map, take}
use Rattle.match_model.specs.Instance.{list_at}
use Rattle.docket.specs.Texts.{programme_name}
use Rattle.seal_text.specs.Texts.{Extends}
use Rattle.seal_text.proofs.texts.push_choices.Given as goal

abbrev pub invariant-loop-k : goal.invariant-loop-k
invariant-loop-k l = Extends l.initial.row l.row (take l.k (map (programme_name l.docket) (list_at l.written_lists.resident_lists l.resident)))
