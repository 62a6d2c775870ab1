use Rattle.std.proofs.Common.{◌≡◌, length, take}
use Rattle.match_model.specs.Instance.{list_at}
use Rattle.reasons_text.specs.Answers.{AreFirst, case_of}
use Rattle.reasons_text.proofs.case.answers_from.Given as goal

abbrev pub invariant-loop-choice_index : goal.invariant-loop-choice_index
invariant-loop-choice_index l = record {
  listed : l.programmes.items ≡ take l.choice_index (list_at l.written_lists.resident_lists l.resident);
  each : length l.reasons.items ≡ l.choice_index;
  first : AreFirst (case_of l.docket l.sheet l.written_lists l.taken_places) l.resident (list_at l.written_lists.resident_lists l.resident) l.reasons.items;
}
