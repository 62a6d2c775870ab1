use Rattle.std.proofs.Common.{◌≡◌, ℕ, ◌++◌, take}
use Rattle.std.specs.Prelude.{string_bytes}
use Rattle.std.specs.List.{flat_map, zip}
use Rattle.match_reasons.specs.declared.reason.Why.{Why}
use Rattle.reasons_text.specs.Lines.{line}
use Rattle.reasons_text.specs.Naming.{naming_of}
use Rattle.reasons_text.proofs.answering.push_each.Given as goal

abbrev pub invariant-loop-choice_index : goal.invariant-loop-choice_index
invariant-loop-choice_index l =
    string_bytes l.answer_lines ≡ string_bytes l.fn.answer_lines ++ flat_map (λ (told : ℕ × Why). line (naming_of l.manner.names) l.manner.without_ranks l.resident told.0 told.1)
    (take l.choice_index (zip l.programmes l.reasons))
