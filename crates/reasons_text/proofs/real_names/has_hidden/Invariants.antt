use Rattle.std.proofs.Common.{◌≡◌, IsUtf8}
use Rattle.std.specs.List.{list_any}
use Rattle.std.specs.Prelude.{chars}
use Rattle.std.specs.Str.Iter.{chars_rest}
use Rattle.reasons_text.specs.RealNames.{is_hidden}
use Rattle.reasons_text.proofs.real_names.has_hidden.Given as goal

abbrev pub invariant-loop-c : goal.invariant-loop-c
invariant-loop-c l = IsUtf8 (chars_rest l.c-iterator) × (list_any is_hidden (chars (chars_rest l.c-iterator)) ≡ list_any is_hidden (chars l.text))
