use Rattle.std.proofs.Common.{◌≡◌, ◌++◌, IsUtf8, string_bytes}
use Rattle.std.specs.Str.Iter.{chars_rest}
use Rattle.reasons_text.specs.Shown.{shown_text}
use Rattle.reasons_text.proofs.shown.push_shown.Given as goal

abbrev pub invariant-loop-c : goal.invariant-loop-c
invariant-loop-c l =
    IsUtf8 (chars_rest l.c-iterator) × (string_bytes l.terminal_text ++ shown_text (chars_rest l.c-iterator) ≡ string_bytes l.fn.terminal_text ++ shown_text l.added_text)
