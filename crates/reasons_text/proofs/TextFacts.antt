-- The code's test whether a field's bytes are text.
use Rattle.std.proofs.Common.{◌≡◌, inl, inr, true, false, List, ℕ}
use Rattle.std.specs.Str.{IsUtf8, is_utf8}
use Rattle.std.proofs.lemmas.Bool.{cases_Bool}
use Rattle.std.proofs.lemmas.Str.{IsUtf8-from_is_utf8, is_utf8-from_IsUtf8}

pub is_text : (text : List ℕ) → IsUtf8 text → is_utf8 text ≡ true
is_text text h = is_utf8-from_IsUtf8 text h

pub no_text : (text : List ℕ) → (IsUtf8 text → ⊥) → is_utf8 text ≡ false
no_text text h = elim (cases_Bool (is_utf8 text)) [
  | inl is ↦ absurd (h (IsUtf8-from_is_utf8 text is))
  | inr not ↦ not
]
