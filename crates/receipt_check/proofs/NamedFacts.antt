-- The pieces between the commas of a real name's row have neither commas nor line feeds.
use Rattle.std.proofs.Common.{◌≡◌, ℕ, false, List, inl, inr}
use Rattle.std.specs.Str.{IsUtf8, is_utf8}
use Rattle.std.proofs.lemmas.Bool.{cases_Bool}
use Rattle.std.proofs.lemmas.Str.{IsUtf8-from_is_utf8}

-- bytes that aren't UTF-8 fail the code's test for UTF-8
pub no_text : (text : List ℕ) → (IsUtf8 text → ⊥) → is_utf8 text ≡ false
no_text text h = elim (cases_Bool (is_utf8 text)) [
  | inl is ↦ absurd (h (IsUtf8-from_is_utf8 text is))
  | inr not ↦ not
]
