-- The form in which a text is shown, made character by character.
use Rattle.std.proofs.Common.{◌≡◌, ◌++◌, ℕ, IsUtf8, List, [], length, encode_utf8, true, false, refl}
use Rattle.std.specs.Prelude.{chars}
use Rattle.std.specs.List.{list_any}
use Rattle.reasons_text.specs.RealNames.{is_hidden}
use Rattle.std.proofs.StrCases.{chars_of_empty}
use Rattle.std.proofs.lemmas.Str.{chars_past_char}
use Rattle.reasons_text.specs.Shown.{shown_char, shown_text}

pub shown_text_empty : (text : List ℕ) → length text ≡ 0 → shown_text text ≡ []
unfolding shown_text
shown_text_empty text none = rw (chars_of_empty text none)

pub shown_text_step : (text rest : List ℕ) (c : ℕ) → IsUtf8 text → text ≡ encode_utf8 c ++ rest → shown_text text ≡ encode_utf8 (shown_char c) ++ shown_text rest
unfolding shown_text
shown_text_step text rest c utf8 parts = rw (chars_past_char text rest c utf8 parts)

-- if a text begins with a hidden character, it has a hidden character
pub hidden_here : (text rest : List ℕ) (c : ℕ) → IsUtf8 text → text ≡ encode_utf8 c ++ rest → is_hidden c ≡ true → list_any is_hidden (chars text) ≡ true
hidden_here text rest c utf8 parts h = rw (chars_past_char text rest c utf8 parts, h) refl

pub hidden_later : (text rest : List ℕ) (c : ℕ) → IsUtf8 text → text ≡ encode_utf8 c ++ rest → is_hidden c ≡ false
    → list_any is_hidden (chars text) ≡ list_any is_hidden (chars rest)
hidden_later text rest c utf8 parts h = rw (chars_past_char text rest c utf8 parts, h) refl

pub hidden_none : (text : List ℕ) → length text ≡ 0 → list_any is_hidden (chars text) ≡ false
hidden_none text none = rw (chars_of_empty text none) refl
