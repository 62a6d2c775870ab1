-- Guesses at the numbers of texts.
use Rattle.std.proofs.Common.{◌≡◌, ◌≤◌, ℕ, List, [], take, length, get_or, arith, sym, ◌∙◌, ap, Some}
use Rattle.std.specs.Prelude.{slice_get}
use Rattle.std.specs.Int.{w64, to_le_bytes}
use Rattle.std.proofs.lemmas.List.{get_or-take}
use Rattle.std.proofs.lemmas.List.Elements.{All-weaker}
use Rattle.std.proofs.lemmas.Option.{slice_get-get_or, get_or_from_slice_get, slice_get_within}
use Rattle.docket_names.specs.NameKeys.{filled}
use Rattle.docket_names.specs.Texts.{StartsWith}
use Rattle.docket_names.specs.Guesses.{IsGuess, AreGuesses}
use Rattle.docket_names.specs.declared.guesses.Guess.{Guess}
use Rattle.docket_names.proofs.NameKeyFacts.{filled_front}
use Rattle.docket_names.proofs.TextFacts.{starts_length}

-- after texts were added, text n is still the same text
text_kept : (texts more : List (List ℕ)) (n : ℕ) (text : List ℕ) → StartsWith texts more → slice_get texts n ≡ Some text → slice_get more n ≡ Some text
text_kept texts more n text s at =
    let within = slice_get_within texts n text at in
    let longer = starts_length texts more s in
    let same : get_or more n [] ≡ get_or texts n [] = sym (get_or-take (length texts) more n [] within) ∙ ap (λ (l : List (List ℕ)). get_or l n []) s in
    slice_get-get_or more n [] (omega arith) ∙ ap Some (same ∙ get_or_from_slice_get texts n text [] at)

-- guesses stay right when texts are added
pub guesses_kept : (texts more : List (List ℕ)) (guesses : List Guess) → StartsWith texts more → AreGuesses texts guesses → AreGuesses more guesses
guesses_kept texts more guesses s h =
    All-weaker (λ g. IsGuess texts g.word g.len g.number) (λ g. IsGuess more g.word g.len g.number)
    (λ g is. record { told = λ text size some few same. text_kept texts more g.number text s (is.told text size some few same) }) guesses h

-- the number of a text, with the text's length and the word of its first eight bytes, is a guess
pub guess_right : (texts : List (List ℕ)) (name : List ℕ) (word number : ℕ) → slice_get texts number ≡ Some name
    → (length name ≤ 8 → to_le_bytes w64 word ≡ take 8 (filled name)) → IsGuess texts word (length name) number
guess_right texts name word number at bytes = record { told = λ text size some few same. at ∙ ap Some (is text size few same) }
  where
    is : (text : List ℕ) → length text ≡ length name → length text ≤ 8 → to_le_bytes w64 word ≡ take 8 (filled text) → name ≡ text
    is text size few same =
        let short : length name ≤ 8 = omega (arith, size) in
        sym (filled_front name short) ∙ ap (λ (l : List ℕ). take (length name) l) (sym (bytes short) ∙ same)
        ∙ ap (λ k. take k (take 8 (filled text))) (sym size) ∙ filled_front text few
