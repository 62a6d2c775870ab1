-- How often each mark stands in a key's bytes, counted one byte after another.
use Rattle.std.proofs.Common.{◌≡◌, ◌∙◌, ◌<◌, ◌≤◌, ◌+◌, ℕ, List, length, drop, get_or, true, false, refl, ap, add-one, drop-cons, drop_of_length-le}
use Rattle.reasons_text.specs.Delimiter.{counted, ends_line, marks_of}
use Rattle.reasons_text.specs.declared.delimiter.Marks.{Marks}

-- if the next byte does not end the line, this byte is counted, and the bytes after it remain
pub marks_more : (bytes : List ℕ) (all marks new : Marks) (i : ℕ) → i < length bytes → ends_line marks (get_or bytes i 0) ≡ false → new ≡ counted marks (get_or bytes i 0)
    → all ≡ marks_of marks (drop i bytes) → all ≡ marks_of new (drop (i + 1) bytes)
unfolding marks_of
marks_more bytes all marks new i lt goes is was = rw is (was ∙ ap (marks_of marks) (drop-cons bytes i 0 lt) ∙ rw (goes, add-one) refl)

-- if the next byte ends the line, the counts so far are the counts of the line
pub marks_stop : (bytes : List ℕ) (all marks : Marks) (i : ℕ) → i < length bytes → ends_line marks (get_or bytes i 0) ≡ true
    → all ≡ marks_of marks (drop i bytes) → marks ≡ all
unfolding marks_of
marks_stop bytes all marks i lt ends was = rw (was, drop-cons bytes i 0 lt, ends) refl

-- if no byte is left, the counts so far are the counts of the line
pub marks_end : (bytes : List ℕ) (all marks : Marks) (i : ℕ) → length bytes ≤ i → all ≡ marks_of marks (drop i bytes) → marks ≡ all
unfolding marks_of
marks_end bytes all marks i past was = rw (was, drop_of_length-le bytes past) refl
