-- An answer is stored as a number, its note. The resident and the kind can be read back from the note.
use Rattle.std.proofs.Common.{◌≡◌, ℕ, ◌+◌, ◌*◌, arith}
use Rattle.std.specs.Prelude.{◌/◌, ◌%◌}
use Rattle.exchange_core.specs.declared.event.AnswerKind.{AnswerKind}
use Rattle.exchange_core.specs.declared.event.AnswerKind.TheVariants.{Hold, Decline, Release}
use Rattle.exchange_core.specs.Rows.{kind_of, note_of, answer_of}

pub answer_of_note : (r : ℕ) (k : AnswerKind) → answer_of (note_of (r, k)) ≡ (r, k)
answer_of_note r Hold = λ i. (whole i, kind_of (rest i))
  where
    whole : (r * 4 + 0) / 4 ≡ r
    whole = omega arith

    rest : (r * 4 + 0) % 4 ≡ 0
    rest = omega arith
answer_of_note r Decline = λ i. (whole i, kind_of (rest i))
  where
    whole : (r * 4 + 1) / 4 ≡ r
    whole = omega arith

    rest : (r * 4 + 1) % 4 ≡ 1
    rest = omega arith
answer_of_note r Release = λ i. (whole i, kind_of (rest i))
  where
    whole : (r * 4 + 2) / 4 ≡ r
    whole = omega arith

    rest : (r * 4 + 2) % 4 ≡ 2
    rest = omega arith
