use Rattle.std.proofs.Common.{◌∙◌, ap, sym, rules, take, drop, List, ℕ}
use Rattle.std.specs.Int.{w64, from_le_bytes, to_le_bytes}
use Rattle.docket_names.proofs.NameKeyFacts.{by_eights, words_tell}
use Rattle.docket_names.proofs.name_key.same_words.Goals as goal

pub returns : goal.returns
returns c =
    words_tell c.args.left_bytes.now c.args.right_bytes.now c.word_at.result c.word_at-3.result c.word_at-5.result c.word_at-7.result
    c.word_at-2.result c.word_at-4.result c.word_at-6.result c.word_at-8.result
    (λ same. (
      c.word_at.ensures.value ∙ ap (λ (l : List ℕ). from_le_bytes w64 (take 8 (drop 0 l))) same ∙ sym c.word_at-2.ensures.value,
      c.word_at-3.ensures.value ∙ ap (λ (l : List ℕ). from_le_bytes w64 (take 8 (drop 8 l))) same ∙ sym c.word_at-4.ensures.value,
      c.word_at-5.ensures.value ∙ ap (λ (l : List ℕ). from_le_bytes w64 (take 8 (drop 16 l))) same ∙ sym c.word_at-6.ensures.value,
      c.word_at-7.ensures.value ∙ ap (λ (l : List ℕ). from_le_bytes w64 (take 8 (drop 24 l))) same ∙ sym c.word_at-8.ensures.value,
    ))
    (λ e f g h. by_eights c.args.left_bytes.now c.args.right_bytes.now (search rules) (search rules)
    (sym c.word_at.ensures.bytes ∙ ap (to_le_bytes w64) e ∙ c.word_at-2.ensures.bytes)
    (sym c.word_at-3.ensures.bytes ∙ ap (to_le_bytes w64) f ∙ c.word_at-4.ensures.bytes)
    (sym c.word_at-5.ensures.bytes ∙ ap (to_le_bytes w64) g ∙ c.word_at-6.ensures.bytes)
    (sym c.word_at-7.ensures.bytes ∙ ap (to_le_bytes w64) h ∙ c.word_at-8.ensures.bytes))
