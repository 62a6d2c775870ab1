use Rattle.std.proofs.Common.{◌∙◌, ap, sym, rules, take, drop, length, List, ℕ}
use Rattle.std.specs.Int.{w64, from_le_bytes}
use Rattle.std.proofs.lemmas.Nat.{le_bytes_8}
use Rattle.docket_names.proofs.NameKeyFacts.{eight_from, bounded_part}
use Rattle.docket_names.proofs.name_key.word_at.Goals as goal

pub returns-clause-value : goal.returns-clause-value
returns-clause-value c = c.from_le_bytes.ensures ∙ ap (from_le_bytes w64) (sym (eight_from c.args.bytes.now c.args.i (search (rules, c.requires))))

pub returns-clause-bytes : goal.returns-clause-bytes
returns-clause-bytes c =
    let eight = eight_from c.args.bytes.now c.args.i (search (rules, c.requires)) in
    le_bytes_8 (take 8 (drop c.args.i c.args.bytes.now)) c.from_le_bytes.result (ap (λ (l : List ℕ). length l) eight)
    (λ k. bounded_part c.args.bytes.now c.args.i 8 k c.fits-bytes) (c.from_le_bytes.ensures ∙ ap (from_le_bytes w64) (sym eight))
