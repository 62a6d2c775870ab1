use Rattle.std.proofs.Common.{◌∙◌, ap, sym, rules, take, length, List, ℕ}
use Rattle.std.specs.Int.{w64, from_le_bytes}
use Rattle.std.proofs.lemmas.Nat.{le_bytes_8}
use Rattle.docket_names.proofs.NameKeyFacts.{first_eight, bounded_front}
use Rattle.docket_names.proofs.name_key.first_word.Goals as goal

pub returns-clause-value : goal.returns-clause-value
returns-clause-value c = c.from_le_bytes.ensures ∙ ap (from_le_bytes w64) (sym (first_eight c.args.bytes.now (search rules)))

pub returns-clause-bytes : goal.returns-clause-bytes
returns-clause-bytes c =
    let eight = first_eight c.args.bytes.now (search rules) in
    le_bytes_8 (take 8 c.args.bytes.now) c.from_le_bytes.result (ap (λ (l : List ℕ). length l) eight)
    (λ i. bounded_front c.args.bytes.now 8 i c.fits-bytes) (c.from_le_bytes.ensures ∙ ap (from_le_bytes w64) (sym eight))
