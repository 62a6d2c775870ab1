use Rattle.std.proofs.Common.{◌≡◌, ◌∙◌, ap, sym, rules, take, take_all, length, arith}
use Rattle.std.specs.Int.{w64, from_le_bytes}
use Rattle.std.proofs.lemmas.Nat.{le_bytes_8}
use Rattle.docket_names.proofs.NameKeyFacts.{first_eight}
use Rattle.docket_names.proofs.name_key.word_of.Goals as goal

pub returns : goal.returns
returns c =
    let size : length c.args.bytes.now ≡ 8 = search (rules) in
    let whole : take 8 c.args.bytes.now ≡ c.args.bytes.now = take_all 8 c.args.bytes.now (omega (arith, size)) in
    let eight = sym whole ∙ first_eight c.args.bytes.now (omega (arith, size)) in
    le_bytes_8 c.args.bytes.now c.from_le_bytes.result size c.fits-bytes (c.from_le_bytes.ensures ∙ ap (from_le_bytes w64) (sym eight))
