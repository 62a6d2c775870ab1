use Rattle.std.proofs.Common.{◌≡◌, true, ◌∙◌, ap, sym, rules}
use Rattle.std.specs.Prelude.{nat_le}
use Rattle.std.specs.Int.{w64, to_le_bytes}
use Rattle.std.proofs.lemmas.Slice.Eq.{bytes_eq-Decides}
use Rattle.docket_names.proofs.NameKeyFacts.{short_same}
use Rattle.docket_names.proofs.name_key.NameKeyPartialEq.eq.Goals as goal

pub returns-then-self-le8 : goal.returns-then-self-le8
returns-then-self-le8 c =
    let words : c.first_word.result ≡ c.first_word-2.result = search (rules, c.if-first_word.false) in
    let alike = sym c.first_word.ensures.bytes ∙ ap (to_le_bytes w64) words ∙ c.first_word-2.ensures.bytes in
    let lens : c.self.inside.len ≡ c.other.inside.len = search (rules, c.if-self-other.false) in
    let short = c.if-self-le8.true in
    let told : nat_le c.self.inside.len 8 ≡ true = search (rules, short) in
    told ∙ sym ((bytes_eq-Decides c.args.self.now c.args.other.now).1
    (sym c.self.view_is ∙ short_same c.self.inside.len c.other.inside.len c.self.inside.bytes c.other.inside.bytes lens short alike ∙ c.other.view_is))
