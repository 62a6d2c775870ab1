use Rattle.std.proofs.Common.{◌≡◌, ◌∙◌, ap, sym, rules, length}
use Rattle.std.specs.Int.{w64, to_le_bytes}
use Rattle.docket_names.proofs.NameKeyFacts.{short_is}
use Rattle.docket_names.proofs.name_key.NameKey.is_short.Goals as goal

pub returns-then-self-text : goal.returns-then-self-text
returns-then-self-text c = λ on.
    let words : c.first_word.result ≡ c.args.word = search (rules, on) in
    let alike = sym c.first_word.ensures.bytes ∙ ap (to_le_bytes w64) words ∙ c.requires.word in
    let sized : c.self.inside.len ≡ length c.args.text.now = search (rules, c.if-self-text.true) in
    sym c.self.view_is ∙ short_is c.self.inside.len c.self.inside.bytes c.args.text.now sized c.requires.short alike
