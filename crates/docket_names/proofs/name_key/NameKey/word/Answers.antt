use Rattle.std.proofs.Common.{◌≡◌, ◌∙◌, ap, take, length, arith, rules, List, ℕ}
use Rattle.std.proofs.lemmas.List.{length-take}
use Rattle.docket_names.specs.NameKeys.{filled}
use Rattle.docket_names.proofs.name_key.NameKey.word.Goals as goal

pub returns-then-self-le8 : goal.returns-then-self-le8
returns-then-self-le8 c = λ few.
    c.first_word-word_one.ensures.bytes ∙ ap (λ (l : List ℕ). take 8 l) c.self.invariant.filled_up
    ∙ ap (λ (l : List ℕ). take 8 (filled l)) c.self.view_is

pub returns : goal.returns
returns c = λ few.
    let size = ap length c.self.view_is in
    let front = length-take c.self.inside.len c.self.inside.bytes in
    let all : length c.self.inside.bytes ≡ 32 = search rules in
    absurd (omega arith)
