use Rattle.std.proofs.Common.{◌≡◌, sym, ◌∙◌, codes, None}
use Rattle.clap.specs.Words.{found_of}
use Rattle.clap.proofs.WalkLemmas.{first_value-rows}
use Rattle.seal_text.proofs.compare_line.pairs_named.Goals as goal

pub returns-in-Some-get_str-clause-pairs : goal.returns-in-Some-get_str-clause-pairs
returns-in-Some-get_str-clause-pairs c =
    (c.in-Some.ensures.rows, sym (c.in-Some-get_str.ensures ∙ first_value-rows (found_of c.args.matches.now) (codes "directory")))

pub returns-in-None-clause-none : goal.returns-in-None-clause-none
returns-in-None-clause-none c =
    let none = sym (c.in-None.ensures ∙ first_value-rows (found_of c.args.matches.now) (codes "directory")) in
    λ same rows directory given. absurd (cc (sym given.1 ∙ none))
