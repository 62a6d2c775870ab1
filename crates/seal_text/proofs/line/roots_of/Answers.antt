use Rattle.std.proofs.Common.{sym, ◌∙◌, codes}
use Rattle.clap.specs.Words.{found_of}
use Rattle.clap.proofs.WalkLemmas.{first_value-rows}
use Rattle.seal_text.proofs.line.roots_of.Goals as goal

pub returns-in-Some-clause-roots : goal.returns-in-Some-clause-roots
returns-in-Some-clause-roots c =
    let matches = found_of c.args.matches.now in
    record {
      lists = sym (c.in-Some.ensures ∙ first_value-rows matches (codes "lists"));
      outcome = sym (c.get_str-in-Some.ensures ∙ first_value-rows matches (codes "result"));
    }

pub returns-in-None-clause-none : goal.returns-in-None-clause-none
returns-in-None-clause-none c = λ same. sym (c.in-None.ensures ∙ first_value-rows (found_of c.args.matches.now) (codes "lists"))
