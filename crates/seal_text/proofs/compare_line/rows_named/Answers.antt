use Rattle.std.proofs.Common.{inl, inr, sym, ◌∙◌, codes}
use Rattle.clap.specs.Words.{found_of}
use Rattle.clap.proofs.WalkLemmas.{first_value-rows}
use Rattle.seal_text.proofs.compare_line.rows_named.Goals as goal

pub returns-in_default-clause-none : goal.returns-in_default-clause-none
returns-in_default-clause-none c = λ same. inl (sym (c.in_default.ensures ∙ first_value-rows (found_of c.args.matches.now) (codes "lists")))

pub returns-in-Some-get_str-clause-rows : goal.returns-in-Some-get_str-clause-rows
returns-in-Some-get_str-clause-rows c =
    let matches = found_of c.args.matches.now in
    record {
      lists = sym (c.in-Some.ensures ∙ first_value-rows matches (codes "lists"));
      outcome = sym (c.in-Some-get_str.ensures ∙ first_value-rows matches (codes "result"));
    }

pub returns-in-None-clause-none : goal.returns-in-None-clause-none
returns-in-None-clause-none c = λ same. inr (sym (c.in-None.ensures ∙ first_value-rows (found_of c.args.matches.now) (codes "result")))
